-- What is kept of the counts, core by core, and the situation in canonical form.
use Rattle.std.proofs.Common.{◌≡◌, ◌≢◌, ◌∙◌, ℕ, ◌+◌, true, ◌==◌, List, Option, nat_lt, if◌then◌else◌, inl, inr, refl, sym, ap, arith}
use Rattle.std.proofs.lemmas.Bool.{cases_eq, cases_lt, eq-eqb, le-ltb, lt-ltb, ne_eqb}
use Rattle.apex_alike.specs.Canonical.{canonical, canonical_roster}
use Rattle.apex_alike.specs.Closed.{IsSameSituation}
use Rattle.apex_dispatch.specs.Situations.{situation_with}
use Rattle.apex_machine.specs.Deeds.{Objects}
use Rattle.apex_machine.specs.Situations.{Situation}
use Rattle.apex_machine.specs.processes.Roster.{Roster}
use Rattle.apex_choices.specs.Counts.{count_at}
use Rattle.apex_forms.specs.Terms.{OpenWork}
use Rattle.apex_choices.proofs.Same.{same_from}

-- the counts of the first cores are kept, and nothing is counted of the others
abbrev pub AreKept : (ℕ → ℕ) → ℕ → List ℕ → Type 0
AreKept kept number counts = (core : ℕ) → count_at counts core ≡ (if nat_lt core number then kept core else 0)

-- that of one core more
pub kept_more : (kept : ℕ → ℕ) (old new : List ℕ) (number core value : ℕ) → AreKept kept number old
    → ((c : ℕ) → count_at new c ≡ (if c == core then value else count_at old c)) → core ≡ number → value ≡ kept core
    → AreKept kept (number + 1) new
kept_more kept old new number core value before put here is c = elim (cases_eq c core) [
  | inl same ↦
      let own : count_at new c ≡ value = put c ∙ rw (eq-eqb c core same) refl in
      let within : nat_lt c (number + 1) ≡ true = lt-ltb c (number + 1) (omega (arith, same, here)) in
      rw within (own ∙ is ∙ ap kept (sym same))
  | inr other ↦
      let still : count_at new c ≡ count_at old c = put c ∙ rw (ne_eqb c core other) refl in
      still ∙ before c ∙ same_side c (λ e. other (e ∙ sym here))
] where
  same_side : (c : ℕ) → c ≢ number → (if nat_lt c number then kept c else 0) ≡ (if nat_lt c (number + 1) then kept c else 0)
  same_side c apart = elim (cases_lt c number) [
    | inl below ↦ rw (lt-ltb c number below, lt-ltb c (number + 1) (omega (arith, below))) refl
    | inr above ↦ rw (le-ltb c number above, le-ltb c (number + 1) (omega (arith, above, apart))) refl
  ]

-- the situation with its roster in canonical form
pub canonical_is : (before after : Situation) (roster made_roster : Roster) (objects : Objects) (works : List (Option OpenWork))
    (made : ℕ) → before ≡ situation_with roster objects works made → made_roster ≡ canonical_roster roster
    → after ≡ situation_with made_roster objects works made → IsSameSituation after (canonical before)
canonical_is before after roster made_roster objects works made is form later =
    same_from after (canonical before)
    (later ∙ ap (λ (r : Roster). situation_with r objects works made) form ∙ ap canonical (sym is))
