-- A pace allows the same events in a form as in a situation for which it stands.
use Rattle.std.proofs.Common.{◌≡◌, ℕ, zero, suc, ◌+◌, ◌-◌, ◌≤◌, Bool, true, false, Option, None, Some, inl, inr, refl, sym, ◌∙◌, ap, arith, nat_lt, min, max, ◌==◌, is_none, is_some, ◌&&◌, not, option_map, if◌then◌else◌, ltb-true, lt-ltb}
use Rattle.std.proofs.lemmas.Bool.{cases_Bool, cases_lt, false≢true, le-ltb}
use Rattle.apex_types.specs.declared.entries.Event.TheVariants.{Turn, Tick}
use Rattle.apex_types.specs.declared.limits.TheConstants.{MOST_TICKS}
use Rattle.apex_types.specs.Modes.{is_cold_start}
use Rattle.apex_types.specs.declared.calls.Call.{Call}
use Rattle.apex_machine.specs.Situations.{due_call}
use Rattle.apex_machine.specs.processes.Dues.{is_instant, next_instant, sooner}
use Rattle.apex_machine.specs.table.Table.{Table, call_in}
use Rattle.apex_pace.specs.Laws.{IsPace}
use Rattle.apex_pace.specs.Pace.{Paced, all_ticks, first_work_end, is_allowed, is_at_work, is_idle, is_quiet, is_settled, is_starting, is_within, least_ticks, may_turn, needs_time, next_moment, next_tick, settled_tick, ticks_to, work_end}
use Rattle.apex_pace.proofs.Within.{least_all}
use Rattle.apex_alike.specs.Alike.{AreAlike, later}
use Rattle.apex_alike.proofs.Choices.{same_chosen, same_next}
use Rattle.apex_forms.specs.Forms.{kept_worked}
use Rattle.apex_search.specs.Laws.{StandsFor}
use Rattle.apex_choices.specs.Choices.{event_of}
use Rattle.apex_search.specs.Terms.{Event, Mode, OpenWork, Pace}
use Rattle.apex_choices.proofs.Same.{same_all}

-- a count that stops at `most` passes the tests below that
below_most : (count most bound : ℕ) → bound ≤ most → nat_lt (min count most) bound ≡ nat_lt count bound
below_most count most bound few = elim (cases_lt count bound) [
  | inl less ↦ lt-ltb (min count most) bound (omega (arith, less)) ∙ sym (lt-ltb count bound less)
  | inr more ↦ le-ltb (min count most) bound (omega (arith, more, few)) ∙ sym (le-ltb count bound more)
]

-- the count of open work that is kept
abbrev kept_of : Bool → ℕ → ℕ → ℕ
kept_of unbroken worked amount = if unbroken then min worked amount else 0

within_kept : (unbroken : Bool) (worked amount bound : ℕ) → bound ≤ amount
    → (unbroken && nat_lt (kept_of unbroken worked amount) bound) ≡ (unbroken && nat_lt worked bound)
within_kept false worked amount bound few = refl
within_kept true worked amount bound few = below_most worked amount bound few

-- work needs more ticks by the count that is kept exactly if it does by the whole count
pub same_within : (ticks : ℕ → ℕ) → ((n : ℕ) → ticks n ≤ n) → (worked : ℕ) (begun : Option OpenWork)
    → is_within ticks (kept_worked begun worked) begun ≡ is_within ticks worked begun
same_within ticks less worked None = refl
same_within ticks less worked (Some o) = within_kept o.unbroken worked o.work.amount (ticks o.work.amount) (less o.work.amount)

-- and then both counts are the same
kept_whole : (unbroken : Bool) (worked amount bound : ℕ) → bound ≤ amount → (unbroken && nat_lt worked bound) ≡ true
    → kept_of unbroken worked amount ≡ worked
kept_whole false worked amount bound few needs = absurd (false≢true needs)
kept_whole true worked amount bound few needs = let less = ltb-true worked bound needs in omega (arith, less, few)

later_sooner : (d : ℕ) (one other : Option ℕ) → sooner (later d one) (later d other) ≡ later d (sooner one other)
later_sooner d None other = refl
later_sooner d (Some t) None = refl
later_sooner d (Some t) (Some u) = let e : min (t + d) (u + d) ≡ min t u + d = omega arith in ap Some e

module _ (pace : Pace) (is_pace : IsPace pace) (table : Table) {d : ℕ} {form s : Paced} (stands : StandsFor pace d form s) where
  abbrev alike : AreAlike d form.situation.roster s.situation.roster
  alike = stands.alike.rosters

  works : (core : ℕ) → form.situation.works core ≡ s.situation.works core
  works core = sym (stands.alike.works core)

  pub same_starting : is_starting form ≡ is_starting s
  same_starting = sym (ap is_cold_start alike.mode)

  same_idle : (core : ℕ) → is_idle form core ≡ is_idle s core
  same_idle core = rw (works core) (ap (λ found. is_none (s.situation.works core) && is_none found) (sym (same_chosen alike core)))

  same_by : (ticks : ℕ → ℕ) → ((n : ℕ) → ticks n ≤ n) → (core : ℕ)
      → is_within ticks (form.worked core) (form.situation.works core) ≡ is_within ticks (s.worked core) (s.situation.works core)
  same_by ticks less core = rw (works core, stands.worked core) (same_within ticks less (s.worked core) (s.situation.works core))

  same_at_work : (core : ℕ) → is_at_work form core ≡ is_at_work s core
  same_at_work core = same_by all_ticks (λ n. omega arith) core

  same_needs : (core : ℕ) → needs_time pace.percent form core ≡ needs_time pace.percent s core
  same_needs core = same_by (least_ticks pace.percent) (least_all pace.percent is_pace) core

  same_quiet : (core : ℕ) → is_quiet pace.percent form core ≡ is_quiet pace.percent s core
  same_quiet core = rw (same_idle core, same_needs core) refl

  same_few : (core : ℕ) → nat_lt (form.turns core) pace.turns ≡ nat_lt (s.turns core) pace.turns
  same_few core = rw (stands.turns core) (below_most (s.turns core) pace.turns pace.turns (omega arith))

  same_settled : (core : ℕ) → is_settled pace form core ≡ is_settled pace s core
  same_settled core = rw (same_idle core, same_at_work core, same_few core) refl

  -- work ends d later
  abbrev end_of : ℕ → ℕ → Option OpenWork → Option ℕ
  end_of now worked begun =
      if is_within (least_ticks pace.percent) worked begun
      then option_map (λ (o : OpenWork). now + (least_ticks pace.percent o.work.amount - worked)) begun else None

  later_of : (now worked : ℕ) (begun : Option OpenWork)
      → end_of (now + d) worked begun ≡ later d (end_of now (kept_worked begun worked) begun)
  later_of now worked None = refl
  later_of now worked (Some o) = elim (cases_Bool (is_within (least_ticks pace.percent) worked (Some o))) [
    | inl needs ↦
        let less = least_all pace.percent is_pace o.work.amount in
        let whole : kept_worked (Some o) worked ≡ worked =
        kept_whole o.unbroken worked o.work.amount (least_ticks pace.percent o.work.amount) less needs in
        let e : now + d + (least_ticks pace.percent o.work.amount - worked) ≡ now + (least_ticks pace.percent o.work.amount - worked) + d = omega arith in
        rw (whole, needs) (ap Some e)
    | inr over ↦
        rw (same_within (least_ticks pace.percent) (least_all pace.percent is_pace) worked (Some o), over) refl
  ]

  later_end : (core : ℕ) → work_end pace.percent s core ≡ later d (work_end pace.percent form core)
  later_end core =
      ap (λ (now : ℕ). end_of now (s.worked core) (s.situation.works core)) alike.time
      ∙ later_of form.situation.roster.now (s.worked core) (s.situation.works core)
      ∙ ap (λ (worked : ℕ). later d (end_of form.situation.roster.now worked (s.situation.works core))) (sym (stands.worked core))
      ∙ ap (λ (begun : Option OpenWork). later d (end_of form.situation.roster.now (form.worked core) begun)) (sym (works core))

  later_ends : (n : ℕ) → first_work_end pace.percent s n ≡ later d (first_work_end pace.percent form n)
  later_ends zero = refl
  later_ends (suc n) =
      rw (later_end n, later_ends n) (later_sooner d (work_end pace.percent form n) (first_work_end pace.percent form n))

  later_moment : next_moment pace.percent table s ≡ later d (next_moment pace.percent table form)
  later_moment =
      rw (same_next alike, later_ends table.cores)
      (later_sooner d (next_instant form.situation.roster) (first_work_end pace.percent form table.cores))

  -- but it is as many ticks from now
  same_ticks_to : (moment : Option ℕ) → option_map (ticks_to s) (later d moment) ≡ option_map (ticks_to form) moment
  same_ticks_to None = refl
  same_ticks_to (Some t) =
      let e : t + d - s.situation.roster.now ≡ t - form.situation.roster.now = omega (arith, alike.time) in
      ap (λ (n : ℕ). Some (max 1 (min MOST_TICKS n))) e

  same_settled_tick : settled_tick pace.percent table form ≡ settled_tick pace.percent table s
  same_settled_tick =
      rw (same_all (is_quiet pace.percent form) (is_quiet pace.percent s) table.cores same_quiet, later_moment, same_ticks_to (next_moment pace.percent table form)) refl

  pub same_next_tick : next_tick pace table form ≡ next_tick pace table s
  same_next_tick =
      rw (same_starting, same_all (is_settled pace form) (is_settled pace s) table.cores same_settled, same_settled_tick) refl

  -- a turn, by what it depends on
  abbrev may_by : Bool → Option Call → Bool → Bool
  may_by starting due quiet = if starting then is_some due else not quiet

  same_due : (core : ℕ) → due_call table form.situation core ≡ due_call table s.situation core
  same_due core =
      ap (λ (m : Mode). if is_cold_start m && core == 0 then call_in table.init form.situation.made else None) (sym alike.mode)
      ∙ ap (λ (made : ℕ). if is_cold_start s.situation.roster.mode && core == 0 then call_in table.init made else None) (sym stands.alike.made)

  pub same_may_turn : (core : ℕ) → may_turn pace table form core ≡ may_turn pace table s core
  same_may_turn core =
      ap (λ (b : Bool). may_by b (due_call table form.situation core) (is_quiet pace.percent form core)) same_starting
      ∙ ap (λ (call : Option Call). may_by (is_starting s) call (is_quiet pace.percent form core)) (same_due core)
      ∙ ap (may_by (is_starting s) (due_call table s.situation core)) (same_quiet core)

  pub same_allowed : (event : Event) → is_allowed pace table form event ≡ is_allowed pace table s event
  same_allowed (Turn core) = rw (same_may_turn core) refl
  same_allowed (Tick n) = ap (is_instant n) same_next_tick

  -- each choice is the same event in both
  pub form_event : (choice : ℕ) → event_of pace table form choice ≡ event_of pace table s choice
  form_event choice = rw (same_may_turn choice, same_next_tick) refl
