-- The depth at which a process owns a mutex, as its holdings change.
use Rattle.std.proofs.Common.{◌≡◌, ◌≢◌, ℕ, Bool, true, false, List, [], ◌∷◌, ◌++◌, Option, None, Some, cond, refl, sym, ◌∙◌, ap, inl, inr}
use Rattle.std.proofs.lemmas.Bool.{cases_Bool, eqb-true, ne_eqb, or_parts}
use Rattle.std.proofs.lemmas.Option.{none-some}
use Rattle.apex_machine.specs.processes.Held.{holding_of, holds, is_of, with_depth, without}
use Rattle.apex_machine.specs.processes.Owners.{depth_of}
use Rattle.apex_machine.proofs.Held.{holds_gone}
use Rattle.apex_laws.specs.Terms.{Holding}

-- one holding before others
cond_depth : (b : Bool) (h : Holding) (x y : Option Holding) → depth_of x ≡ depth_of y
    → depth_of (cond b (Some h) x) ≡ depth_of (cond b (Some h) y)
cond_depth true h x y same = refl
cond_depth false h x y same = same

module _ (m : ℕ) where
  abbrev depth_among : List Holding → ℕ
  depth_among held = depth_of (holding_of m held)

  not_it : (i : ℕ) (h : Holding) → i ≢ m → is_of i h ≡ true → is_of m h ≡ false
  not_it i h apart is = ne_eqb h.mutex m (λ e. apart (sym (eqb-true h.mutex i is) ∙ e))

  pub depth_other : (i d : ℕ) → i ≢ m → (held : List Holding) → depth_among (with_depth i d held) ≡ depth_among held
  depth_other i d apart [] = refl
  depth_other i d apart (h ∷ hs) = elim (cases_Bool (is_of i h)) [
    | inl is ↦ rw (is, not_it i h apart is) (depth_other i d apart hs)
    | inr other ↦ rw other (cond_depth (is_of m h) h _ _ (depth_other i d apart hs))
  ]

  later_found : (x h : Holding) (xs : List Holding) → is_of m x ≡ false → holding_of m (x ∷ xs) ≡ Some h → holding_of m xs ≡ Some h
  later_found x h xs apart is = sym (ap (λ (b : Bool). cond b (Some x) (holding_of m xs)) apart) ∙ is

  pub depth_here : (d : ℕ) (held : List Holding) (h : Holding) → holding_of m held ≡ Some h → depth_among (with_depth m d held) ≡ d
  depth_here d [] h is = absurd (none-some h is)
  depth_here d (x ∷ xs) h is = elim (cases_Bool (is_of m x)) [
    | inl it ↦ rw it (rw it refl)
    | inr other ↦ rw other (rw other (depth_here d xs h (later_found x h xs other is)))
  ]

  pub more_other : (h : Holding) → is_of m h ≡ false → (held : List Holding) → depth_among (held ++ h ∷ []) ≡ depth_among held
  more_other h apart [] = rw apart refl
  more_other h apart (x ∷ xs) = cond_depth (is_of m x) x _ _ (more_other h apart xs)

  pub more_here : (h : Holding) → is_of m h ≡ true → (held : List Holding) → holding_of m held ≡ None → depth_among (held ++ h ∷ []) ≡ h.depth
  more_here h it [] is = rw it refl
  more_here h it (x ∷ xs) is = elim (cases_Bool (is_of m x)) [
    | inl first ↦
        let clash : None ≡ Some x = sym is ∙ ap (λ (b : Bool). cond b (Some x) (holding_of m xs)) first in
        absurd (none-some x clash)
    | inr other ↦ rw other (more_here h it xs (sym (ap (λ (b : Bool). cond b (Some x) (holding_of m xs)) other) ∙ is))
  ]

  unheld : (held : List Holding) → holds m held ≡ false → depth_among held ≡ 0
  unheld [] none = refl
  unheld (x ∷ xs) none =
      let parts = or_parts (is_of m x) (holds m xs) none in
      rw parts.0 (unheld xs parts.1)

  pub gone_here : (held : List Holding) → depth_among (without m held) ≡ 0
  gone_here held = unheld (without m held) (holds_gone m held)

  pub gone_other : (i : ℕ) → i ≢ m → (held : List Holding) → depth_among (without i held) ≡ depth_among held
  gone_other i apart [] = refl
  gone_other i apart (h ∷ hs) = elim (cases_Bool (is_of i h)) [
    | inl is ↦ rw (is, not_it i h apart is) (gone_other i apart hs)
    | inr other ↦ rw other (cond_depth (is_of m h) h _ _ (gone_other i apart hs))
  ]
