-- The front of a line: the soonest instant, and among equals the lowest number.
use Rattle.std.proofs.Common.{◌≡◌, ◌⊎◌, ℕ, ◌≤◌, true, ◌==◌, List, Option, None, Some, inl, inr, refl, ap, sym, subst, ◌∙◌, arith}
use Rattle.std.specs.Prelude.{if◌then◌else◌}
use Rattle.std.proofs.lemmas.Bool.{cases_eq, cases_Bool}
use Rattle.std.proofs.lemmas.Option.{none-some, same_Some}
use Rattle.apex_links.specs.Neighbours.{stands_in, first_of}
use Rattle.apex_links.proofs.Places.{first_none, first_stands}
use Rattle.apex_links.proofs.Sorted.{first_before}
use Rattle.apex_timeouts.specs.Timeline.{Times, due_at, instant_of, instant_on, is_after, next_of, IsOrdered}
use Rattle.apex_timeouts.proofs.Orders.{pair_later}

-- process p is on the line at instant t
pub record IsOn (times : Times) (p t : ℕ) : Type 0 where
  pub stands : stands_in p times.order ≡ true
  pub instant : instant_of times.instants p ≡ t

is_on : (times : Times) (p t : ℕ) → instant_on times p ≡ Some t → IsOn times p t
is_on times p t e = elim (cases_Bool (stands_in p times.order)) [
  | inl here ↦ record { stands = here; instant = same_Some _ _ (rw here at e) }
  | inr out ↦ absurd (none-some t (rw out at e))
]

on_is : (times : Times) (p : ℕ) → stands_in p times.order ≡ true → instant_on times p ≡ Some (instant_of times.instants p)
on_is times p here = rw here refl

-- a pair that comes later has no sooner instant, and at the same instant the higher number
later_from : (p i q j : ℕ) → pair_later p i q j ≡ true → i ≤ j
later_from p i q j later = grind (arith, later)

later_above : (p i q j : ℕ) → pair_later p i q j ≡ true → i ≡ j → p ≤ q
later_above p i q j later same = grind (arith, later, same)

-- the first of a list comes before all others
front_later : (instants : List ℕ) (p q : ℕ) (xs : List ℕ) → IsOrdered instants xs → first_of xs ≡ Some p → stands_in q xs ≡ true
    → (q ≡ p) ⊎ (is_after instants p q ≡ true)
front_later instants p q xs o e here = elim (cases_eq q p) [
  | inl same ↦ inl same
  | inr apart ↦ inr (first_before (is_after instants) p q xs o e here apart)
]

shown : (a t x : ℕ) → a ≡ t → (if a == t then Some x else None) ≡ Some x
shown a t x same = grind (arith, same)

module _ (times : Times) (ordered : IsOrdered times.instants times.order) where
  -- the first process is no later than any other, and of those at its instant it has the lowest
  -- number
  pub front_least : (p q u : ℕ) → first_of times.order ≡ Some p → instant_on times q ≡ Some u → instant_of times.instants p ≤ u
  front_least p q u first e =
      let there = is_on times q u e in
      elim (front_later times.instants p q times.order ordered first there.stands) [
        | inl same ↦ omega (arith, there.instant, ap (instant_of times.instants) same)
        | inr later ↦ omega (arith, there.instant, later_from p (instant_of times.instants p) q (instant_of times.instants q) later)
      ]

  pub front_lowest : (p q u : ℕ) → first_of times.order ≡ Some p → instant_on times q ≡ Some u → instant_of times.instants p ≡ u → p ≤ q
  front_lowest p q u first e at =
      let there = is_on times q u e in
      elim (front_later times.instants p q times.order ordered first there.stands) [
        | inl same ↦ omega (arith, same)
        | inr later ↦ later_above p (instant_of times.instants p) q (instant_of times.instants q) later (at ∙ sym there.instant)
      ]

  pub front_on : (p : ℕ) → first_of times.order ≡ Some p → instant_on times p ≡ Some (instant_of times.instants p)
  front_on p first = on_is times p (first_stands p times.order first)

  pub nobody_on : (q u : ℕ) → first_of times.order ≡ None → instant_on times q ≡ Some u → ⊥
  nobody_on q u nobody e =
      let there = is_on times q u e in absurd (grind (arith, there.stands, first_none q times.order nobody))

  -- the soonest instant
  front_case : (first : Option ℕ) → first_of times.order ≡ first → (t : ℕ) → next_of times ≡ Some t → (p : ℕ) × (first_of times.order ≡ Some p) × (instant_of times.instants p ≡ t)
  front_case None is t e = absurd (none-some t (rw is at e))
  front_case (Some p) is t e = (p, is, same_Some _ _ (rw is at e))

  pub next_among : (t : ℕ) → next_of times ≡ Some t → (p : ℕ) × (instant_on times p ≡ Some t)
  next_among t e =
      let found = front_case (first_of times.order) refl t e in
      (found.0, front_on found.0 found.1 ∙ ap Some found.2)

  pub next_least : (t q u : ℕ) → next_of times ≡ Some t → instant_on times q ≡ Some u → t ≤ u
  next_least t q u e on =
      let found = front_case (first_of times.order) refl t e in
      omega (arith, found.2, front_least found.0 q u found.1 on)

  next_case : (first : Option ℕ) → first_of times.order ≡ first → next_of times ≡ None → first_of times.order ≡ None
  next_case None is e = is
  next_case (Some p) is e = absurd (none-some (instant_of times.instants p) (sym (rw is at e)))

  pub next_none : (q u : ℕ) → next_of times ≡ None → instant_on times q ≡ Some u → ⊥
  next_none q u e = nobody_on q u (next_case (first_of times.order) refl e)

  -- a process that is due at an instant is the first
  due_case : (t : ℕ) (first : Option ℕ) → first_of times.order ≡ first → (p : ℕ) → due_at times t ≡ Some p → (first_of times.order ≡ Some p) × (instant_of times.instants p ≡ t)
  due_case t None is p e = absurd (none-some p (rw is at e))
  due_case t (Some x) is p e = elim (cases_eq (instant_of times.instants x) t) [
    | inl same ↦
        let me : x ≡ p = same_Some x p (sym (shown (instant_of times.instants x) t x same) ∙ rw is at e) in
        (is ∙ ap Some me, subst (λ (y : ℕ). instant_of times.instants y ≡ t) me same)
    | inr apart ↦ absurd (grind (arith, apart, rw is at e))
  ]

  pub due_among : (t p : ℕ) → due_at times t ≡ Some p → instant_on times p ≡ Some t
  due_among t p e =
      let found = due_case t (first_of times.order) refl p e in
      front_on p found.0 ∙ ap Some found.1

  pub due_lowest : (t p q : ℕ) → due_at times t ≡ Some p → instant_on times q ≡ Some t → p ≤ q
  due_lowest t p q e on =
      let found = due_case t (first_of times.order) refl p e in
      front_lowest p q t found.0 on found.1

  -- if no instant is sooner than t, and one is t, the first process is due at t
  due_here : (t x q : ℕ) → first_of times.order ≡ Some x → ((r u : ℕ) → instant_on times r ≡ Some u → t ≤ u) → instant_on times q ≡ Some t → due_at times t ≡ Some x
  due_here t x q is from on =
      let not_sooner = from x (instant_of times.instants x) (front_on x is) in
      let not_later = front_least x q t is on in
      let same : instant_of times.instants x ≡ t = omega (arith, not_sooner, not_later) in
      rw is (shown (instant_of times.instants x) t x same)

  none_case : (t : ℕ) (first : Option ℕ) → first_of times.order ≡ first → ((r u : ℕ) → instant_on times r ≡ Some u → t ≤ u) → (q : ℕ) → due_at times t ≡ None → instant_on times q ≡ Some t → ⊥
  none_case t None is from q e on = nobody_on q t is on
  none_case t (Some x) is from q e on = none-some x (sym e ∙ due_here t x q is from on)

  pub due_none : (t q : ℕ) → ((r u : ℕ) → instant_on times r ≡ Some u → t ≤ u) → due_at times t ≡ None → instant_on times q ≡ Some t → ⊥
  due_none t q from e on = none_case t (first_of times.order) refl from q e on
