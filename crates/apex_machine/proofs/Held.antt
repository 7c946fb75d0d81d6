-- The mutexes that a process owns, and their depths, as they change.
use Rattle.std.proofs.Common.{lit≤, ◌≡◌, ◌≢◌, ℕ, suc, ◌≤◌, Bool, true, false, ◌||◌, not, cond, List, [], ◌∷◌, ◌++◌, length, None, Some, refl, sym, ◌∙◌, ap, subst, inl, inr, arith}
use Rattle.std.proofs.lemmas.Bool.{both_ways, cases_Bool, cases_eq, cond_both, eq-eqb, eqb-false, eqb-true, ne_eqb, or_from, or_left, or_parts, or_right}
use Rattle.std.proofs.lemmas.List.{length-map}
use Rattle.std.proofs.lemmas.Option.{none-some, same_Some}
use Rattle.apex_machine.specs.processes.Held.{at_depth, holding_of, holds, holds_none, in_order, inserted, is_of, with_depth, without}
use Rattle.apex_types.specs.declared.limits.TheConstants.{MOST_DEPTH}
use Rattle.apex_machine.specs.processes.Owners.{AreLawful, IsLawfulHolding}
use Rattle.apex_machine.specs.processes.Roster.{Roster}
use Rattle.apex_machine.specs.Terms.{Holding}

pub or_false : (a : Bool) → (a || false) ≡ a
or_false true = refl
or_false false = refl

or_group : (a b c : Bool) → (a || (b || c)) ≡ ((a || b) || c)
or_group true b c = refl
or_group false b c = refl

or_swap : (a b c : Bool) → (a || (b || c)) ≡ (b || (a || c))
or_swap true true c = refl
or_swap true false c = refl
or_swap false true c = refl
or_swap false false c = refl

-- two mutexes are not the same, whichever comes first
apart_too : (holding other : Holding) → is_of holding.mutex other ≡ false → is_of other.mutex holding ≡ false
apart_too holding other apart = ne_eqb holding.mutex other.mutex (λ same. eqb-false other.mutex holding.mutex apart (sym same))

-- a process that owns no mutex holds nothing
pub holds_nothing : (held : List Holding) → holds_none held ≡ true → held ≡ []
holds_nothing [] none = refl
holds_nothing (holding ∷ more) none = absurd (both_ways false refl none)

pub nothing_held : (held : List Holding) → held ≡ [] → (n : ℕ) → holds n held ≡ false
nothing_held held none n = ap (holds n) none

-- without mutex m
module _ (m : ℕ) where
  passed_over : (holding : Holding) (held : List Holding) → is_of m holding ≡ true → without m (holding ∷ held) ≡ without m held
  passed_over holding held is = ap (λ (b : Bool). cond (not b) (holding ∷ without m held) (without m held)) is

  stays_held : (holding : Holding) (held : List Holding) → is_of m holding ≡ false
      → without m (holding ∷ held) ≡ holding ∷ without m held
  stays_held holding held apart = ap (λ (b : Bool). cond (not b) (holding ∷ without m held) (without m held)) apart

  pub holds_gone : (held : List Holding) → holds m (without m held) ≡ false
  holds_gone [] = refl
  holds_gone (holding ∷ held) = elim (cases_Bool (is_of m holding)) [
    | inl is ↦ ap (holds m) (passed_over holding held is) ∙ holds_gone held
    | inr apart ↦ ap (holds m) (stays_held holding held apart) ∙ or_from _ _ apart (holds_gone held)
  ]

  pub holds_apart : (n : ℕ) → n ≢ m → (held : List Holding) → holds n (without m held) ≡ holds n held
  holds_apart n other [] = refl
  holds_apart n other (holding ∷ held) = elim (cases_eq holding.mutex m) [
    | inl is ↦
        let not_n : is_of n holding ≡ false = ne_eqb holding.mutex n (λ same. other (sym same ∙ is)) in
        ap (holds n) (passed_over holding held (eq-eqb holding.mutex m is)) ∙ holds_apart n other held
        ∙ sym (ap (λ (b : Bool). b || holds n held) not_n)
    | inr apart ↦
        ap (holds n) (stays_held holding held (ne_eqb holding.mutex m apart))
        ∙ ap (λ (b : Bool). is_of n holding || b) (holds_apart n other held)
  ]

  -- a mutex that is held afterwards was held
  pub held_before : (n : ℕ) (held : List Holding) → holds n (without m held) ≡ true → holds n held ≡ true
  held_before n held is = elim (cases_eq n m) [
    | inl same ↦ absurd (both_ways _ (ap (λ (k : ℕ). holds k (without m held)) same ∙ holds_gone held) is)
    | inr apart ↦ sym (holds_apart n apart held) ∙ is
  ]

  absent_still : (n : ℕ) (held : List Holding) → holds n held ≡ false → holds n (without m held) ≡ false
  absent_still n held absent = elim (cases_eq n m) [
    | inl same ↦ ap (λ (k : ℕ). holds k (without m held)) same ∙ holds_gone held
    | inr apart ↦ holds_apart n apart held ∙ absent
  ]

  pub fewer_without : (held : List Holding) → length (without m held) ≤ length held
  fewer_without [] = lit≤ tt
  fewer_without (holding ∷ held) =
      let fewer = fewer_without held in
      elim (cases_Bool (is_of m holding)) [
        | inl is ↦ let same = ap length (passed_over holding held is) in omega (arith, same, fewer)
        | inr apart ↦ let same = ap length (stays_held holding held apart) in omega (arith, same, fewer)
      ]

  pub lawful_without : (roster : Roster) (held : List Holding) → AreLawful roster held → AreLawful roster (without m held)
  lawful_without roster [] lawful = tt
  lawful_without roster (holding ∷ held) lawful = elim (cases_Bool (is_of m holding)) [
    | inl is ↦ subst (AreLawful roster) (sym (passed_over holding held is)) (lawful_without roster held lawful.2)
    | inr apart ↦
        subst (AreLawful roster) (sym (stays_held holding held apart))
        (lawful.0, absent_still holding.mutex held lawful.1, lawful_without roster held lawful.2)
  ]

-- mutex m at another depth
module _ (m depth : ℕ) where
  same_mutex : (holding : Holding) → (at_depth m depth holding).mutex ≡ holding.mutex
  same_mutex holding =
      cond_both {A = Holding} (is_of m holding) _ _ (λ (h : Holding). h.mutex ≡ holding.mutex) (λ _. refl) (λ _. refl)

  pub holds_at_depth : (n : ℕ) (held : List Holding) → holds n (with_depth m depth held) ≡ holds n held
  holds_at_depth n [] = refl
  holds_at_depth n (holding ∷ held) =
      ap (λ (k : ℕ). holds n (record holding { mutex = k } ∷ with_depth m depth held)) (same_mutex holding)
      ∙ ap (λ (b : Bool). is_of n holding || b) (holds_at_depth n held)

  pub many_at_depth : (held : List Holding) → length (with_depth m depth held) ≡ length held
  many_at_depth held = length-map held (at_depth m depth)

  pub lawful_at_depth : (roster : Roster) → (1 ≤ depth) × (depth ≤ MOST_DEPTH) → (held : List Holding)
      → AreLawful roster held → AreLawful roster (with_depth m depth held)
  lawful_at_depth roster range [] lawful = tt
  lawful_at_depth roster range (holding ∷ held) lawful =
      let is : IsLawfulHolding roster (at_depth m depth holding) =
      cond_both {A = Holding} (is_of m holding) _ _ (IsLawfulHolding roster)
      (λ _. record { ceiling = lawful.0.ceiling; depth = range }) (λ _. lawful.0) in
      let once : holds (at_depth m depth holding).mutex (with_depth m depth held) ≡ false =
      ap (λ (k : ℕ). holds k (with_depth m depth held)) (same_mutex holding) ∙ holds_at_depth holding.mutex held ∙ lawful.1 in
      (is, once, lawful_at_depth roster range held lawful.2)

-- one mutex more
module _ (more : Holding) where
  pub holds_more : (n : ℕ) (held : List Holding) → holds n (held ++ more ∷ []) ≡ (holds n held || is_of n more)
  holds_more n [] = or_false (is_of n more)
  holds_more n (holding ∷ held) =
      ap (λ (b : Bool). is_of n holding || b) (holds_more n held) ∙ or_group (is_of n holding) (holds n held) (is_of n more)

  pub lawful_more : (roster : Roster) → IsLawfulHolding roster more → (held : List Holding) → holds more.mutex held ≡ false
      → AreLawful roster held → AreLawful roster (held ++ more ∷ [])
  lawful_more roster is [] absent lawful = (is, refl, tt)
  lawful_more roster is (holding ∷ held) absent lawful =
      let parts = or_parts (is_of more.mutex holding) (holds more.mutex held) absent in
      let once : holds holding.mutex (held ++ more ∷ []) ≡ false =
      holds_more holding.mutex held ∙ or_from _ _ lawful.1 (apart_too more holding parts.0) in
      (lawful.0, once, lawful_more roster is held parts.1 lawful.2)

  -- one mutex more among others in order
  holds_inserted : (n : ℕ) (held : List Holding) → holds n (inserted more held) ≡ (is_of n more || holds n held)
  holds_inserted n [] = refl
  holds_inserted n (other ∷ others) =
      cond_both {A = List Holding} _ (more ∷ other ∷ others) (other ∷ inserted more others)
      (λ (held : List Holding). holds n held ≡ (is_of n more || (is_of n other || holds n others))) (λ _. refl)
      (λ _. ap (λ (b : Bool). is_of n other || b) (holds_inserted n others) ∙ or_swap (is_of n other) (is_of n more) (holds n others))

  many_inserted : (held : List Holding) → length (inserted more held) ≡ suc (length held)
  many_inserted [] = refl
  many_inserted (other ∷ others) =
      cond_both {A = List Holding} _ (more ∷ other ∷ others) (other ∷ inserted more others)
      (λ (held : List Holding). length held ≡ suc (suc (length others))) (λ _. refl) (λ _. ap suc (many_inserted others))

  lawful_inserted : (roster : Roster) → IsLawfulHolding roster more → (held : List Holding) → holds more.mutex held ≡ false
      → AreLawful roster held → AreLawful roster (inserted more held)
  lawful_inserted roster is [] absent lawful = (is, refl, tt)
  lawful_inserted roster is (other ∷ others) absent lawful =
      let parts = or_parts (is_of more.mutex other) (holds more.mutex others) absent in
      let once : holds other.mutex (inserted more others) ≡ false =
      holds_inserted other.mutex others ∙ or_from _ _ (apart_too more other parts.0) lawful.1 in
      cond_both {A = List Holding} _ (more ∷ other ∷ others) (other ∷ inserted more others) (AreLawful roster)
      (λ _. (is, absent, lawful)) (λ _. (lawful.0, once, lawful_inserted roster is others parts.1 lawful.2))

-- in order of the mutexes' numbers
pub holds_in_order : (n : ℕ) (held : List Holding) → holds n (in_order held) ≡ holds n held
holds_in_order n [] = refl
holds_in_order n (holding ∷ held) =
    holds_inserted holding n (in_order held) ∙ ap (λ (b : Bool). is_of n holding || b) (holds_in_order n held)

pub many_in_order : (held : List Holding) → length (in_order held) ≡ length held
many_in_order [] = refl
many_in_order (holding ∷ held) = many_inserted holding (in_order held) ∙ ap suc (many_in_order held)

pub lawful_in_order : (roster : Roster) (held : List Holding) → AreLawful roster held → AreLawful roster (in_order held)
lawful_in_order roster [] lawful = tt
lawful_in_order roster (holding ∷ held) lawful =
    lawful_inserted holding roster lawful.0 (in_order held) (holds_in_order holding.mutex held ∙ lawful.1)
    (lawful_in_order roster held lawful.2)

-- mutex m is held so
pub record IsHeld (m : ℕ) (owned : List Holding) (holding : Holding) : Type 0 where
  pub mutex : holding.mutex ≡ m
  pub held : holds m owned ≡ true
  pub lawful : (roster : Roster) → AreLawful roster owned → IsLawfulHolding roster holding

pub is_held : (m : ℕ) (holding : Holding) (held : List Holding) → holding_of m held ≡ Some holding → IsHeld m held holding
is_held m holding [] found = absurd (none-some holding found)
is_held m holding (first ∷ others) found = elim (cases_Bool (is_of m first)) [
  | inl is ↦
      let same : first ≡ holding = same_Some first holding (sym (ap (λ (b : Bool). cond b (Some first) (holding_of m others)) is) ∙ found) in
      record {
        mutex = sym (ap (λ (h : Holding). h.mutex) same) ∙ eqb-true first.mutex m is;
        held = or_left (is_of m first) (holds m others) is;
        lawful = λ roster lawful. subst (IsLawfulHolding roster) same lawful.0;
      }
  | inr apart ↦
      let later = is_held m holding others (sym (ap (λ (b : Bool). cond b (Some first) (holding_of m others)) apart) ∙ found) in
      record {
        mutex = later.mutex;
        held = or_right (is_of m first) (holds m others) later.held;
        lawful = λ roster lawful. later.lawful roster lawful.2;
      }
]

pub none_held : (m : ℕ) (held : List Holding) → holding_of m held ≡ None → holds m held ≡ false
none_held m [] none = refl
none_held m (first ∷ others) none = elim (cases_Bool (is_of m first)) [
  | inl is ↦ absurd (none-some first (sym none ∙ ap (λ (b : Bool). cond b (Some first) (holding_of m others)) is))
  | inr apart ↦
      or_from _ _ apart (none_held m others (sym (ap (λ (b : Bool). cond b (Some first) (holding_of m others)) apart) ∙ none))
]
