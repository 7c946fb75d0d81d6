-- Laws of the choice: the result of a scan of the records is the place of the least, and under an
-- order in which one of any two comes first the least is before every other one.
use Rattle.std.proofs.Common.{◌≡◌, ◌≢◌, ℕ, zero, suc, ◌+◌, ◌<◌, Bool, true, false, not, ◌&&◌, List, length, get_or, slice_get, Option, None, Some, inl, inr, rules, arith}
use Rattle.std.specs.Cmp.{IsStrictWeakOrder}
use Rattle.std.specs.Option.{MatchOption}
use Rattle.std.proofs.lemmas.Bool.{and_from, and_left, and_parts, and_right, cases_Bool, cases_eq, le-ltb, lt-ltb, not_from_false, not_from_true}
use Rattle.std.proofs.lemmas.List.{get_or_default}
use Rattle.std.proofs.lemmas.List.Folds.{list_any_at, list_any_none}
use Rattle.std.proofs.lemmas.List.Quantifiers.{position-Some}
use Rattle.std.proofs.lemmas.List.Sums.{position_or_len_is}
use Rattle.std.proofs.lemmas.Option.{slice_get-get_or, slice_get_within, get_or_from_slice_get}
use Rattle.apex_machine.specs.Terms.{Record}
use Rattle.apex_machine.specs.processes.Choice.{is_preceded, place_of_least, IsLeast}
use Rattle.apex_machine.specs.processes.Roster.{nobody}

-- of two records at different places, one comes before the other
pub record IsTotalOn (before : Record → Record → Bool) (rs : List Record) : Type 0 where
  pub total : (p q : ℕ) (r s : Record) → slice_get rs p ≡ Some r → slice_get rs q ≡ Some s → p ≢ q → before r s ≡ false → before s r ≡ true

abbrev pub at_place : List Record → ℕ → Record
at_place rs p = get_or rs p nobody

-- none of the first n records passes
pub record NonePasses (passes : Record → Bool) (rs : List Record) (n : ℕ) : Type 0 where
  pub none : (q : ℕ) → q < n → passes (at_place rs q) ≡ false

-- the record at place p passes; of the first n that pass none comes before it, and it comes before
-- each one in front of it
pub record IsFirst (passes : Record → Bool) (before : Record → Record → Bool) (rs : List Record) (n p : ℕ)
    : Type 0 where
  pub within : p < n
  pub passing : passes (at_place rs p) ≡ true
  pub least : (q : ℕ) → q < n → passes (at_place rs q) ≡ true → before (at_place rs q) (at_place rs p) ≡ false
  pub first : (q : ℕ) → q < p → passes (at_place rs q) ≡ true → before (at_place rs p) (at_place rs q) ≡ true

-- the result of a scan of the first n records: if a place is found, its record is the first of the
-- least; if none is found, none of them passes
abbrev pub IsFound : (Record → Bool) → (Record → Record → Bool) → List Record → ℕ → Option ℕ → Type 0
IsFound passes before rs n found = MatchOption found (NonePasses passes rs n) (IsFirst passes before rs n)

irreflexive : (before : Record → Record → Bool) → IsStrictWeakOrder before → (r : Record) → before r r ≡ false
irreflexive before order r = elim (cases_Bool (before r r)) [ inl e ↦ order.one_way r r e | inr e ↦ e ]

module _ (passes : Record → Bool) (before : Record → Record → Bool) (rs : List Record) where
  -- a scan of one record more has a result too
  more : (n : ℕ) → IsStrictWeakOrder before → (found : Option ℕ) → IsFound passes before rs n found
      → (next : Option ℕ) × IsFound passes before rs (n + 1) next
  more n order None others =
      elim (cases_Bool (passes (at_place rs n))) [
        | inl passing ↦ (Some n, search rules)
        | inr fails ↦ (None, search rules)
      ]
  more n order (Some p) is =
      elim (cases_Bool (passes (at_place rs n) && before (at_place rs n) (at_place rs p))) [
        | inl ahead ↦ (Some n, search rules)
        | inr behind ↦ (Some p, search rules)
      ]

  stands : IsStrictWeakOrder before → (n : ℕ) → (found : Option ℕ) × IsFound passes before rs n found
  stands order zero = (None, record { none = λ q below. absurd (omega arith) })
  stands order (suc n) =
      let z : n + 1 ≡ suc n = omega arith in
      let less = stands order n in rw z at (more n order less.0 less.1)

  -- the test that the place of the least is the first to pass
  abbrev is_least : Record → Bool
  is_least r = passes r && not (is_preceded passes before rs r)

  unpreceded : (p : ℕ) → IsFirst passes before rs (length rs) p → is_preceded passes before rs (at_place rs p) ≡ false
  unpreceded p is =
      list_any_none _ rs (λ q d within. rw (get_or_default rs q d nobody within) (behind q within)) where
        behind : (q : ℕ) → q < length rs → (passes (at_place rs q) && before (at_place rs q) (at_place rs p)) ≡ false
        behind q within = grind (arith, is.least)

  preceded : (p : ℕ) → IsFirst passes before rs (length rs) p → (q : ℕ) → q < p → is_least (at_place rs q) ≡ false
  preceded p is q below =
      elim (cases_Bool (passes (at_place rs q))) [
        | inl passing ↦
            let both = and_from _ _ is.passing (is.first q below passing) in
            let test = λ (s : Record). passes s && before s (at_place rs q) in
            and_right _ _ (not_from_true _ (list_any_at test rs p nobody is.within both))
        | inr fails ↦ and_left _ _ fails
      ]

  place_some : (p : ℕ) → IsFirst passes before rs (length rs) p → place_of_least passes before rs ≡ Some p
  place_some p is =
      let here = and_from _ _ is.passing (not_from_false _ (unpreceded p is)) in
      let e = position_or_len_is is_least rs p nobody (omega (arith, is.within)) (preceded p is) (λ _. here) in
      rw (e, lt-ltb p (length rs) is.within)

  place_nowhere : NonePasses passes rs (length rs) → place_of_least passes before rs ≡ None
  place_nowhere others =
      let fails = λ (q : ℕ) (within : q < length rs). and_left _ _ (others.none q within) in
      let e = position_or_len_is is_least rs (length rs) nobody (omega arith) fails (λ beyond. absurd (omega arith)) in
      rw (e, le-ltb (length rs) (length rs) (omega arith))

  -- the result of a scan of all records is the place of the least
  pub place_found : (found : Option ℕ) → IsFound passes before rs (length rs) found
      → place_of_least passes before rs ≡ found
  place_found None others = place_nowhere others
  place_found (Some p) is = place_some p is

  place_is_found : IsStrictWeakOrder before → IsFound passes before rs (length rs) (place_of_least passes before rs)
  place_is_found order = let all = stands order (length rs) in rw (place_found all.0 all.1) all.1

  -- if none is found, none passes
  pub place_none : IsStrictWeakOrder before → place_of_least passes before rs ≡ None → NonePasses passes rs (length rs)
  place_none order e = rw e at (place_is_found order)

  -- the record that is found is the first of the least
  pub place_first : IsStrictWeakOrder before → (p : ℕ) → place_of_least passes before rs ≡ Some p
      → IsFirst passes before rs (length rs) p
  place_first order p e = rw e at (place_is_found order)

  -- the place that is found is one of a record
  pub place_within : (p : ℕ) → place_of_least passes before rs ≡ Some p → p < length rs
  place_within p e = (position-Some is_least rs p nobody e).0

  -- the record that is found passes
  pub place_passes : (p : ℕ) (other : Record) → place_of_least passes before rs ≡ Some p
      → passes (get_or rs p other) ≡ true
  place_passes p other e = (and_parts _ _ (position-Some is_least rs p other e).1).0

  -- the record that is found is before every other one that passes
  pub place_least : IsStrictWeakOrder before → IsTotalOn before rs
      → (p : ℕ) → place_of_least passes before rs ≡ Some p → (r : Record) × IsLeast passes before rs p r
  place_least order all p e =
      let is = place_first order p e in
      let here = slice_get-get_or rs p nobody is.within in (
        at_place rs p,
        record {
          here = here;
          passing = is.passing;
          first = λ q s there passed apart.
              let same = get_or_from_slice_get rs q s nobody there in
              let behind = rw same at (is.least q (slice_get_within rs q s there) (rw same passed)) in
              all.total q p s (at_place rs p) there here apart behind;
        },
      )

  -- a record that is before every other one that passes is found
  pub place_is : IsStrictWeakOrder before → (p : ℕ) (r : Record) → IsLeast passes before rs p r
      → place_of_least passes before rs ≡ Some p
  place_is order p r is = place_some p (record {
    within = within;
    passing = rw here is.passing;
    least = λ q inside passed. rw here (elim (cases_eq q p) [
      | inl e ↦ rw (e, here) (irreflexive before order r)
      | inr apart ↦ order.one_way r (at_place rs q) (ahead q inside passed apart)
    ]);
    first = λ q below passed. rw here (ahead q (omega (arith, within)) passed (λ e. absurd (omega arith)));
  }) where
    within : p < length rs
    within = slice_get_within rs p r is.here

    here : at_place rs p ≡ r
    here = get_or_from_slice_get rs p r nobody is.here

    ahead : (q : ℕ) → q < length rs → passes (at_place rs q) ≡ true → q ≢ p → before r (at_place rs q) ≡ true
    ahead q inside passed = is.first q (at_place rs q) (slice_get-get_or rs q nobody inside) passed
