-- States that were found, whose halves are numbered one after the other.
use Rattle.std.proofs.Common.{◌≡◌, ℕ, ◌+◌, ◌-◌, ◌/◌, ◌%◌, ◌^◌, ◌<◌, List, [], ◌∷◌, ◌++◌, length, length-append, take, drop, replicate, get_or, Option, None, Some, zero, suc, refl, sym, ap, ◌∙◌, subst, inl, inr, arith}
use Rattle.std.proofs.lemmas.List.{flat_map_more, length-map}
use Rattle.std.proofs.lemmas.Option.{same_Some, slice_get-get_or, slice_get_within}
use Rattle.std.specs.List.{slice_get, slice_set}
use Rattle.apex_states.specs.declared.expansions.Expansion.{Expansion}
use Rattle.apex_states.specs.declared.halves.Half.{Half}
use Rattle.apex_states.specs.declared.halves.Side.{Side}
use Rattle.apex_states.specs.declared.halves.Side.TheVariants.{Left, Right}
use Rattle.apex_states.specs.Expansions.{found_in, IsWide}
use Rattle.apex_states.specs.Finds.{found_of, Found}
use Rattle.apex_states.specs.Halves.{part_of, IsHalf, IsNumber, StillHas}
use Rattle.apex_states.specs.Keeping.{AreAllNumbered, AreFound, AreNumbered, ArePaired, AreTranslated}
use Rattle.apex_states.specs.Lists.{AllAre}
use Rattle.apex_states.specs.Nodes.{ArePartsFound}
use Rattle.apex_states.specs.declared.nodes.Nodes.{Nodes}
use Rattle.apex_states.specs.States.{seen, state_of, IsRoot, IsSided, IsStored, Reached}
use Rattle.apex_states.proofs.Fronts.{at_old_place, get_append, set_back, IsFront-append, IsFront-push}
use Rattle.apex_states.proofs.Gathering.{get_last}
use Rattle.apex_states.proofs.Halving.{parts_whole, take_front, drop_front, IsNumber-held, StillHas-refl, StillHas-trans}
use Rattle.apex_states.proofs.Probing.{last_or_before}
use Rattle.apex_states.proofs.Storing.{root_at, IsRoot-numbered}

-- the number on the same side of a half that still has it
number_still : (old new half : Half) (number : ℕ) (k : List ℕ) → half.side ≡ old.side → half.width ≡ old.width → IsNumber new number (part_of old.side old.width k) → IsNumber new number (part_of half.side half.width k)
number_still old new half number k side width is =
    let Part : Side → ℕ → Type 0 = λ s n. IsNumber new number (part_of s n k) in
    subst (λ s. Part s half.width) (sym side) (subst (Part old.side) (sym width) is)

-- Numbers on one side of the states.

same_head : (a b : ℕ) → a ∷ [] ≡ b ∷ [] → a ≡ b
same_head a b same = cc

-- the halves of a state at a place, if these are the numbers on this side
pub numbered_left : (roots : Reached) (left right : Half) (numbers : List ℕ) → IsStored roots left right → IsSided roots Left numbers (length roots.states)
    → AreNumbered left (found_of (seen roots left right)) numbers
numbered_left roots left right numbers stored sided = record {
  count = sided.count_is ∙ sym (length-map roots.states (state_of left right));
  each = λ place number k there is.
      let (pair, here, number_is) = sided.each place number there in
      let (row, row_is, root) = root_at left right roots.states place k stored.valid is in
      let e : root.pair ≡ pair = same_head root.pair pair (sym root.row_is ∙ same_Some row (pair ∷ []) (sym row_is ∙ here)) in
      let part : part_of left.side left.width k ≡ root.front =
      ap (λ s. part_of s left.width k) stored.left_side ∙ (ap (take left.width) root.whole
      ∙ (ap (λ n. take n (root.front ++ root.back)) (sym root.front_is.long) ∙ take_front root.front root.back)) in
      let long : length k ≡ left.width + right.width = ap length root.whole ∙ omega (arith, length-append root.front root.back, root.front_is.long, root.back_is.long) in
      let is_number : IsNumber left number root.front = subst (λ n. IsNumber left n root.front) (ap (λ p. p / 2 ^ 32) e ∙ sym number_is) root.front_is in
      (long, subst (IsNumber left number) (sym part) is_number);
}

pub numbered_right : (roots : Reached) (left right : Half) (numbers : List ℕ) → IsStored roots left right → IsSided roots Right numbers (length roots.states)
    → AreNumbered right (found_of (seen roots left right)) numbers
numbered_right roots left right numbers stored sided = record {
  count = sided.count_is ∙ sym (length-map roots.states (state_of left right));
  each = λ place number k there is.
      let (pair, here, number_is) = sided.each place number there in
      let (row, row_is, root) = root_at left right roots.states place k stored.valid is in
      let e : root.pair ≡ pair = same_head root.pair pair (sym root.row_is ∙ same_Some row (pair ∷ []) (sym row_is ∙ here)) in
      let long : length k ≡ left.width + right.width = ap length root.whole ∙ omega (arith, length-append root.front root.back, root.front_is.long, root.back_is.long) in
      let before : length k - right.width ≡ length root.front = omega (arith, long, root.front_is.long) in
      let part : part_of right.side right.width k ≡ root.back =
      ap (λ s. part_of s right.width k) stored.right_side ∙ (ap (λ n. drop n k) before
      ∙ (ap (drop (length root.front)) root.whole ∙ drop_front root.front root.back)) in
      let is_number : IsNumber right number root.back = subst (λ n. IsNumber right n root.back) (ap (λ p. p % 2 ^ 32) e ∙ sym number_is) root.back_is in
      (long, subst (IsNumber right number) (sym part) is_number);
}

-- Numbers of known halves that are translated, one after the other.

some_none : (x : ℕ) → Some x ≡ None → ⊥
some_none x same = cc

-- one more is found
pub AreFound-set : (known half new : Half) (found : List (Option ℕ)) (number translated : ℕ) → StillHas half new
    → ((k : List ℕ) → IsNumber known number k → IsNumber new translated k)
    → AreFound known half found → AreFound known new (slice_set found number (Some translated))
AreFound-set known half new found number translated has right are other among k there is = elim (set_back found number (Some translated) other (Some among) there) [
  | inl (e, same) ↦ subst (λ n. IsNumber new n k) (same_Some translated among same) (right k (subst (λ n. IsNumber known n k) e is))
  | inr (_, before) ↦ IsNumber-held half new among k has (are other among k before is)
]

-- those before `place` are translated
pub record IsTranslating (known old half : Half) (numbers among : List ℕ) (found : List (Option ℕ)) (place : ℕ) : Type 0 where
  pub is_half : IsHalf half
  pub has : StillHas old half
  pub count : length among ≡ place
  pub each : (at number translated : ℕ) (k : List ℕ) → slice_get numbers at ≡ Some number → slice_get among at ≡ Some translated
      → IsNumber known number k → IsNumber half translated k
  pub found_are : AreFound known half found

-- each of as many vacant slots is none
pub all_none : (count place : ℕ) (x : Option ℕ) → slice_get (replicate count None) place ≡ Some x → x ≡ None
all_none zero place x is = cc
all_none (suc count) zero x is = cc
all_none (suc count) (suc place) x is = all_none count place x is

-- no part is found yet
pub ArePartsFound-none : (known nodes : Nodes) (found : List (Option ℕ))
    → ((number : ℕ) (x : Option ℕ) → slice_get found number ≡ Some x → x ≡ None) → ArePartsFound known nodes found
ArePartsFound-none known nodes found vacant number among k there is = absurd (some_none among (vacant number (Some among) there))

-- nothing is translated yet
pub IsTranslating-none : (known half : Half) (numbers among : List ℕ) (found : List (Option ℕ)) → IsHalf half → among ≡ []
    → ((number : ℕ) (x : Option ℕ) → slice_get found number ≡ Some x → x ≡ None)
    → IsTranslating known half half numbers among found 0
IsTranslating-none known half numbers among found is_half none vacant = record {
  is_half = is_half;
  has = StillHas-refl half;
  count = ap length none;
  each = λ at other m k number_is there is.
      let past : at < length among = slice_get_within among at m there in
      absurd (omega (arith, past, ap length none));
  found_are = λ number m k there is.
      absurd (some_none m (vacant number (Some m) there));
}

pub IsTranslating-next : (known old half new : Half) (numbers among : List ℕ) (found found' : List (Option ℕ)) (place number translated : ℕ)
    → slice_get numbers place ≡ Some number → StillHas half new → IsHalf new → AreFound known new found'
    → ((k : List ℕ) → IsNumber known number k → IsNumber new translated k)
    → IsTranslating known old half numbers among found place → IsTranslating known old new numbers (among ++ translated ∷ []) found' (place + 1)
IsTranslating-next known old half new numbers among found found' place number translated here has is_half are right so_far = record {
  is_half = is_half;
  has = StillHas-trans old half new so_far.has has;
  count = omega (arith, length-append among (translated ∷ []), so_far.count);
  each = λ at other m k number_is there is. elim (last_or_before among translated at m there) [
    | inl before ↦ IsNumber-held half new m k has (so_far.each at other m k number_is before is)
    | inr (at_last, same) ↦
        let e : at ≡ place = omega (arith, at_last, so_far.count) in
        let other_is : other ≡ number = same_Some other number (sym number_is ∙ (ap (slice_get numbers) e ∙ here)) in
        subst (λ n. IsNumber new n k) same (right k (subst (λ n. IsNumber known n k) other_is is))
  ];
  found_are = are;
}

-- each number is that of a half
pub have_words : (half : Half) (found : Found) (numbers : List ℕ) → AreNumbered half found numbers → AllAre (λ number. (k : List ℕ) × IsNumber half number k) numbers
have_words half found numbers numbered place number there =
    let short : place < length found.states = omega (arith, slice_get_within numbers place number there, numbered.count) in
    let k = get_or found.states place [] in
    (part_of half.side half.width k, (numbered.each place number k there (slice_get-get_or found.states place [] short)).1)

-- the numbers are those of the same halves among others
pub AreNumbered-translated : (known half new : Half) (found : Found) (numbers among : List ℕ)
    → known.side ≡ half.side → known.width ≡ half.width → StillHas half new
    → AreNumbered known found numbers → AreTranslated known new numbers among → AreNumbered new found among
AreNumbered-translated known half new found numbers among side width has numbered translated = record {
  count = translated.count ∙ numbered.count;
  each = λ place number k there is.
      let short : place < length numbers = omega (arith, slice_get_within among place number there, translated.count) in
      let at = slice_get-get_or numbers place 0 short in
      let was = numbered.each place (get_or numbers place 0) k at is in
      let still = translated.each place (get_or numbers place 0) number (part_of known.side known.width k) at there was.1 in
      (was.0, number_still known new new number k (has.side ∙ sym side) (has.width ∙ sym width) still);
}

-- Expansions, one after the other.

-- numbers that are put behind others
AreNumbered-append : (half new : Half) (width : ℕ) (found other both : Found) (numbers more : List ℕ) → StillHas half new
    → found.width ≡ width → other.width ≡ width → both.width ≡ width → both.states ≡ found.states ++ other.states
    → AreNumbered half found numbers → AreNumbered new other more → AreNumbered new both (numbers ++ more)
AreNumbered-append half new width found other both numbers more has wide wide' wide'' states one two = record {
  count = omega (arith, ap length states, length-append found.states other.states, length-append numbers more, one.count, two.count);
  each = λ place number k there is.
      let k_is : slice_get (found.states ++ other.states) place ≡ Some k = ap (λ ks. slice_get ks place) (sym states) ∙ is in
      elim (get_append numbers more place number there) [
        | inl before ↦
            let short : place < length found.states = omega (arith, slice_get_within numbers place number before, one.count) in
            let was = one.each place number k before (at_old_place found.states (found.states ++ other.states) place k (IsFront-append found.states other.states) short k_is) in
            let held = IsNumber-held half new number (part_of half.side half.width k) has was.1 in
            (was.0 ∙ (wide ∙ sym wide''), number_still half new new number k has.side has.width held)
        | inr (at, e, here) ↦
            elim (get_append found.states other.states place k k_is) [
              | inl before ↦ absurd (omega (arith, slice_get_within found.states place k before, e, one.count))
              | inr (at', e', here') ↦
                  let same : at' ≡ at = omega (arith, e, e', one.count) in
                  let was = two.each at number k here (ap (slice_get other.states) (sym same) ∙ here') in
                  (was.0 ∙ (wide' ∙ sym wide''), was.1)
            ]
      ];
}

-- one more expansion is numbered
pub AreAllNumbered-next : (half new : Half) (expansions : List Expansion) (expansion : Expansion) (numbers more : List ℕ) → StillHas half new
    → AreAllNumbered half expansions numbers → AreNumbered new expansion.finds more → AreAllNumbered new (expansions ++ expansion ∷ []) (numbers ++ more)
AreAllNumbered-next half new expansions expansion numbers more has one other = record {
  whole = λ width wide.
      let before : AllAre (IsWide width) expansions = λ place e is. wide place e ((IsFront-push expansions expansion).same place e is) in
      let last : IsWide width expansion = wide (length expansions) expansion (get_last expansions expansion) in
      let states = sym (flat_map_more (λ (e : Expansion). e.finds.states) [] expansions expansion) in
      AreNumbered-append half new width (found_in width expansions) expansion.finds (found_in width (expansions ++ expansion ∷ [])) numbers more has refl last refl states (one.whole width before) other;
}

-- Numbers that are paired.

-- those before `place` are paired
pub record IsPairing (lefts rights pairs : List ℕ) (place : ℕ) : Type 0 where
  pub count : length pairs ≡ place
  pub left : (at pair : ℕ) → slice_get pairs at ≡ Some pair → slice_get lefts at ≡ Some (pair / 2 ^ 32)
  pub right : (at pair : ℕ) → slice_get pairs at ≡ Some pair → slice_get rights at ≡ Some (pair % 2 ^ 32)

-- the pairs are the roots of the states that were found
pub roots_numbered : (left right : Half) (found : Found) (lefts rights pairs : List ℕ)
    → left.side ≡ Left → right.side ≡ Right → found.width ≡ left.width + right.width
    → AreNumbered left found lefts → AreNumbered right found rights → ArePaired lefts rights pairs
    → (place pair : ℕ) (k : List ℕ) → slice_get pairs place ≡ Some pair → slice_get found.states place ≡ Some k → IsRoot left right (pair ∷ []) k
roots_numbered left right found lefts rights pairs left_side right_side width one other paired place pair k there is =
    let front = one.each place (pair / 2 ^ 32) k (paired.left place pair there) is in
    let back = other.each place (pair % 2 ^ 32) k (paired.right place pair there) is in
    let Front : Side → Type 0 = λ s. IsNumber left (pair / 2 ^ 32) (part_of s left.width k) in
    let Back : Side → Type 0 = λ s. IsNumber right (pair % 2 ^ 32) (part_of s right.width k) in
    IsRoot-numbered left right pair (part_of Left left.width k) (part_of Right right.width k) k
    (subst Front left_side front.1) (subst Back right_side back.1) (parts_whole left.width right.width k (front.0 ∙ width))
