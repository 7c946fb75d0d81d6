-- The states that are stored.
use Rattle.std.proofs.Common.{◌≡◌, ℕ, zero, suc, ◌+◌, ◌/◌, ◌%◌, ◌^◌, Bool, true, false, List, [], ◌∷◌, ◌++◌, length, map, Some, refl, sym, ap, ◌∙◌, subst, arith, inl, inr}
use Rattle.std.proofs.lemmas.List.{length-map, map-append}
use Rattle.std.proofs.lemmas.Option.{same_Some, slice_get-map}
use Rattle.std.specs.List.{slice_get}
use Rattle.std.specs.Option.{option_map}
use Rattle.apex_states.specs.declared.halves.Half.{Half}
use Rattle.apex_states.specs.declared.halves.Side.{Side}
use Rattle.apex_states.specs.declared.halves.Side.TheVariants.{Left, Right}
use Rattle.apex_states.specs.declared.states.Origin.{Origin}
use Rattle.apex_states.specs.Halves.{part_of, words_at, IsHalf, IsNumber, StillHas}
use Rattle.apex_states.specs.Index.{IsKnown}
use Rattle.apex_states.specs.Lists.{AllAre}
use Rattle.apex_states.specs.Nodes.{IsExact}
use Rattle.apex_states.specs.Registers.{AreApart}
use Rattle.apex_states.specs.States.{seen, state_of, states_in, IsKept, IsRoot, IsStored, Reached}
use Rattle.apex_states.proofs.Halving.{parts_whole, same_number, words_at-is, IsNumber-held}
use Rattle.apex_states.proofs.Probing.{last_or_before}
use Rattle.apex_states.proofs.Trees.{same_word, split_append}

map_back : (f : List ℕ → List ℕ) (rows : List (List ℕ)) (place : ℕ) (k : List ℕ) → slice_get (map f rows) place ≡ Some k → (row : List ℕ) × (slice_get rows place ≡ Some row) × (f row ≡ k)
map_back f [] place k is = cc
map_back f (row ∷ rows) zero k is = (row, refl, same_Some (f row) k is)
map_back f (row ∷ rows) (suc place) k is = map_back f rows place k is

map_same : (f g : List ℕ → List ℕ) (rows : List (List ℕ)) → ((place : ℕ) (row : List ℕ) → slice_get rows place ≡ Some row → f row ≡ g row) → map f rows ≡ map g rows
map_same f g [] each = refl
map_same f g (row ∷ rows) each =
    let first : f row ≡ g row = each 0 row refl in
    let rest : map f rows ≡ map g rows = map_same f g rows (λ place other is. each (suc place) other is) in
    rw (first, rest) refl

both : (a b c d : List ℕ) → a ≡ b → c ≡ d → a ++ c ≡ b ++ d
both a b c d one other = rw (one, other) refl

-- A row is that of one state, and a state has one row.

pub state_of-is : (left right : Half) (row k : List ℕ) → IsRoot left right row k → state_of left right row ≡ k
state_of-is left right row k root =
    let front = words_at-is left (root.pair / 2 ^ 32) root.front root.front_is in
    let back = words_at-is right (root.pair % 2 ^ 32) root.back root.back_is in
    ap (state_of left right) root.row_is
    ∙ (both (words_at left (root.pair / 2 ^ 32)) root.front (words_at right (root.pair % 2 ^ 32)) root.back front back
    ∙ sym root.whole)

pub state_at : (left right : Half) (rows : List (List ℕ)) (place : ℕ) (row k : List ℕ) → slice_get rows place ≡ Some row → IsRoot left right row k → slice_get (states_in left right rows) place ≡ Some k
state_at left right rows place row k there root =
    slice_get-map (state_of left right) rows place
    ∙ (ap (option_map (state_of left right)) there ∙ ap Some (state_of-is left right row k root))

abbrev pub AreRoots : Half → Half → List (List ℕ) → Type 0
AreRoots left right rows = AllAre (λ row. (state : List ℕ) × IsRoot left right row state) rows

-- the row of a state
pub root_at : (left right : Half) (rows : List (List ℕ)) (place : ℕ) (k : List ℕ) → AreRoots left right rows → slice_get (states_in left right rows) place ≡ Some k → (row : List ℕ) × (slice_get rows place ≡ Some row) × IsRoot left right row k
root_at left right rows place k valid is =
    let (row, there, of) = map_back (state_of left right) rows place k is in
    let (state, root) = valid place row there in
    let e : state ≡ k = sym (state_of-is left right row state root) ∙ of in
    (row, there, subst (IsRoot left right row) e root)

pub same_root : (left right : Half) (row row' k : List ℕ) → IsExact left.nodes → IsExact right.nodes → IsRoot left right row k → IsRoot left right row' k → row ≡ row'
same_root left right row row' k exact exact' one other =
    let whole : one.front ++ one.back ≡ other.front ++ other.back = sym one.whole ∙ other.whole in
    let parts = split_append one.front one.back other.front other.back (one.front_is.long ∙ sym other.front_is.long) whole in
    let front = same_number left (one.pair / 2 ^ 32) (other.pair / 2 ^ 32) other.front exact (subst (IsNumber left (one.pair / 2 ^ 32)) parts.0 one.front_is) other.front_is in
    let back = same_number right (one.pair % 2 ^ 32) (other.pair % 2 ^ 32) other.back exact' (subst (IsNumber right (one.pair % 2 ^ 32)) parts.1 one.back_is) other.back_is in
    one.row_is ∙ (ap (λ pair. pair ∷ []) (same_word one.pair other.pair front back) ∙ sym other.row_is)

states_apart : (left right : Half) (rows : List (List ℕ)) → IsExact left.nodes → IsExact right.nodes → AreRoots left right rows → AreApart rows → AreApart (states_in left right rows)
states_apart left right rows exact exact' valid apart first second k one other =
    let (row, there, root) = root_at left right rows first k valid one in
    let (row', there', root') = root_at left right rows second k valid other in
    let e : row ≡ row' = same_root left right row row' k exact exact' root root' in
    apart first second row' (there ∙ ap Some e) there'

-- the states are apart
pub stored_apart : (roots : Reached) (left right : Half) → IsStored roots left right → AreApart roots.states → AreApart (states_in left right roots.states)
stored_apart roots left right stored apart = states_apart left right roots.states stored.left_half.exact stored.right_half.exact stored.valid apart

-- the root of a state whose halves are numbered
pub IsRoot-numbered : (left right : Half) (pair : ℕ) (front back state : List ℕ) → IsNumber left (pair / 2 ^ 32) front → IsNumber right (pair % 2 ^ 32) back → state ≡ front ++ back → IsRoot left right (pair ∷ []) state
IsRoot-numbered left right pair front back state front_is back_is whole = record { pair = pair; front = front; back = back; row_is = refl; front_is = front_is; back_is = back_is; whole = whole }

-- Halves that still have what they had.

IsRoot-held : (left right left' right' : Half) (row k : List ℕ) → StillHas left left' → StillHas right right' → IsRoot left right row k → IsRoot left' right' row k
IsRoot-held left right left' right' row k has has' root = record {
  pair = root.pair;
  front = root.front;
  back = root.back;
  row_is = root.row_is;
  front_is = IsNumber-held left left' (root.pair / 2 ^ 32) root.front has root.front_is;
  back_is = IsNumber-held right right' (root.pair % 2 ^ 32) root.back has' root.back_is;
  whole = root.whole;
}

AreRoots-held : (left right left' right' : Half) (rows : List (List ℕ)) → StillHas left left' → StillHas right right' → AreRoots left right rows → AreRoots left' right' rows
AreRoots-held left right left' right' rows has has' valid place row there =
    let (state, root) = valid place row there in
    (state, IsRoot-held left right left' right' row state has has' root)

states_held : (left right left' right' : Half) (rows : List (List ℕ)) → StillHas left left' → StillHas right right' → AreRoots left right rows → states_in left' right' rows ≡ states_in left right rows
states_held left right left' right' rows has has' valid = map_same (state_of left' right') (state_of left right) rows (λ place row there.
    let (state, root) = valid place row there in
    state_of-is left' right' row state (IsRoot-held left right left' right' row state has has' root) ∙ sym (state_of-is left right row state root))

pub IsStored-held : (roots : Reached) (left right left' right' : Half) → IsStored roots left right → StillHas left left' → StillHas right right' → IsHalf left' → IsHalf right' → IsStored roots left' right'
IsStored-held roots left right left' right' stored has has' half half' = record {
  left_half = half;
  right_half = half';
  left_side = has.side ∙ stored.left_side;
  right_side = has'.side ∙ stored.right_side;
  middle = rw (has.width, has'.width) stored.middle;
  valid = AreRoots-held left right left' right' roots.states has has' stored.valid;
}

pub seen_held : (roots : Reached) (left right left' right' : Half) → IsStored roots left right → StillHas left left' → StillHas right right' → seen roots left' right' ≡ seen roots left right
seen_held roots left right left' right' stored has has' =
    let width : left'.width + right'.width ≡ left.width + right.width = omega (arith, has.width, has'.width) in
    let states = states_held left right left' right' roots.states has has' stored.valid in
    let Seen : ℕ → List (List ℕ) → Reached = λ n ks. record { width = n; room = roots.room; states = ks; origins = roots.origins } in
    ap (λ n. Seen n (states_in left' right' roots.states)) width ∙ ap (Seen (left.width + right.width)) states

-- the state at a place, if these are the words of its halves
pub state_here : (roots : Reached) (left right left' right' : Half) (place pair pair' front_number back_number : ℕ) (front back : List ℕ)
    → IsStored roots left right → StillHas left left' → StillHas right right'
    → slice_get roots.states place ≡ Some (pair ∷ []) → slice_get roots.states place ≡ Some (pair' ∷ [])
    → front_number ≡ pair / 2 ^ 32 → back_number ≡ pair' % 2 ^ 32
    → IsNumber left' front_number front → IsNumber right' back_number back
    → slice_get (states_in left right roots.states) place ≡ Some (front ++ back)
state_here roots left right left' right' place pair pair' front_number back_number front back stored has has' there there' high low front_is back_is =
    let e : pair' ≡ pair = same_head pair' pair (same_Some (pair' ∷ []) (pair ∷ []) (sym there' ∙ there)) in
    let Front : ℕ → Type 0 = λ n. IsNumber left' n front in
    let Back : ℕ → Type 0 = λ n. IsNumber right' n back in
    let root = IsRoot-numbered left' right' pair front back (front ++ back) (subst Front high front_is) (subst Back (low ∙ ap (λ n. n % 2 ^ 32) e) back_is) refl in
    ap (λ ks. slice_get ks place) (sym (states_held left right left' right' roots.states has has' stored.valid)) ∙ state_at left' right' roots.states place (pair ∷ []) (front ++ back) there root
  where
    same_head : (a b : ℕ) → a ∷ [] ≡ b ∷ [] → a ≡ b
    same_head a b same = cc

-- the root of a state whose halves are numbered, one after the other
pub numbered_root : (roots : Reached) (left right left' right' : Half) (front_number back_number pair : ℕ) (state : List ℕ)
    → IsStored roots left right → StillHas left left' → StillHas right right' → length state ≡ left.width + right.width
    → IsNumber left' front_number (part_of left.side left.width state) → IsNumber right' back_number (part_of right.side right.width state)
    → pair / 2 ^ 32 ≡ front_number → pair % 2 ^ 32 ≡ back_number
    → IsRoot left' right' (pair ∷ []) state
numbered_root roots left right left' right' front_number back_number pair state stored has has' long front back high low =
    let Front : Side → Type 0 = λ s. IsNumber left' (pair / 2 ^ 32) (part_of s left.width state) in
    let Back : Side → Type 0 = λ s. IsNumber right' (pair % 2 ^ 32) (part_of s right.width state) in
    let front' : IsNumber left' (pair / 2 ^ 32) (part_of left.side left.width state) = subst (λ n. IsNumber left' n (part_of left.side left.width state)) (sym high) front in
    let back' : IsNumber right' (pair % 2 ^ 32) (part_of right.side right.width state) = subst (λ n. IsNumber right' n (part_of right.side right.width state)) (sym low) back in
    IsRoot-numbered left' right' pair (part_of Left left.width state) (part_of Right right.width state) state
    (subst Front stored.left_side front') (subst Back stored.right_side back') (parts_whole left.width right.width state long)

-- What came of a state that was to be kept.

module _ (roots roots' : Reached) (left right left' right' : Half) (row k : List ℕ) (origin : Origin)
    (stored : IsStored roots left right) (has : StillHas left left') (has' : StillHas right right') (half : IsHalf left') (half' : IsHalf right')
    (root : IsRoot left' right' row k) where
  on : IsStored roots left' right'
  on = IsStored-held roots left right left' right' stored has has' half half'

  same : seen roots left' right' ≡ seen roots left right
  same = seen_held roots left right left' right' stored has has'

  -- a state whose row is none of the rows is none of the states
  unknown : (IsKnown roots.states row → ⊥) → IsKnown (states_in left' right' roots.states) k → ⊥
  unknown new (place, is) =
      let (other, there, other_root) = root_at left' right' roots.states place k on.valid is in
      let e : other ≡ row = same_root left' right' other row k half.exact half'.exact other_root root in
      new (place, there ∙ ap Some e)

  kept_on : (kept : Bool) → IsKept roots row origin kept roots' → IsKept (seen roots left' right') k origin kept (seen roots' left' right')
  kept_on true (inl ((place, there), e)) = inl ((place, state_at left' right' roots.states place row k there root), ap (λ r. seen r left' right') e)
  kept_on true (inr (new, e)) =
      let more : states_in left' right' (roots.states ++ row ∷ []) ≡ states_in left' right' roots.states ++ k ∷ [] =
      map-append (state_of left' right') roots.states (row ∷ [])
      ∙ ap (λ state. states_in left' right' roots.states ++ state ∷ []) (state_of-is left' right' row k root) in
      inr (unknown new, ap (λ r. seen r left' right') e ∙ ap (λ states. record { width = left'.width + right'.width; room = roots.room; states = states; origins = roots.origins ++ origin ∷ [] }) more)
  kept_on false (new, full, e) = (unknown new, length-map roots.states (state_of left' right') ∙ full, ap (λ r. seen r left' right') e)

  pub IsKept-seen : (kept : Bool) → IsKept roots row origin kept roots' → IsKept (seen roots left right) k origin kept (seen roots' left' right')
  IsKept-seen kept is =
      let Kept : Reached → Type 0 = λ r. IsKept r k origin kept (seen roots' left' right') in
      subst Kept same (kept_on kept is)

  pub IsStored-kept : (kept : Bool) → IsKept roots row origin kept roots' → IsStored roots' left' right'
  IsStored-kept true (inl (known, e)) = subst (λ r. IsStored r left' right') (sym e) on
  IsStored-kept true (inr (new, e)) = subst (λ r. IsStored r left' right') (sym e) (record {
    left_half = half;
    right_half = half';
    left_side = on.left_side;
    right_side = on.right_side;
    middle = on.middle;
    valid = λ place other there. elim (last_or_before roots.states row place other there) [
      | inl before ↦ on.valid place other before
      | inr last ↦ (k, subst (λ r. IsRoot left' right' r k) last.1 root)
    ];
  })
  IsStored-kept false (new, full, e) = subst (λ r. IsStored r left' right') (sym e) on
