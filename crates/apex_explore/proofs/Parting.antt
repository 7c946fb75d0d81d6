-- What the parts of a level leave.
use Rattle.std.proofs.Common.{◌≡◌, ℕ, suc, ◌+◌, ◌-◌, ◌<◌, ◌≤◌, true, false, List, [], length, Option, None, Some, sym, ap, ◌∙◌, subst, inl, inr, arith, get_or}
use Rattle.std.proofs.lemmas.Bool.{cases_lt}
use Rattle.std.proofs.lemmas.Option.{same_Some, slice_get-get_or, slice_get_within}
use Rattle.std.specs.List.{slice_get}
use Rattle.std.specs.Prelude.{IfSome}
use Rattle.apex_states.specs.Batches.{Copies}
use Rattle.apex_states.specs.Finds.{AreKept, AreThere, Found, GoesOnWith, IsFind}
use Rattle.apex_states.specs.Index.{IsKnown}
use Rattle.apex_states.specs.Lists.{AllAre, IsFront}
use Rattle.apex_states.specs.States.{Reached}
use Rattle.apex_states.specs.declared.states.Origin.{Origin}
use Rattle.apex_states.proofs.Fronts.{at_old_place}
use Rattle.apex_explore.specs.declared.fronts.Front.{Front}
use Rattle.apex_states.specs.declared.expansions.Expansion.{Expansion}
use Rattle.apex_explore.specs.declared.search.Stop.{Stop}
use Rattle.apex_explore.specs.declared.search.Stop.TheVariants as stops
use Rattle.apex_explore.specs.Levels.{IsAt, IsChild, IsLevel, Keeps, Stops}
use Rattle.apex_explore.specs.Parts.{Ends, Expanded, FitsOne, Follows, GrowsBy, IsExpansion, IsFrom, Stands}
use Rattle.apex_explore.specs.Systems.{Step, refuses, goes, hits}
use Rattle.apex_explore.proofs.Levels.{IsAmong-widen, IsTraced-widen, Keeps-widen}

module _ {K : Type 0} (step : K → ℕ → Step K) where
  -- The states of a part are done.
  pub IsLevel-part : (first : K) (states : List K) (origins : List Origin) (states' : List K) (origins' : List Origin) (from at limit depth level_end : ℕ)
      → from ≤ at → at ≤ limit → limit ≤ level_end
      → IsLevel step states origins first from depth level_end
      → GrowsBy step from at limit states origins states' origins'
      → IsLevel step states' origins' first at depth level_end
  IsLevel-part first states origins states' origins' from at limit depth level_end above below within old grows =
      let front = grows.states_front in
      let front' = grows.origins_front in
      record {
        paired = grows.paired;
        root = front.same 0 first old.root;
        before = λ place under.
            elim (cases_lt place from) [
              | inl lt ↦ let was = old.before place lt in (was.0, was.1, IsTraced-widen step was.0 place front front' was.2)
              | inr ge ↦ (depth, omega arith, IsTraced-widen step depth place front front' (old.now place ge (omega arith)))
            ];
        now = λ place over under. IsTraced-widen step depth place front front' (old.now place (omega arith) under);
        later = λ place over under.
            elim (cases_lt place (length states)) [
              | inl lt ↦ IsTraced-widen step (suc depth) place front front' (old.later place over lt)
              | inr ge ↦
                  let child = grows.children place ge under in
                  (child.0, child.3, IsTraced-widen step depth child.0 front front' (old.now child.0 child.1 (omega (arith, child.2))))
            ];
        done = λ place k choice under is.
            let was = at_old_place states states' place k front (omega (arith, old.in_states)) is in
            elim (cases_lt place from) [
              | inl lt ↦ Keeps-widen (step k choice) front (old.done place k choice lt was)
              | inr ge ↦ grows.done place k choice ge under was
            ];
        near = λ path n short leads. IsAmong-widen from at front above (old.near path n short leads);
        level = λ path n short leads. IsAmong-widen level_end level_end front (omega arith) (old.level path n short leads);
        in_order = omega arith;
        in_states = omega (arith, old.in_states, front.longer);
        deep = old.deep;
      }

-- What the states that are kept leave.

-- a step that goes on to a state that was found goes on to one that is there
pub Keeps-there : (found states : List (List ℕ)) (taken : Step (List ℕ))
    → ((place : ℕ) (k : List ℕ) → slice_get found place ≡ Some k → IsKnown states k)
    → Keeps found taken → Keeps states taken
Keeps-there found states refuses there kept = kept
Keeps-there found states (goes n) there kept =
    let known = there kept.place n kept.is in
    record { place = known.0; within = slice_get_within states known.0 n known.1; is = known.1 }
Keeps-there found states hits there kept = kept

done_within : (step : List ℕ → ℕ → Step (List ℕ)) (states : List (List ℕ)) (done : ℕ) (hit : Option ℕ) → Ends step states done hit → done ≤ length states
done_within step states done None ends = omega (arith, ends)
done_within step states done (Some choice) ends = omega (arith, slice_get_within states done ends.0 ends.1)

module _ (step : List ℕ → ℕ → Step (List ℕ)) (is_state : List ℕ → Type 0) (from limit : ℕ) (old : Reached) (expansion : Expansion)
    (expanded : Expanded step is_state old from limit expansion) where
  abbrev copies : Copies
  copies = expanded.copies

  -- an expansion ends at most at its limit
  end_within : (from ≤ expansion.end) × (expansion.end ≤ limit)
  end_within =
      let done = done_within step copies.states expanded.is.done expansion.hit expanded.is.ends in
      (omega (arith, expanded.is.end, expanded.copied.first), omega (arith, done, expanded.is.end, expanded.copied.first, expanded.copied.whole))

  -- a state that was found is a child
  found_child : (n : List ℕ) (origin : Origin) → IsFrom step copies n origin
      → (from ≤ origin.parent) × (origin.parent < limit)
      × ((p : List ℕ) × (slice_get old.states origin.parent ≡ Some p) × (step p origin.choice ≡ goes n))
  found_child n origin is_from =
      let short = slice_get_within copies.states is_from.at is_from.k is_from.is in
      let place : origin.parent ≡ from + is_from.at = omega (arith, is_from.place, expanded.copied.first) in
      let there = expanded.copied.same is_from.at is_from.k is_from.is in
      (omega (arith, place), omega (arith, place, short, expanded.copied.whole), (is_from.k, ap (slice_get old.states) place ∙ there, is_from.leads))

  -- what was found has an origin
  origin_at : (at : ℕ) (n : List ℕ) → slice_get expansion.finds.states at ≡ Some n → (origin : Origin) × IsFind expansion.finds at n origin
  origin_at at n is =
      let nowhere : Origin = record { parent = 0; choice = 0 } in
      let short = slice_get_within expansion.finds.states at n is in
      let origin_is = slice_get-get_or expansion.finds.origins at nowhere (omega (arith, short, expanded.is.filling.paired)) in
      (get_or expansion.finds.origins at nowhere, record { state = is; origin = origin_is })

  -- a state that is done is one of the copies
  copy_at : (place : ℕ) (k : List ℕ) → from ≤ place → place < expansion.end → slice_get old.states place ≡ Some k
      → (place - from < expanded.is.done) × (slice_get copies.states (place - from) ≡ Some k)
  copy_at place k above below is =
      let done = done_within step copies.states expanded.is.done expansion.hit expanded.is.ends in
      let before : place - from < expanded.is.done = omega (arith, above, below, expanded.is.end, expanded.copied.first) in
      let n = get_or copies.states (place - from) [] in
      let copy = slice_get-get_or copies.states (place - from) [] (omega (arith, before, done)) in
      let same : from + (place - from) ≡ place = omega arith in
      let there : slice_get old.states place ≡ Some n = ap (slice_get old.states) (sym same) ∙ expanded.copied.same (place - from) n copy in
      (before, copy ∙ ap Some (same_Some n k (sym there ∙ is)))

module _ (step : List ℕ → ℕ → Step (List ℕ)) (is_state : List ℕ → Type 0) (from limit : ℕ) (old new : Reached) (expansion : Expansion)
    (expanded : Expanded step is_state old from limit expansion)
    (goes_on : GoesOnWith expansion.finds old new) where
  children_kept : (child : ℕ) → length old.states ≤ child → child < length new.states
      → (parent : ℕ) × (from ≤ parent) × (parent < limit) × IsChild step new.states new.origins parent child
  children_kept child far near =
      let (at, k, origin, find, state_is, origin_is) = goes_on.added child far near in
      let (above, below, (p, there, leads)) = found_child step is_state from limit old expansion expanded k origin (expanded.is.finds.from at k origin find) in
      let now = goes_on.states_front.same origin.parent p there in
      (origin.parent, above, below, record { from = p; to = k; choice = origin.choice; origin = origin_is; from_is = now; to_is = state_is; leads = leads })

  -- each child of the states of the part is kept
  GrowsBy-kept : AreThere expansion.finds new true → GrowsBy step from expansion.end limit old.states old.origins new.states new.origins
  GrowsBy-kept there = record {
    states_front = goes_on.states_front;
    origins_front = goes_on.origins_front;
    paired = goes_on.paired;
    children = children_kept;
    done = λ place k choice above below is.
        let copy = copy_at step is_state from limit old expansion expanded place k above below is in
        Keeps-there expansion.finds.states new.states (step k choice) there (expanded.is.finds.whole (place - from) k choice copy.0 copy.1);
  }

  -- some children are kept
  GrowsBy-some : GrowsBy step from from limit old.states old.origins new.states new.origins
  GrowsBy-some = record {
    states_front = goes_on.states_front;
    origins_front = goes_on.origins_front;
    paired = goes_on.paired;
    children = children_kept;
    done = λ place k choice above below. absurd (omega arith);
  }

-- the states that are kept are those of the system
pub AllAre-kept : (P : List ℕ → Type 0) (found : Found) (old new : Reached) → GoesOnWith found old new → AllAre P old.states → AllAre P found.states → AllAre P new.states
AllAre-kept P found old new goes_on all finds place k is =
    elim (cases_lt place (length old.states)) [
      | inl lt ↦ all place k (at_old_place old.states new.states place k goes_on.states_front lt is)
      | inr ge ↦
          let (at, n, origin, find, state_is, origin_is) = goes_on.added place ge (slice_get_within new.states place k is) in
          subst P (same_Some n k (sym state_is ∙ is)) (finds at n find.state)
    ]

-- What a part that is taken leaves.

module _ (step : List ℕ → ℕ → Step (List ℕ)) (is_state : List ℕ → Type 0) (first : List ℕ) (old new : Reached) (front : Front) (expansion : Expansion)
    (level : IsAt step first old front)
    (fits : FitsOne step is_state old front expansion)
    (goes_on : GoesOnWith expansion.finds old new) where
  within : (front.at ≤ expansion.end) × (expansion.end ≤ fits.limit)
  within = end_within step is_state front.at fits.limit old expansion fits.expanded

  -- there is no room for one
  taken_some : IsAt step first new front
  taken_some = IsLevel-part step first old.states old.origins new.states new.origins front.at front.at fits.limit front.depth front.level_end
      (omega arith) (omega (arith, within.0, within.1)) fits.level level (GrowsBy-some step is_state front.at fits.limit old new expansion fits.expanded goes_on)

  taken_over : AreThere expansion.finds new false → Stops step new front stops.Over
  taken_over (at, n, is, unknown, full) =
      let (origin, find) = origin_at step is_state front.at fits.limit old expansion fits.expanded at n is in
      let (above, below, (p, there, leads)) = found_child step is_state front.at fits.limit old expansion fits.expanded n origin (fits.expanded.is.finds.from at n origin find) in
      let now = goes_on.states_front.same origin.parent p there in
      (origin.parent, above, omega (arith, below, fits.level), (p, n, origin.choice, now, leads, unknown, full))

  -- all are kept
  taken_all : AreThere expansion.finds new true → IsAt step first new (record front { at = expansion.end })
  taken_all there = IsLevel-part step first old.states old.origins new.states new.origins front.at expansion.end fits.limit front.depth front.level_end
      within.0 within.1 fits.level level (GrowsBy-kept step is_state front.at fits.limit old new expansion fits.expanded goes_on there)

  taken_struck : (choice : ℕ) → expansion.hit ≡ Some choice → Stops step new (record front { at = expansion.end }) (stops.Struck choice)
  taken_struck choice hit =
      let copied = fits.expanded.copied in
      let made = fits.expanded.is in
      let Is : Option ℕ → Type 0 = λ h. Ends step fits.expanded.copies.states made.done h in
      let (k, is, hit_is) = subst Is hit made.ends in
      let short = slice_get_within fits.expanded.copies.states made.done k is in
      let e : expansion.end ≡ front.at + made.done = omega (arith, made.end, copied.first) in
      let there : slice_get old.states expansion.end ≡ Some k = ap (slice_get old.states) e ∙ copied.same made.done k is in
      (omega (arith, e, short, copied.whole, fits.level), (k, goes_on.states_front.same expansion.end k there, hit_is))

module _ (step : List ℕ → ℕ → Step (List ℕ)) (is_state : List ℕ → Type 0) (first : List ℕ) (word_count : ℕ) (old new : Reached) (front : Front) (expansion : Expansion)
    (stands : Stands step is_state first word_count old front)
    (fits : FitsOne step is_state old front expansion) where
  follows : (front' : Front) (stop : Option Stop) → GoesOnWith expansion.finds old new → IsAt step first new front' → IfSome stop (Stops step new front')
      → Follows step is_state first word_count old new front' stop
  follows front' stop goes_on level stops = record {
    stands = record {
      level = level;
      width = goes_on.width ∙ stands.width;
      states = AllAre-kept is_state expansion.finds old new goes_on stands.states fits.expanded.is.filling.states;
    };
    stops = stops;
    states_front = goes_on.states_front;
    room = goes_on.room;
  }

  pub Follows-over : AreKept expansion.finds old new false → Follows step is_state first word_count old new front (Some stops.Over)
  Follows-over kept = follows front (Some stops.Over) kept.goes_on (taken_some step is_state first old new front expansion stands.level fits kept.goes_on) (taken_over step is_state first old new front expansion stands.level fits kept.goes_on kept.there)

  pub Follows-struck : (choice : ℕ) → expansion.hit ≡ Some choice → AreKept expansion.finds old new true
      → Follows step is_state first word_count old new (record front { at = expansion.end }) (Some (stops.Struck choice))
  Follows-struck choice hit kept = follows (record front { at = expansion.end }) (Some (stops.Struck choice)) kept.goes_on (taken_all step is_state first old new front expansion stands.level fits kept.goes_on kept.there) (taken_struck step is_state first old new front expansion stands.level fits kept.goes_on choice hit)

  pub Follows-past : AreKept expansion.finds old new true → Follows step is_state first word_count old new (record front { at = expansion.end }) None
  Follows-past kept = follows (record front { at = expansion.end }) None kept.goes_on (taken_all step is_state first old new front expansion stands.level fits kept.goes_on kept.there) tt

-- an expansion of states that stay there
pub Expanded-later : (step : List ℕ → ℕ → Step (List ℕ)) (is_state : List ℕ → Type 0) (from limit : ℕ) (old new : Reached) (expansion : Expansion)
    → IsFront old.states new.states → new.width ≡ old.width → Expanded step is_state old from limit expansion → Expanded step is_state new from limit expansion
Expanded-later step is_state from limit old new expansion front width expanded = record {
  copies = expanded.copies;
  copied = record {
    first = expanded.copied.first;
    width = expanded.copied.width ∙ sym width;
    whole = expanded.copied.whole;
    same = λ at k is. front.same (from + at) k (expanded.copied.same at k is);
  };
  is = subst (λ n. IsExpansion step n is_state expanded.copies expansion) (sym width) expanded.is;
}
