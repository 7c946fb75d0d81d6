-- What the levels keep under a weaker step.
use Rattle.std.proofs.Common.{◌≡◌, ℕ, zero, suc, ◌+◌, ◌<◌, ◌≤◌, Bool, true, false, List, [], ◌∷◌, ◌++◌, length, length-append, refl, sym, ap, ◌∙◌, subst, inl, inr, arith}
use Rattle.std.proofs.lemmas.Option.{slice_get_within}
use Rattle.apex_explore.specs.Levels.{IsAt, IsChild, IsLevel, IsTraced, Keeps, first_front}
use Rattle.apex_explore.specs.Paths.{Leads, NoHitWithin, ReachesWithin}
use Rattle.apex_explore.specs.Searches.{AreSearched, IsSearched, IsSearchedBefore, Weakens}
use Rattle.apex_states.specs.States.{IsKept, Reached}
use Rattle.apex_explore.specs.Systems.{Step, goes, hits}
use Rattle.apex_explore.specs.declared.searches.Search.{Search}
use Rattle.apex_states.specs.declared.states.Origin.{Origin}
use Rattle.apex_explore.proofs.Leading.{Ends-from_Leads, Leads-push}
use Rattle.apex_explore.proofs.Levels.{IsLevel-start, nothing_within}
use Rattle.apex_explore.proofs.Keeping.{kept_first}

-- A step that keeps to the states doesn't hit.
hits_nothing : {K : Type 0} (states : List K) (taken : Step K) → Keeps states taken → taken ≡ hits → ⊥
hits_nothing states taken kept e = rw e at kept

goes_past : {K : Type 0} (n : K) (taken : Step K) → taken ≡ goes n → taken ≡ hits → ⊥
goes_past n taken e f = let none : goes n ≡ hits = sym e ∙ f in cc

module _ {K : Type 0} (before step : K → ℕ → Step K) (weakens : Weakens before step) where
  -- A choice that went on goes on.
  goes_still : (k : K) (choice : ℕ) (n : K) → before k choice ≡ goes n → step k choice ≡ goes n
  goes_still k choice n e = elim (weakens k choice) [
    | inl same ↦ same ∙ e
    | inr hit ↦ absurd (goes_past n (before k choice) e hit)
  ]

  -- A choice that kept to the states does the same.
  same_kept : (states : List K) (k : K) (choice : ℕ) → Keeps states (before k choice) → step k choice ≡ before k choice
  same_kept states k choice kept = elim (weakens k choice) [
    | inl same ↦ same
    | inr hit ↦ absurd (hits_nothing states (before k choice) kept hit)
  ]

  Keeps-weaker : (states : List K) (k : K) (choice : ℕ) → Keeps states (before k choice) → Keeps states (step k choice)
  Keeps-weaker states k choice kept =
      let P : Step K → Type 0 = λ s. Keeps states s in
      subst P (sym (same_kept states k choice kept)) kept

  IsChild-weaker : (states : List K) (origins : List Origin) (parent place : ℕ) → IsChild before states origins parent place → IsChild step states origins parent place
  IsChild-weaker states origins parent place child = record {
    from = child.from;
    to = child.to;
    choice = child.choice;
    origin = child.origin;
    from_is = child.from_is;
    to_is = child.to_is;
    leads = goes_still child.from child.choice child.to child.leads;
  }

  IsTraced-weaker : (states : List K) (origins : List Origin) (depth place : ℕ) → IsTraced before states origins depth place → IsTraced step states origins depth place
  IsTraced-weaker states origins zero place traced = traced
  IsTraced-weaker states origins (suc depth) place (parent, child, rest) =
      (parent, IsChild-weaker states origins parent place child, IsTraced-weaker states origins depth parent rest)

  module _ (states : List K) (origins : List Origin) (first : K) (at depth level_end : ℕ) (old : IsLevel before states origins first at depth level_end) where
    -- A path of at most `depth` choices was one before, since it leads by states that are done.
    was_path : (most : ℕ) (path : List ℕ) (n : K) → length path ≤ most → length path ≤ depth → Leads step first path n
        → (other : List ℕ) × (length other ≡ length path) × Leads before first other n
    was_path most [] n few short leads = ([], refl, leads)
    was_path zero (c ∷ cs) n few short leads = absurd (omega arith)
    was_path (suc most) (c ∷ cs) n few short leads =
        let ends = Ends-from_Leads step first c cs n leads in
        let long : length (c ∷ cs) ≡ suc (length ends.front) = ends.longer in
        let shorter = was_path most ends.front ends.from (omega (arith, long)) (omega (arith, long)) ends.leads in
        let among = old.near shorter.0 ends.from (omega (arith, long, shorter.1)) shorter.2 in
        let kept = old.done among.place ends.from ends.last among.within among.is in
        let goes_is : before ends.from ends.last ≡ goes n = sym (same_kept states ends.from ends.last kept) ∙ ends.goes_is in (
          shorter.0 ++ ends.last ∷ [],
          simp length-append (omega (arith, long, shorter.1)),
          Leads-push before first shorter.0 ends.last ends.from n shorter.2 goes_is,
        )

    pub IsLevel-weaker : IsLevel step states origins first at depth level_end
    IsLevel-weaker = record {
      paired = old.paired;
      root = old.root;
      before = λ place below. let was = old.before place below in (was.0, was.1, IsTraced-weaker states origins was.0 place was.2);
      now = λ place above below. IsTraced-weaker states origins depth place (old.now place above below);
      later = λ place above below. IsTraced-weaker states origins (suc depth) place (old.later place above below);
      done = λ place k choice below is. Keeps-weaker states k choice (old.done place k choice below is);
      near = λ path n short leads.
          let was = was_path (length path) path n (omega arith) (omega arith) leads in
          old.near was.0 n (omega (arith, was.1)) was.2;
      level = λ path n short leads.
          let was = was_path (length path) path n (omega arith) short leads in
          old.level was.0 n (omega (arith, was.1)) was.2;
      in_order = old.in_order;
      in_states = old.in_states;
      deep = old.deep;
    }

-- A step weakens itself.
pub Weakens-refl : {K : Type 0} (step : K → ℕ → Step K) → Weakens step step
Weakens-refl step k choice = inl refl

-- What was searched by the step before is searched by the weaker one.
pub IsSearched-weaker : {W : Type 0} (step : List ℕ → ℕ → Step (List ℕ)) (first : List ℕ) (search : Search W)
    → IsSearchedBefore step first search → IsSearched step first search
IsSearched-weaker step first search (before, weakens, inl none) = inl none
IsSearched-weaker step first search (before, weakens, inr old) =
    inr (IsLevel-weaker before step weakens search.states.states search.states.origins first search.front.at search.front.depth search.front.level_end old)

-- With a state it is at its front.
pub at_front : {W : Type 0} (step : List ℕ → ℕ → Step (List ℕ)) (first : List ℕ) (search : Search W)
    → 0 < length search.states.states → IsSearchedBefore step first search → IsAt step first search.states search.front
at_front step first search some searched = elim (IsSearched-weaker step first search searched) [
  | inl none ↦ let long : length search.states.states ≡ 0 = ap length none.0 in absurd (omega (arith, long))
  | inr level ↦ level
]

-- With no state there is no room.
no_room : {W : Type 0} (step : List ℕ → ℕ → Step (List ℕ)) (first : List ℕ) (search : Search W)
    → length search.states.states ≡ 0 → IsSearchedBefore step first search → search.states.room ≡ 0
no_room step first search none (before, weakens, inl (empty, room)) = room
no_room step first search none (before, weakens, inr old) =
    let some = slice_get_within search.states.states 0 first old.root in absurd (omega (arith, some))

pub full_at_once : {W : Type 0} (step : List ℕ → ℕ → Step (List ℕ)) (first : List ℕ) (search : Search W)
    → length search.states.states ≡ 0 → IsSearchedBefore step first search
    → NoHitWithin step first 0 × ReachesWithin step first 1 (search.states.room + 1)
full_at_once step first search none searched =
    nothing_within step first search.states.room (no_room step first search none searched)

-- The first state is kept, unless there is no room.
pub searched_first : (step : List ℕ → ℕ → Step (List ℕ)) (first : List ℕ) (old : Reached) (origin : Origin) (kept : Bool) (new : Reached)
    → old.states ≡ [] → old.origins ≡ []
    → IsKept old first origin kept new
    → AreSearched step first new first_front
searched_first step first old origin true new states origins kept =
    let alone = kept_first old first origin new states origins kept in
    inr (rw alone.0 (IsLevel-start step first new.origins alone.1))
searched_first step first old origin false new states origins (fresh, full, same) =
    inl (
      ap (λ (s : Reached). s.states) same ∙ states,
      ap (λ (s : Reached). s.room) same ∙ (sym full ∙ ap length states),
    )

-- A path that led from a state to another one leads there.
pub Leads-weaker : {K : Type 0} (before step : K → ℕ → Step K) → Weakens before step → (k : K) (path : List ℕ) (n : K) → Leads before k path n → Leads step k path n
Leads-weaker before step weakens k [] n leads = leads
Leads-weaker before step weakens k (c ∷ cs) n (m, goes_is, rest) =
    (m, goes_still before step weakens k c m goes_is, Leads-weaker before step weakens m cs n rest)
