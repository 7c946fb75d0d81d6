-- Paths of a transition system. A path is a list of choices, and `step` says what a choice does in
-- a state.
use Rattle.std.specs.Prelude.{◌≡◌, ◌≢◌, ◌↔◌, ℕ, ◌≤◌, AllPairs, Contains, List, [], ◌∷◌, ◌++◌, length}
use Rattle.apex_explore.specs.Systems.{Step, goes, hits}

module _ {K : Type 0} (step : K → ℕ → Step K) where
  -- the path leads from k to n: each of its choices goes on to a next state
  abbrev pub Leads : K → List ℕ → K → Type 0
  Leads k [] n = k ≡ n
  Leads k (choice ∷ path) n = (m : K) × (step k choice ≡ goes m) × Leads m path n

  -- the path hits: its last choice hits in the state to which the choices before it lead
  abbrev pub IsHit : K → List ℕ → Type 0
  IsHit k path = (front : List ℕ) × (last : ℕ) × (n : K)
      × (path ≡ front ++ last ∷ []) × Leads k front n × (step n last ≡ hits)

  -- the path hits, and no shorter one does
  abbrev pub IsShortestHit : K → List ℕ → Type 0
  IsShortestHit k path =
      IsHit k path × ((other : List ℕ) → IsHit k other → length path ≤ length other)

  -- no path hits
  abbrev pub NoHit : K → Type 0
  NoHit k = (path : List ℕ) → IsHit k path → ⊥

  -- no path of at most this length hits
  abbrev pub NoHitWithin : K → ℕ → Type 0
  NoHitWithin k depth = (path : List ℕ) → length path ≤ depth → IsHit k path → ⊥

  -- some path leads from k to n
  abbrev pub IsReachable : K → K → Type 0
  IsReachable k n = (path : List ℕ) × Leads k path n

  -- a path of at most this length leads from k to n
  abbrev pub IsReachableWithin : K → ℕ → K → Type 0
  IsReachableWithin k depth n = (path : List ℕ) × (length path ≤ depth) × Leads k path n

  -- exactly this many states are reached from k: a list of that length has each of them, no other,
  -- and none twice
  abbrev pub ReachesExactly : K → ℕ → Type 0
  ReachesExactly k count = (states : List K) × (length states ≡ count)
      × AllPairs (λ a b. a ≢ b) states × ((n : K) → Contains states n ↔ IsReachable k n)

  -- at least this many states are reached from k by paths of at most this length
  abbrev pub ReachesWithin : K → ℕ → ℕ → Type 0
  ReachesWithin k depth count = (states : List K) × (length states ≡ count)
      × AllPairs (λ a b. a ≢ b) states
      × ((n : K) → Contains states n → IsReachableWithin k depth n)
