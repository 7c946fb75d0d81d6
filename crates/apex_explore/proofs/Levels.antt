-- What the levels of a search keep, and what follows at its end.
use Rattle.std.proofs.Common.{◌≡◌, ◌≢◌, ℕ, zero, suc, ◌+◌, ◌<◌, ◌≤◌, ◌==◌, true, false, List, [], ◌∷◌, ◌++◌, length, Some, refl, sym, ap, ◌∙◌, subst, inl, inr, arith, get_or, length-append}
use Rattle.std.proofs.lemmas.Bool.{cases_Bool, cases_lt}
use Rattle.std.proofs.lemmas.Bool.Decides.{Decides-eqb, not_from_Decides}
use Rattle.std.proofs.lemmas.Option.{same_Some, slice_get_within, slice_get-get_or, get_or_from_slice_get}
use Rattle.std.proofs.lemmas.List.Elements.{Contains-append_cases}
use Rattle.std.specs.List.{slice_get, AllPairs, Contains}
use Rattle.apex_explore.specs.Systems.{Step}
use Rattle.apex_explore.specs.Systems.{refuses, goes, hits}
use Rattle.apex_states.specs.declared.states.Origin.{Origin}
use Rattle.apex_explore.specs.Paths.{Leads, IsHit, NoHit, NoHitWithin, IsShortestHit, IsReachableWithin, ReachesExactly, ReachesWithin}
use Rattle.apex_explore.specs.Levels.{IsAmong, Keeps, IsTrail, IsChild, IsTraced, IsLevel, Grows, turned}
use Rattle.apex_states.specs.Lists.{IsFront}
use Rattle.apex_explore.specs.declared.fronts.Front.{Front}
use Rattle.apex_states.proofs.Fronts.{at_old_place, IsFront-refl}
use Rattle.apex_explore.proofs.Leading.{Leads-push, Ends-from_Leads}

pub IsAmong-widen : {K : Type 0} {states states' : List K} {n : K} (count count' : ℕ) → IsFront states states' → count ≤ count' → IsAmong states count n → IsAmong states' count' n
IsAmong-widen count count' front le among = record { place = among.place; within = omega arith; is = front.same among.place _ among.is }

pub Keeps-widen : {K : Type 0} {states states' : List K} (taken : Step K) → IsFront states states' → Keeps states taken → Keeps states' taken
Keeps-widen refuses front kept = kept
Keeps-widen {states = states} {states' = states'} (goes n) front kept = IsAmong-widen (length states) (length states') front front.longer kept
Keeps-widen hits front kept = kept

only : {K : Type 0} (n m : K) → Contains (n ∷ []) m → n ≡ m
only n m (zero, below, is) = is
only n m (suc place, below, is) = absurd (omega arith)

turned-end : (front : Front) (count : ℕ) → front.at == front.level_end ≡ true → turned front count ≡ record { at = front.at; depth = front.depth + 1; level_end = count }
turned-end front count same = rw same refl

turned-same : (front : Front) (count : ℕ) → front.at == front.level_end ≡ false → turned front count ≡ front
turned-same front count other = rw other refl

pub turned_at : (front : Front) (count : ℕ) → (turned front count).at ≡ front.at
turned_at front count = elim (cases_Bool (front.at == front.level_end)) [
  | inl same ↦ ap (λ (f : Front). f.at) (turned-end front count same)
  | inr other ↦ ap (λ (f : Front). f.at) (turned-same front count other)
]

-- a place in the level, or behind its end if the front is there, is in the level of the front's next state
pub turned_level : (front : Front) (count place : ℕ) → place ≤ count → (front.at < front.level_end → place ≤ front.level_end) → front.at ≤ front.level_end → place ≤ (turned front count).level_end
turned_level front count place all level in_order =
    let Ends : Front → Type 0 = λ f. place ≤ f.level_end in
    elim (cases_Bool (front.at == front.level_end)) [
      | inl same ↦ subst Ends (sym (turned-end front count same)) all
      | inr other ↦
          let differ = not_from_Decides (front.at == front.level_end) (Decides-eqb front.at front.level_end) other in
          subst Ends (sym (turned-same front count other)) (level (omega (arith, in_order, differ)))
    ]

module _ {K : Type 0} (step : K → ℕ → Step K) where
  pub IsChild-widen : {states states' : List K} {origins origins' : List Origin} (parent place : ℕ) → IsFront states states' → IsFront origins origins' → IsChild step states origins parent place → IsChild step states' origins' parent place
  IsChild-widen parent place f g child = record {
    from = child.from;
    to = child.to;
    choice = child.choice;
    origin = g.same place _ child.origin;
    from_is = f.same parent _ child.from_is;
    to_is = f.same place _ child.to_is;
    leads = child.leads;
  }

  pub IsTraced-widen : {states states' : List K} {origins origins' : List Origin} (depth place : ℕ) → IsFront states states' → IsFront origins origins' → IsTraced step states origins depth place → IsTraced step states' origins' depth place
  IsTraced-widen zero place f g traced = traced
  IsTraced-widen (suc depth) place f g (parent, child, rest) = (parent, IsChild-widen parent place f g child, IsTraced-widen depth parent f g rest)

  -- A hit within the depth would be a choice in a state that is done.
  pub no_hit : (states : List K) (first : K) (at depth : ℕ)
      → ((path : List ℕ) (n : K) → length path < depth → Leads step first path n → IsAmong states at n)
      → ((place : ℕ) (k : K) (choice : ℕ) → place < at → slice_get states place ≡ Some k → Keeps states (step k choice))
      → NoHitWithin step first depth
  no_hit states first at depth near done path short (front, last, n, split, leads, hit_is) =
      let count : length path ≡ suc (length front) = rw split (simp length-append (omega arith)) in
      let among = near front n (omega arith) leads in
      let kept = done among.place n last among.within among.is in
      rw hit_is at kept

  -- Once each state before the end of the level is done, the states have each one that is one choice farther.
  pub next_level : (states : List K) (first : K) (depth level_end : ℕ)
      → ((path : List ℕ) (n : K) → length path ≤ depth → Leads step first path n → IsAmong states level_end n)
      → ((place : ℕ) (k : K) (choice : ℕ) → place < level_end → slice_get states place ≡ Some k → Keeps states (step k choice))
      → level_end ≤ length states
      → (path : List ℕ) (n : K) → length path ≤ suc depth → Leads step first path n → IsAmong states (length states) n
  next_level states first depth level_end level done within [] n short leads =
      IsAmong-widen level_end (length states) (IsFront-refl states) within (level [] n (omega arith) leads)
  next_level states first depth level_end level done within (c ∷ cs) n short leads =
      let ends = Ends-from_Leads step first c cs n leads in
      let among = level ends.front ends.from (omega (arith, ends.longer)) ends.leads in
      let kept = done among.place ends.from ends.last among.within among.is in
      rw ends.goes_is at kept

  -- Where each state is done, the states have each one that can be reached.
  pub all_reached : (states : List K)
      → ((place : ℕ) (k : K) (choice : ℕ) → place < length states → slice_get states place ≡ Some k → Keeps states (step k choice))
      → (k : K) (path : List ℕ) (n : K) → IsAmong states (length states) k → Leads step k path n → IsAmong states (length states) n
  all_reached states done k [] n among e = rw e at among
  all_reached states done k (c ∷ cs) n among (m, s, r) =
      let kept = done among.place k c among.within among.is in
      all_reached states done m cs n (rw s at kept) r

  -- Where each state is done, no path hits.
  pub closed : (states : List K) (first : K)
      → slice_get states 0 ≡ Some first
      → ((place : ℕ) (k : K) (choice : ℕ) → place < length states → slice_get states place ≡ Some k → Keeps states (step k choice))
      → (path : List ℕ) → IsHit step first path → ⊥
  closed states first root done path (front, last, n, split, leads, hit_is) =
      let start : IsAmong states (length states) first = record { place = 0; within = slice_get_within states 0 first root; is = root } in
      let among = all_reached states done first front n start leads in
      let kept = done among.place n last among.within among.is in
      rw hit_is at kept

  -- A trace gives the path that its origins say.
  pub record Trail (states : List K) (origins : List Origin) (first : K) (depth place : ℕ) (n : K) : Type 0 where
    pub path : List ℕ
    pub trail : IsTrail origins depth place path
    pub long : length path ≡ depth
    pub leads : Leads step first path n

  pub Trail-from_IsTraced : (states : List K) (origins : List Origin) (first : K) → slice_get states 0 ≡ Some first → (depth place : ℕ) (n : K) → slice_get states place ≡ Some n → IsTraced step states origins depth place → Trail states origins first depth place n
  Trail-from_IsTraced states origins first root zero place n is e =
      let same : Some n ≡ Some first = sym is ∙ (ap (slice_get states) e ∙ root) in
      record { path = []; trail = refl; long = refl; leads = sym (same_Some n first same) }
  Trail-from_IsTraced states origins first root (suc depth) place n is (parent, child, rest) =
      let before = Trail-from_IsTraced states origins first root depth parent child.from child.from_is rest in
      let same : Some child.to ≡ Some n = sym child.to_is ∙ is in
      let e : child.to ≡ n = same_Some child.to n same in
      record {
        path = before.path ++ child.choice ∷ [];
        trail = (record { parent = parent; choice = child.choice }, before.path, child.origin, refl, before.trail);
        long = simp length-append (omega (arith, before.long));
        leads = Leads-push step first before.path child.choice child.from n before.leads (child.leads ∙ ap goes e);
      }

  IsTrail-unique : (origins : List Origin) (depth place : ℕ) (p q : List ℕ) → IsTrail origins depth place p → IsTrail origins depth place q → p ≡ q
  IsTrail-unique origins zero place p q e f = e ∙ sym f
  IsTrail-unique origins (suc depth) place p q (o, front, is, split, rest) (o', front', is', split', rest') =
      let same : Some o ≡ Some o' = sym is ∙ is' in
      let e : o ≡ o' = same_Some o o' same in
      let P : Origin → Type 0 = λ x. IsTrail origins depth x.parent front in
      let fronts : front ≡ front' = IsTrail-unique origins depth o'.parent front front' (subst P e rest) rest' in
      rw (split, split', e, fronts) refl

  -- What is stored for the state at `at` is one choice farther.
  pub IsLevel-grown : (first : K) (states : List K) (origins : List Origin) (states' : List K) (origins' : List Origin) (at depth level_end : ℕ)
      → at < level_end
      → IsLevel step states origins first at depth level_end
      → Grows step at states origins states' origins'
      → IsLevel step states' origins' first at depth level_end
  IsLevel-grown first states origins states' origins' at depth level_end here old grows =
      let front = grows.states_front in
      let front' = grows.origins_front in
      record {
        paired = grows.paired;
        root = front.same 0 first old.root;
        before = λ place below. let was = old.before place below in (was.0, was.1, IsTraced-widen was.0 place front front' was.2);
        now = λ place above below. IsTraced-widen depth place front front' (old.now place above below);
        later = λ place above below.
            elim (cases_lt place (length states)) [
              | inl lt ↦ IsTraced-widen (suc depth) place front front' (old.later place above lt)
              | inr ge ↦ (at, grows.children place ge below, IsTraced-widen depth at front front' (old.now at (omega arith) here))
            ];
        done = λ place k choice below is.
            Keeps-widen (step k choice) front (old.done place k choice below (at_old_place states states' place k front (omega (arith, old.in_order, old.in_states)) is));
        near = λ path n short leads. IsAmong-widen at at front (omega arith) (old.near path n short leads);
        level = λ path n short leads. IsAmong-widen level_end level_end front (omega arith) (old.level path n short leads);
        in_order = old.in_order;
        in_states = omega (arith, old.in_states, front.longer);
        deep = old.deep;
      }

  -- One more state is done.
  IsLevel-past : (first : K) (states : List K) (origins : List Origin) (at depth level_end : ℕ)
      → at < level_end
      → IsLevel step states origins first at depth level_end
      → ((k : K) (choice : ℕ) → slice_get states at ≡ Some k → Keeps states (step k choice))
      → IsLevel step states origins first (at + 1) depth level_end
  IsLevel-past first states origins at depth level_end here old kept = record {
    paired = old.paired;
    root = old.root;
    before = λ place below.
        elim (cases_lt place at) [
          | inl lt ↦ old.before place lt
          | inr ge ↦ (depth, omega arith, old.now place ge (omega arith))
        ];
    now = λ place above below. old.now place (omega arith) below;
    later = old.later;
    done = λ place k choice below is.
        elim (cases_lt place at) [
          | inl lt ↦ old.done place k choice lt is
          | inr ge ↦ let e : place ≡ at = omega arith in kept k choice (rw e at is)
        ];
    near = λ path n short leads. IsAmong-widen at (at + 1) (IsFront-refl states) (omega arith) (old.near path n short leads);
    level = old.level;
    in_order = omega arith;
    in_states = old.in_states;
    deep = old.deep;
  }

  pub IsLevel-done : (first : K) (states : List K) (origins : List Origin) (states' : List K) (origins' : List Origin) (at depth level_end : ℕ)
      → at < level_end
      → IsLevel step states origins first at depth level_end
      → Grows step at states origins states' origins'
      → ((k : K) (choice : ℕ) → slice_get states' at ≡ Some k → Keeps states' (step k choice))
      → IsLevel step states' origins' first (at + 1) depth level_end
  IsLevel-done first states origins states' origins' at depth level_end here old grows kept =
      IsLevel-past first states' origins' at depth level_end here
      (IsLevel-grown first states origins states' origins' at depth level_end here old grows) kept

  -- At the end of a level the next one begins.
  pub IsLevel-next : (first : K) (states : List K) (origins : List Origin) (at depth : ℕ)
      → at < length states
      → IsLevel step states origins first at depth at
      → IsLevel step states origins first at (depth + 1) (length states)
  IsLevel-next first states origins at depth more old =
      let next : IsLevel step states origins first at (suc depth) (length states) = record {
        paired = old.paired;
        root = old.root;
        before = λ place below. let was = old.before place below in (was.0, omega (arith, was.1), was.2);
        now = old.later;
        later = λ place above below. absurd (omega arith);
        done = old.done;
        near = λ path n short leads. old.level path n (omega arith) leads;
        level = next_level states first depth at old.level old.done old.in_states;
        in_order = omega arith;
        in_states = omega arith;
        deep = omega (arith, old.deep);
      } in
      let e : suc depth ≡ depth + 1 = omega arith in
      let P : ℕ → Type 0 = λ d. IsLevel step states origins first at d (length states) in
      subst P e next

  -- The first state alone is a level.
  pub IsLevel-start : (first : K) (origins : List Origin) → length origins ≡ 1 → IsLevel step (first ∷ []) origins first 0 0 1
  IsLevel-start first origins paired = record {
    paired = paired;
    root = refl;
    before = λ place below. absurd (omega arith);
    now = λ place above below. omega arith;
    later = λ place above below. absurd (omega arith);
    done = λ place k choice below is. absurd (omega arith);
    near = λ path n short leads. absurd (omega arith);
    level = level_start;
    in_order = omega arith;
    in_states = omega arith;
    deep = omega arith;
  }
    where
      level_start : (path : List ℕ) (n : K) → length path ≤ 0 → Leads step first path n → IsAmong (first ∷ []) 1 n
      level_start [] n short e = record { place = 0; within = omega arith; is = ap Some e }
      level_start (c ∷ cs) n short leads = absurd (omega arith)

  -- The level of the front's next state: at the end of one the next one begins.
  pub IsLevel-turned : (first : K) (states : List K) (origins : List Origin) (front front' : Front) (count : ℕ)
      → front.at < length states
      → IsLevel step states origins first front.at front.depth front.level_end
      → count ≡ length states
      → front' ≡ turned front count
      → IsLevel step states origins first front'.at front'.depth front'.level_end × (front'.at < front'.level_end)
  IsLevel-turned first states origins front front' count more old all turn =
      let AtLevel : Front → Type 0 = λ f. IsLevel step states origins first f.at f.depth f.level_end × (f.at < f.level_end) in
      elim (cases_Bool (front.at == front.level_end)) [
        | inl same ↦
            let e : front.level_end ≡ front.at = sym ((Decides-eqb front.at front.level_end).0 same) in
            let Level : ℕ → Type 0 = λ n. IsLevel step states origins first front.at front.depth n in
            let next = IsLevel-next first states origins front.at front.depth more (subst Level e old) in
            let Ends : ℕ → Type 0 = λ n. IsLevel step states origins first front.at (front.depth + 1) n × (front.at < n) in
            let both : Ends (length states) = (next, more) in
            subst AtLevel (sym (turn ∙ turned-end front count same)) (subst Ends (sym all) both)
        | inr other ↦
            let differ = not_from_Decides (front.at == front.level_end) (Decides-eqb front.at front.level_end) other in
            let both : AtLevel front = (old, omega (arith, old.in_order, differ)) in
            subst AtLevel (sym (turn ∙ turned-same front count other)) both
      ]

  -- With no room there is not even the first state.
  pub nothing_within : (first : K) (room : ℕ) → room ≡ 0 → NoHitWithin step first 0 × ReachesWithin step first 1 (room + 1)
  nothing_within first room none =
      let alone : length (first ∷ []) ≡ room + 1 = omega arith in (
        λ path short (front, last, n, split, leads, hit_is). let long : length path ≡ suc (length front) = rw split (simp length-append (omega arith)) in omega arith,
        (
          first ∷ [],
          alone,
          λ i j d before within. absurd (omega arith),
          λ n has. ([], omega arith, only first n has),
        ),
      )

  within_next : (first : K) (states : List K) (origins : List Origin) (at depth level_end : ℕ)
      → IsLevel step states origins first at depth level_end
      → (place : ℕ) → place < length states → (steps : ℕ) × (steps ≤ depth + 1) × IsTraced step states origins steps place
  within_next first states origins at depth level_end old place below =
      elim (cases_lt place at) [
        | inl lt ↦ let was = old.before place lt in (was.0, omega (arith, was.1), was.2)
        | inr ge ↦ elim (cases_lt place level_end) [
          | inl here ↦ (depth, omega arith, old.now place ge here)
          | inr far ↦ (suc depth, omega arith, old.later place far below)
        ]
      ]

  -- What a state's trace says, at a state that the states contain.
  reach_from_trace : (first : K) (states : List K) (origins : List Origin) (depth : ℕ)
      → slice_get states 0 ≡ Some first
      → ((place : ℕ) → place < length states → (steps : ℕ) × (steps ≤ depth) × IsTraced step states origins steps place)
      → (n : K) → Contains states n → IsReachableWithin step first depth n
  reach_from_trace first states origins depth root traced n (place, below, is) =
      let at : slice_get states place ≡ Some n = slice_get-get_or states place n below ∙ ap Some is in
      let trace = traced place below in
      let trail = Trail-from_IsTraced states origins first root trace.0 place n at trace.2 in
      (trail.path, omega (arith, trail.long, trace.1), trail.leads)

  -- A choice that hits in the state at `at`, after the path that was read off the origins.
  pub IsLevel-found : (first : K) (states : List K) (origins : List Origin) (at depth level_end : ℕ) (path : List ℕ) (k : K) (choice : ℕ)
      → at < level_end
      → IsLevel step states origins first at depth level_end
      → slice_get states at ≡ Some k
      → step k choice ≡ hits
      → IsTrail origins depth at path
      → IsShortestHit step first (path ++ choice ∷ [])
  IsLevel-found first states origins at depth level_end path k choice here level is hit_is read =
      let traced = level.now at (omega arith) here in
      let trail = Trail-from_IsTraced states origins first level.root depth at k is traced in
      let e : trail.path ≡ path = IsTrail-unique origins depth at trail.path path trail.trail read in
      let Goes : List ℕ → Type 0 = λ p. Leads step first p k in
      let Long : List ℕ → Type 0 = λ p. length p ≡ depth in
      let leads : Leads step first path k = subst Goes e trail.leads in
      let long : length path ≡ depth = subst Long e trail.long in (
        (path, choice, k, refl, leads, hit_is),
        λ other hit.
            elim (cases_lt depth (length other)) [
              | inl lt ↦ simp length-append (omega (arith, long))
              | inr le ↦ absurd (no_hit states first at depth level.near level.done other le hit)
            ],
      )

  -- Where each path of the origins is a trail, one is there to be read.
  pub IsLevel-trail : (first : K) (states : List K) (origins : List Origin) (at depth level_end : ℕ)
      → at < level_end
      → IsLevel step states origins first at depth level_end
      → (path : List ℕ) × IsTrail origins depth at path
  IsLevel-trail first states origins at depth level_end here level =
      let traced = level.now at (omega arith) here in
      let below : at < length states = omega (arith, level.in_states) in
      let is = slice_get-get_or states at first below in
      let trail = Trail-from_IsTraced states origins first level.root depth at (get_or states at first) is traced in
      (trail.path, trail.trail)

  -- The search is over with each state done.
  pub IsLevel-closed : (first : K) (states : List K) (origins : List Origin) (at depth level_end : ℕ)
      → length states ≤ at
      → AllPairs (λ a b. a ≢ b) states
      → IsLevel step states origins first at depth level_end
      → NoHit step first × ReachesExactly step first (length states)
  IsLevel-closed first states origins at depth level_end over apart old =
      let done = λ (place : ℕ) (k : K) (choice : ℕ) (below : place < length states) (is : slice_get states place ≡ Some k). old.done place k choice (omega arith) is in
      let start : IsAmong states (length states) first = record { place = 0; within = slice_get_within states 0 first old.root; is = old.root } in (
        closed states first old.root done,
        (
          states,
          refl,
          apart,
          λ n. (
            (λ has. let reached = reach_from_trace first states origins (depth + 1) old.root (within_next first states origins at depth level_end old) n has in (reached.0, reached.2)),
            (λ (path, leads). let among = all_reached states done first path n start leads in (among.place, among.within, get_or_from_slice_get states among.place n n among.is)),
          ),
        ),
      )

  -- The search is over with a state for which there is no room.
  pub IsLevel-full : (first : K) (states : List K) (origins : List Origin) (at depth level_end place : ℕ) (k n : K) (choice : ℕ)
      → at ≤ place → place < level_end
      → AllPairs (λ a b. a ≢ b) (states ++ n ∷ [])
      → IsLevel step states origins first at depth level_end
      → slice_get states place ≡ Some k
      → step k choice ≡ goes n
      → NoHitWithin step first depth × ReachesWithin step first (depth + 1) (length states + 1)
  IsLevel-full first states origins at depth level_end place k n choice above here apart level is goes_is =
      let to_place = level.now place above here in
      let before = Trail-from_IsTraced states origins first level.root depth place k is to_place in
      let known : (m : K) → Contains states m → IsReachableWithin step first (depth + 1) m =
      reach_from_trace first states origins (depth + 1) level.root (within_next first states origins at depth level_end level) in
      let newest : IsReachableWithin step first (depth + 1) n =
      (before.path ++ choice ∷ [], simp length-append (omega (arith, before.long)), Leads-push step first before.path choice k n before.leads goes_is) in (
        no_hit states first at depth level.near level.done,
        (
          states ++ n ∷ [],
          length-append states (n ∷ []),
          apart,
          λ m has. reach_more states n m newest known has,
        ),
      )
    where
      reach_more : (states : List K) (n m : K) → IsReachableWithin step first (depth + 1) n
          → ((m : K) → Contains states m → IsReachableWithin step first (depth + 1) m)
          → Contains (states ++ n ∷ []) m → IsReachableWithin step first (depth + 1) m
      reach_more states n m newest known has =
          elim (Contains-append_cases states (n ∷ []) m has) [
            | inl there ↦ known m there
            | inr last ↦
                let P : K → Type 0 = λ x. IsReachableWithin step first (depth + 1) x in
                subst P (only n m last) newest
          ]
