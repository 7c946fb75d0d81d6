-- What one more state leaves, and one more choice.
use Rattle.std.proofs.Common.{◌≡◌, ℕ, zero, suc, ◌+◌, ◌<◌, ◌≤◌, ◌⊎◌, List, [], ◌∷◌, ◌++◌, length, Some, refl, sym, ◌∙◌, subst, arith, length-append, inl, inr}
use Rattle.std.proofs.lemmas.Bool.{cases_lt, lt-ltb, le-ltb}
use Rattle.std.proofs.lemmas.Option.{same_Some}
use Rattle.std.specs.List.{slice_get}
use Rattle.apex_explore.specs.Systems.{Step, refuses, goes, step_within}
use Rattle.apex_states.specs.declared.states.Origin.{Origin}
use Rattle.apex_explore.specs.Levels.{IsAmong, Keeps, IsChild, Grows}
use Rattle.apex_states.specs.Lists.{AllAre, IsFront}
use Rattle.apex_states.proofs.Fronts.{at_old_place, IsFront-refl, IsFront-trans, IsFront-push}
use Rattle.apex_explore.proofs.Levels.{Keeps-widen, IsChild-widen}

pub slice_get-push : {X : Type 0} (xs : List X) (y : X) → slice_get (xs ++ y ∷ []) (length xs) ≡ Some y
slice_get-push [] y = refl
slice_get-push (x ∷ xs) y = slice_get-push xs y

-- a choice of the system's does what its own step says
step_within-own : {K : Type 0} (choices : ℕ) (step : K → ℕ → Step K) (k : K) (choice : ℕ) → choice < choices → step_within choices step k choice ≡ step k choice
step_within-own choices step k choice within = rw (lt-ltb choice choices within)

-- any other is refused
pub step_within-past : {K : Type 0} (choices : ℕ) (step : K → ℕ → Step K) (k : K) (choice : ℕ) → choices ≤ choice → step_within choices step k choice ≡ refuses
step_within-past choices step k choice past = rw (le-ltb choice choices past)

-- what a call of the system's own step answered is what the choice does
pub taken_step : {K : Type 0} (choices : ℕ) (step : K → ℕ → Step K) (k : K) (choice end : ℕ) (taken : Step K) → choice < end → end ≡ choices → taken ≡ step k choice → step_within choices step k choice ≡ taken
taken_step choices step k choice end taken below e is =
    let own : choice < choices = omega arith in
    step_within-own choices step k choice own ∙ sym is

-- a state is there already, or is put behind the others with its origin
abbrev pub IsLaid : {K : Type 0} → List K → List Origin → K → Origin → List K → List Origin → Type 0
IsLaid states origins key origin states' origins' =
    (IsAmong states (length states) key × (states' ≡ states) × (origins' ≡ origins))
    ⊎ ((states' ≡ states ++ key ∷ []) × (origins' ≡ origins ++ origin ∷ []))

module _ {K : Type 0} (step : K → ℕ → Step K) where
  Grows-none : (place : ℕ) (states : List K) (origins : List Origin) → length origins ≡ length states → Grows step place states origins states origins
  Grows-none place states origins paired = record { states_front = IsFront-refl states; origins_front = IsFront-refl origins; paired = paired; children = λ child above below. absurd (omega arith) }

  -- what holds after a state was laid
  record Holds (place : ℕ) (states₀ : List K) (origins₀ : List Origin) (states states' : List K) (origins' : List Origin) (key : K) : Type 0 where
    grows : Grows step place states₀ origins₀ states' origins'
    front : IsFront states states'
    kept : IsAmong states' (length states') key

  Holds-new : (place : ℕ) (states₀ : List K) (origins₀ : List Origin) (states : List K) (origins : List Origin) (k key : K) (choice : ℕ)
      → Grows step place states₀ origins₀ states origins
      → slice_get states₀ place ≡ Some k
      → step k choice ≡ goes key
      → Holds place states₀ origins₀ states (states ++ key ∷ []) (origins ++ record { parent = place; choice = choice } ∷ []) key
  Holds-new place states₀ origins₀ states origins k key choice grows is leads =
      let o : Origin = record { parent = place; choice = choice } in
      let front = IsFront-push states key in
      let front' = IsFront-push origins o in
      let last : slice_get (states ++ key ∷ []) (length states) ≡ Some key = slice_get-push states key in
      let last' : slice_get (origins ++ o ∷ []) (length origins) ≡ Some o = slice_get-push origins o in
      let Child : ℕ → Type 0 = λ n. IsChild step (states ++ key ∷ []) (origins ++ o ∷ []) place n in
      let newest : Child (length states) = record { from = k; to = key; choice = choice; origin = rw grows.paired at last'; from_is = front.same place k (grows.states_front.same place k is); to_is = last; leads = leads } in
      record {
        grows = record {
          states_front = IsFront-trans grows.states_front front;
          origins_front = IsFront-trans grows.origins_front front';
          paired = simp length-append (omega (arith, grows.paired));
          children = λ child above below.
              elim (cases_lt child (length states)) [
                | inl lt ↦ IsChild-widen step place child front front' (grows.children child above lt)
                | inr ge ↦ let e : length states ≡ child = omega (arith, length-append states (key ∷ [])) in subst Child e newest
              ];
        };
        front = front;
        kept = record { place = length states; within = simp length-append (omega arith); is = last };
      }

  Holds-known : (place : ℕ) (states₀ : List K) (origins₀ : List Origin) (states : List K) (origins : List Origin) (key : K)
      → Grows step place states₀ origins₀ states origins
      → IsAmong states (length states) key
      → Holds place states₀ origins₀ states states origins key
  Holds-known place states₀ origins₀ states origins key grows kept = record { grows = grows; front = IsFront-refl states; kept = kept }

  Holds-laid : (place : ℕ) (states₀ : List K) (origins₀ : List Origin) (states : List K) (origins : List Origin) (states' : List K) (origins' : List Origin) (k key : K) (choice : ℕ)
      → Grows step place states₀ origins₀ states origins
      → slice_get states₀ place ≡ Some k
      → step k choice ≡ goes key
      → IsLaid states origins key (record { parent = place; choice = choice }) states' origins'
      → Holds place states₀ origins₀ states states' origins' key
  Holds-laid place states₀ origins₀ states origins states' origins' k key choice grows is leads (inl (kept, e, f)) =
      rw (e, f) (Holds-known place states₀ origins₀ states origins key grows kept)
  Holds-laid place states₀ origins₀ states origins states' origins' k key choice grows is leads (inr (e, f)) =
      rw (e, f) (Holds-new place states₀ origins₀ states origins k key choice grows is leads)

  -- what the loop over the choices keeps: those before `choice` are made, and each state that they go
  -- on to is one of the states
  pub record IsExpanding (place : ℕ) (states₀ : List K) (origins₀ : List Origin) (states : List K) (origins : List Origin) (choice : ℕ) : Type 0 where
    pub grows : Grows step place states₀ origins₀ states origins
    pub made : (k : K) (c : ℕ) → c < choice → slice_get states₀ place ≡ Some k → Keeps states (step k c)

  pub IsExpanding-start : (place : ℕ) (states : List K) (origins : List Origin) → length origins ≡ length states → IsExpanding place states origins states origins 0
  IsExpanding-start place states origins paired = record { grows = Grows-none place states origins paired; made = λ k c below. absurd (omega arith) }

  made_more : (place : ℕ) (states₀ states states' : List K) (choice : ℕ) (k : K)
      → slice_get states₀ place ≡ Some k
      → IsFront states states'
      → ((k : K) (c : ℕ) → c < choice → slice_get states₀ place ≡ Some k → Keeps states (step k c))
      → Keeps states' (step k choice)
      → (k : K) (c : ℕ) → c < choice + 1 → slice_get states₀ place ≡ Some k → Keeps states' (step k c)
  made_more place states₀ states states' choice k is front made last k' c below is' =
      elim (cases_lt c choice) [
        | inl lt ↦ Keeps-widen (step k' c) front (made k' c lt is')
        | inr ge ↦
            let e : choice ≡ c = omega arith in
            let both : Some k ≡ Some k' = sym is ∙ is' in
            let P : ℕ → Type 0 = λ n. Keeps states' (step k' n) in
            let Q : K → Type 0 = λ x. Keeps states' (step x choice) in
            subst P e (subst Q (same_Some k k' both) last)
      ]

  -- a choice that is refused keeps all as it was
  pub IsExpanding-refused : (place : ℕ) (states₀ : List K) (origins₀ : List Origin) (states : List K) (origins : List Origin) (choice : ℕ) (k : K)
      → slice_get states₀ place ≡ Some k
      → step k choice ≡ refuses
      → IsExpanding place states₀ origins₀ states origins choice
      → IsExpanding place states₀ origins₀ states origins (choice + 1)
  IsExpanding-refused place states₀ origins₀ states origins choice k is refused so_far =
      let P : Step K → Type 0 = λ s. Keeps states s in
      record { grows = so_far.grows; made = made_more place states₀ states states choice k is (IsFront-refl states) so_far.made (subst P (sym refused) tt) }

  -- a state that a choice goes on to is laid
  pub IsExpanding-laid : (place : ℕ) (states₀ : List K) (origins₀ : List Origin) (states : List K) (origins : List Origin) (states' : List K) (origins' : List Origin) (choice : ℕ) (k key : K)
      → slice_get states₀ place ≡ Some k
      → step k choice ≡ goes key
      → IsLaid states origins key (record { parent = place; choice = choice }) states' origins'
      → IsExpanding place states₀ origins₀ states origins choice
      → IsExpanding place states₀ origins₀ states' origins' (choice + 1)
  IsExpanding-laid place states₀ origins₀ states origins states' origins' choice k key is leads laid so_far =
      let holds = Holds-laid place states₀ origins₀ states origins states' origins' k key choice so_far.grows is leads laid in
      let P : Step K → Type 0 = λ s. Keeps states' s in
      record { grows = holds.grows; made = made_more place states₀ states states' choice k is holds.front so_far.made (subst P (sym leads) holds.kept) }

-- once each of the system's choices is made, all are
pub all_made : {K : Type 0} (choices : ℕ) (step : K → ℕ → Step K) (place : ℕ) (states₀ : List K) (origins₀ : List Origin) (states : List K) (origins : List Origin) (choice : ℕ)
    → choices ≤ choice
    → place < length states₀
    → IsExpanding (step_within choices step) place states₀ origins₀ states origins choice
    → (k : K) (c : ℕ) → slice_get states place ≡ Some k → Keeps states (step_within choices step k c)
all_made choices step place states₀ origins₀ states origins choice past within so_far k c is =
    elim (cases_lt c choice) [
      | inl lt ↦ so_far.made k c lt (at_old_place states₀ states place k so_far.grows.states_front within is)
      | inr ge ↦ let P = λ (s : Step _). Keeps states s in subst P (sym (step_within-past choices step k c (omega arith))) tt
    ]

-- a state that is as P says is laid with others that are
pub AllAre-laid : {K : Type 0} (P : K → Type 0) (states : List K) (origins : List Origin) (key : K) (origin : Origin) (states' : List K) (origins' : List Origin)
    → AllAre P states → P key → IsLaid states origins key origin states' origins' → AllAre P states'
AllAre-laid P states origins key origin states' origins' all new (inl (kept, e, f)) = rw e all
AllAre-laid P states origins key origin states' origins' all new (inr (e, f)) = rw e (push states all)
  where
    push : (states : List _) → AllAre P states → AllAre P (states ++ key ∷ [])
    push [] all zero k is = subst P (same_Some key k is) new
    push [] all (suc place) k is = cc
    push (x ∷ xs) all zero k is = all 0 k is
    push (x ∷ xs) all (suc place) k is = push xs (λ i n at. all (suc i) n at) place k is
