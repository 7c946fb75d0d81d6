-- What an answer about the states says of the machine whose states they encode.
use Rattle.std.proofs.Common.{◌≡◌, ℕ, List, [], ◌∷◌, refl, sym, ◌∙◌, ap, subst}
use Rattle.apex_explore.specs.Systems.{Step}
use Rattle.apex_explore.specs.Systems.{refuses, goes, hits}
use Rattle.apex_explore.specs.Encoding.{Agrees, encode_step}
use Rattle.apex_explore.specs.Paths.{Leads, IsHit, NoHit, NoHitWithin, IsShortestHit}

module _ {M K : Type 0} (encode : M → K) (machine : M → ℕ → Step M) (step : K → ℕ → Step K) (agrees : Agrees encode machine step) where
  -- A path of the machine is one of the states.
  pub Leads-encode : (m : M) (path : List ℕ) (n : M) → Leads machine m path n → Leads step (encode m) path (encode n)
  Leads-encode m [] n e = ap encode e
  Leads-encode m (c ∷ cs) n (p, goes_is, rest) = (encode p, agrees m c ∙ ap (encode_step encode) goes_is, Leads-encode p cs n rest)

  -- What a step of the machine encodes.
  from_next : (taken : Step M) (k : K) → encode_step encode taken ≡ goes k → (n : M) × (taken ≡ goes n) × (k ≡ encode n)
  from_next refuses k e = cc
  from_next (goes n) k e = (n, refl, cc)
  from_next hits k e = cc

  from_hit : (taken : Step M) → encode_step encode taken ≡ hits → taken ≡ hits
  from_hit refuses e = cc
  from_hit (goes n) e = cc
  from_hit hits e = refl

  -- A path of the states from a state's key is one of the machine.
  pub Leads-decode : (m : M) (path : List ℕ) (k : K) → Leads step (encode m) path k → (n : M) × (k ≡ encode n) × Leads machine m path n
  Leads-decode m [] k e = (m, sym e, refl)
  Leads-decode m (c ∷ cs) k (l, goes_is, rest) =
      let next = from_next (machine m c) l (sym (agrees m c) ∙ goes_is) in
      let P : K → Type 0 = λ x. Leads step x cs k in
      let after = Leads-decode next.0 cs k (subst P next.2 rest) in
      (after.0, after.1, (next.0, next.1, after.2))

  pub IsHit-encode : (m : M) (path : List ℕ) → IsHit machine m path → IsHit step (encode m) path
  IsHit-encode m path (front, last, n, split, leads, hit_is) = (front, last, encode n, split, Leads-encode m front n leads, agrees n last ∙ ap (encode_step encode) hit_is)

  pub IsHit-decode : (m : M) (path : List ℕ) → IsHit step (encode m) path → IsHit machine m path
  IsHit-decode m path (front, last, k, split, leads, hit_is) =
      let before = Leads-decode m front k leads in
      let P : K → Type 0 = λ x. step x last ≡ hits in
      let at : step (encode before.0) last ≡ hits = subst P before.1 hit_is in
      (front, last, before.0, split, before.2, from_hit (machine before.0 last) (sym (agrees before.0 last) ∙ at))

  pub IsShortestHit-decode : (m : M) (path : List ℕ) → IsShortestHit step (encode m) path → IsShortestHit machine m path
  IsShortestHit-decode m path (hit, shortest) = (IsHit-decode m path hit, λ other of_machine. shortest other (IsHit-encode m other of_machine))

  pub NoHit-decode : (m : M) → NoHit step (encode m) → NoHit machine m
  NoHit-decode m none path hit = none path (IsHit-encode m path hit)

  pub NoHitWithin-decode : (m : M) (depth : ℕ) → NoHitWithin step (encode m) depth → NoHitWithin machine m depth
  NoHitWithin-decode m depth none path short hit = none path short (IsHit-encode m path hit)
