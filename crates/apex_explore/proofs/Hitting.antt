-- Whether a path hits is seen choice by choice.
use Rattle.std.proofs.Common.{◌≡◌, ℕ, ◌+◌, ◌<◌, List, [], ◌∷◌, ◌++◌, length, drop, get_or, sym, ap, ◌∙◌, subst, add-one}
use Rattle.std.specs.Prelude.{◌↔◌}
use Rattle.std.proofs.Math.Seq.{drop-cons}
use Rattle.apex_explore.specs.Paths.{IsHit}
use Rattle.apex_explore.specs.Systems.{Step, goes, hits}

same_goes : {K : Type 0} (m n : K) (taken : Step K) → taken ≡ goes m → taken ≡ goes n → n ≡ m
same_goes m n taken e f = let same : goes n ≡ goes m = sym f ∙ e in cc

goes_not_hits : {K : Type 0} (n : K) (taken : Step K) → taken ≡ goes n → taken ≡ hits → ⊥
goes_not_hits n taken e f = let same : goes n ≡ hits = sym e ∙ f in cc

module _ {K : Type 0} (step : K → ℕ → Step K) where
  -- A path that hits: its first choice goes on, and the others hit; or its first choice hits, and is its last.
  data First (k : K) (choice : ℕ) (others : List ℕ) : Type 0 where
    on : (m : K) → step k choice ≡ goes m → IsHit step m others → First k choice others
    last : step k choice ≡ hits → others ≡ [] → First k choice others

  first_of : (k : K) (choice : ℕ) (others : List ℕ) → IsHit step k (choice ∷ others) → First k choice others
  first_of k choice others ([], end, n, split, leads, hit) =
      let e : choice ≡ end = cc in
      let f : others ≡ [] = cc in
      last (rw (e, leads) hit) f
  first_of k choice others (c ∷ cs, end, n, split, (m, goes_is, rest), hit) =
      let e : choice ≡ c = cc in
      let f : others ≡ cs ++ end ∷ [] = cc in
      on m (rw e goes_is) (cs, end, n, f, rest, hit)

  on_from : (k m : K) (choice : ℕ) (others : List ℕ) → step k choice ≡ goes m → IsHit step m others → IsHit step k (choice ∷ others)
  on_from k m choice others goes_is (front, end, n, split, leads, hit) =
      (choice ∷ front, end, n, ap (λ path. choice ∷ path) split, (m, goes_is, leads), hit)

  rest_from : (k m : K) (choice : ℕ) (others : List ℕ) → step k choice ≡ goes m → IsHit step k (choice ∷ others) → IsHit step m others
  rest_from k m choice others goes_is hit = elim (first_of k choice others hit) [
    | on n also rest ↦ subst (λ (x : K). IsHit step x others) (same_goes m n (step k choice) goes_is also) rest
    | last hit_is none ↦ absurd (goes_not_hits m (step k choice) goes_is hit_is)
  ]

  -- So far the choices led from k₀ to k.
  abbrev pub IsOn : K → List ℕ → K → ℕ → Type 0
  IsOn k₀ path k place = IsHit step k₀ path ↔ IsHit step k (drop place path)

  module _ (k₀ k : K) (path : List ℕ) (place : ℕ) (so_far : IsOn k₀ path k place) where
    abbrev choice : ℕ
    choice = get_or path place 0

    left : place < length path → drop place path ≡ choice ∷ drop (place + 1) path
    left below =
        drop-cons path place 0 below ∙ ap (λ (n : ℕ). choice ∷ drop n path) (sym (add-one place))

    here : place < length path → IsHit step k₀ path → IsHit step k (choice ∷ drop (place + 1) path)
    here below hit = subst (λ others. IsHit step k others) (left below) (so_far.0 hit)

    back : place < length path → IsHit step k (choice ∷ drop (place + 1) path) → IsHit step k₀ path
    back below hit = so_far.1 (subst (λ others. IsHit step k others) (sym (left below)) hit)

    pub IsOn-goes : (m : K) → place < length path → step k choice ≡ goes m → IsOn k₀ path m (place + 1)
    IsOn-goes m below goes_is = (
      λ hit. rest_from k m choice (drop (place + 1) path) goes_is (here below hit),
      λ rest. back below (on_from k m choice (drop (place + 1) path) goes_is rest),
    )
