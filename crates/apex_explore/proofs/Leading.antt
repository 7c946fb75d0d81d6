-- Paths: one choice more at the end, and the last choice taken off.
use Rattle.std.proofs.Common.{◌≡◌, ℕ, suc, List, [], ◌∷◌, ◌++◌, length, refl, ap}
use Rattle.apex_explore.specs.Systems.{Step}
use Rattle.apex_explore.specs.Systems.{goes}
use Rattle.apex_explore.specs.Paths.{Leads}

module _ {K : Type 0} (step : K → ℕ → Step K) where
  -- A path that leads somewhere leads on by one choice more.
  pub Leads-push : (k : K) (front : List ℕ) (choice : ℕ) (m n : K) → Leads step k front m → step m choice ≡ goes n → Leads step k (front ++ choice ∷ []) n
  Leads-push k [] choice m n e goes_is = (n, (rw e goes_is), refl)
  Leads-push k (c ∷ cs) choice m n (p, s, r) goes_is = (p, s, Leads-push p cs choice m n r goes_is)

  -- A path of one choice or more is a path to a state from which its last choice goes_is on.
  pub record Ends (k : K) (path : List ℕ) (n : K) : Type 0 where
    pub front : List ℕ
    pub last : ℕ
    pub from : K
    pub longer : length path ≡ suc (length front)
    pub leads : Leads step k front from
    pub goes_is : step from last ≡ goes n

  pub Ends-from_Leads : (k : K) (c : ℕ) (cs : List ℕ) (n : K) → Leads step k (c ∷ cs) n → Ends k (c ∷ cs) n
  Ends-from_Leads k c [] n (m, s, e) = record { front = []; last = c; from = k; longer = refl; leads = refl; goes_is = rw (← e) s }
  Ends-from_Leads k c (d ∷ ds) n (m, s, r) =
      let rest = Ends-from_Leads m d ds n r in
      record { front = c ∷ rest.front; last = rest.last; from = rest.from; longer = ap suc rest.longer; leads = (m, s, rest.leads); goes_is = rest.goes_is }
