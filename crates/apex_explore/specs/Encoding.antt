-- A machine whose states are encoded, as words or as anything else.
use Rattle.std.specs.Prelude.{◌≡◌, ℕ}
use Rattle.apex_explore.specs.Systems.{Step, refuses, goes, hits}

-- the step, with the state that it goes on to encoded
abbrev pub encode_step : {M K : Type 0} → (M → K) → Step M → Step K
encode_step encode refuses = refuses
encode_step encode (goes n) = goes (encode n)
encode_step encode hits = hits

-- encoded states step as the machine does: so states of the machine that are encoded alike behave
-- alike
abbrev pub Agrees : {M K : Type 0} → (M → K) → (M → ℕ → Step M) → (K → ℕ → Step K) → Type 0
Agrees {M} encode machine step =
    (m : M) (choice : ℕ) → step (encode m) choice ≡ encode_step encode (machine m choice)
