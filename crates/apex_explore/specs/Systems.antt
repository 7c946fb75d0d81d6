-- What a choice does in a state.
use Rattle.std.specs.Prelude.{ℕ, nat_lt, if◌then◌else◌, List}
use Rattle.apex_explore.specs.declared.systems.Taken.{Taken}
use Rattle.apex_explore.specs.declared.systems.Taken.TheVariants.{Refused, Next, Hit}

-- a choice is not possible, goes on to a state, or hits: it is what the search looks for
pub data Step (K : Type 0) : Type 0 where
  refuses : Step K
  goes : K → Step K
  hits : Step K

-- the step that was taken, with the words of the state that it goes on to
abbrev pub step_of : Taken → List ℕ → Step (List ℕ)
step_of Refused words = refuses
step_of Next words = goes words
step_of Hit words = hits

-- a choice does what `step` says if it is one of the system's; else it is refused
abbrev pub step_within : {K : Type 0} → ℕ → (K → ℕ → Step K) → K → ℕ → Step K
step_within choices step k choice =
    if nat_lt choice choices then step k choice else refuses

-- the state that the step goes on to, if any, is as P says
abbrev pub GoesTo : {K : Type 0} → (K → Type 0) → Step K → Type 0
GoesTo P refuses = Unit {0}
GoesTo P (goes n) = P n
GoesTo P hits = Unit {0}
