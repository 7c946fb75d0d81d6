-- The threads that were asked for, and the answers.
use Rattle.std.specs.Prelude.{◌≡◌, ℕ, zero, suc, ◌+◌, ◌<◌, ◌⊎◌, Bool, true, Result, MatchResult}
use Rattle.apex_cores.specs.declared.faults.RunFault.{RunFault}
use Rattle.apex_cores.specs.declared.faults.RunFault.TheVariants.{Memory, NoThread}

-- the threads from this number on, n of them, were asked for one after the other, and each was
-- agreed to
abbrev pub HaveAgreed : {S : Type 0} → (S → ℕ → Bool → S → Type 0) → ℕ → ℕ → S → S → Type 0
HaveAgreed asks number zero before after = before ≡ after
HaveAgreed {S} asks number (suc n) before after =
    (next : S) × asks before number true next × HaveAgreed asks (number + 1) n next after

-- the thread of this number was asked for, and agreed to if it has started
abbrev pub IsAskedFor : {S T : Type 0} → (S → ℕ → Bool → S → Type 0) → ℕ → Result T RunFault → S → S
    → Type 0
IsAskedFor asks number result before after =
    MatchResult result (λ _. asks before number true after)
    (λ _. (answer : Bool) × asks before number answer after)

-- one of n threads did not start: those before it were asked for in turn, and agreed to; it was asked
-- for, too, and was refused, or the library did not start it
pub record LacksThread {S : Type 0} (asks : S → ℕ → Bool → S → Type 0) (threads : ℕ)
    (before after : S) : Type 0 where
  pub number : ℕ
  pub below : number < threads
  pub last : S
  pub agreed : HaveAgreed asks 0 number before last
  pub answer : Bool
  pub asked : asks last number answer after

-- a run of n threads came to nothing: memory was refused before any of them was asked for, or one of
-- them did not start, and nothing was asked for after it
abbrev pub HasGivenUp : {S : Type 0} → (S → ℕ → Bool → S → Type 0) → ℕ → RunFault → S → S → Type 0
HasGivenUp asks threads fault before after =
    ((fault ≡ Memory) × (before ≡ after))
    ⊎ ((fault ≡ NoThread) × LacksThread asks threads before after)

-- a run of n threads succeeds only if each of them was asked for, in turn, and agreed to
abbrev pub AreAsked : {S T : Type 0} → (S → ℕ → Bool → S → Type 0) → ℕ → Result T RunFault → S → S
    → Type 0
AreAsked asks threads result before after =
    MatchResult result (λ _. HaveAgreed asks 0 threads before after)
    (λ fault. HasGivenUp asks threads fault before after)
