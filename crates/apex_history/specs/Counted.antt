-- A counted reader or writer in contracts: the reader or writer that it asks, the number of its
-- calls that failed, and the number of reads that it still lets through.
use Rattle.std.specs.Prelude.{◌≡◌, ◌⊎◌, ℕ, ◌+◌, ◌-◌, ◌^◌, ◌<◌, min, List, [], ◌++◌, length, drop, Option, Result, Ok, Err, MatchResult}
use Rattle.std.specs.Io.KnownBytes.{Appends, Consumes}
use Rattle.std.specs.declared.io.Error.{Error}
use Rattle.apex_history.specs.declared.counting.Counted.{Counted}
use Rattle.apex_history.specs.declared.reading.ReadFault.{ReadFault}
use Rattle.apex_history.specs.declared.reading.ReadFault.TheVariants.{Memory, Read}

-- the reader or writer that it asks
abbrev pub inner_of : {T : Type 0} → Counted T → T
inner_of c = c.inner

-- the number of calls that failed so far
abbrev pub failures_of : {T : Type 0} → Counted T → ℕ
failures_of c = c.failures

-- the number of reads that it still lets through
abbrev pub reads_left_of : {T : Type 0} → Counted T → ℕ
reads_left_of c = c.reads_left

-- one failure more; the count stays at its greatest number
abbrev pub one_more : ℕ → ℕ
one_more n = min (n + 1) (2 ^ 64 - 1)

-- the count stays at an Ok, and grows by one at an Err
abbrev pub CountsFailure : {T E : Type 0} → Result T E → ℕ → ℕ → Type 0
CountsFailure result old new = MatchResult result (λ _. new ≡ old) (λ _. new ≡ one_more old)

-- a fault of reading is counted if a read failed, and not if memory was wanting
abbrev pub CountsFault : ReadFault → ℕ → ℕ → Type 0
CountsFault Memory old new = new ≡ old
CountsFault Read old new = new ≡ one_more old

-- the same of a reading's answer
abbrev pub CountsReadFault : {T : Type 0} → Result T ReadFault → ℕ → ℕ → Type 0
CountsReadFault result old new =
    MatchResult result (λ _. new ≡ old) (λ fault. CountsFault fault old new)

-- known bytes grow by a prefix of the text
abbrev pub AppendsBeginning : Option (List ℕ) → Option (List ℕ) → List ℕ → Type 0
AppendsBeginning old new text =
    (done : List ℕ) × (rest : List ℕ) × (text ≡ done ++ rest) × Appends old new done

-- known bytes lose a prefix
abbrev pub ConsumesSome : Option (List ℕ) → Option (List ℕ) → Type 0
ConsumesSome old new = (done : List ℕ) × Consumes old new done

-- the result of a write is one of the writer's answers; but an answer that takes none of one or
-- more bytes is a failure
abbrev pub Tells : (Result ℕ Error → Type 0) → List ℕ → Result ℕ Error → Type 0
Tells answers buf (Ok n) = answers (Ok n)
Tells answers buf (Err e) = answers (Err e) ⊎ ((0 < length buf) × answers (Ok 0))

-- the error is that of the writer's last call, a write that failed or that took none of one or more
-- bytes
pub record IsOfWrite {W : Type 0} (accepts : W → List ℕ → Result ℕ Error → W → Type 0) (after : W)
    (e : Error) : Type 0 where
  pub before : W
  pub text : List ℕ
  pub told : Tells (λ answer. accepts before text answer after) text (Err e)

-- a text goes to a writer, write by write, to its end or to the first write that counts as a
-- failure
pub data Writes {W : Type 0} (accepts : W → List ℕ → Result ℕ Error → W → Type 0) : W → List ℕ
    → Result (Unit {0}) Error → W → Type 0 where
  whole : {w : W} → Writes accepts w [] (Ok tt) w
  part : {w v u : W} {text : List ℕ} {result : Result (Unit {0}) Error} (n : ℕ) → 0 < n
      → accepts w text (Ok n) v
      → Writes accepts v (drop n text) result u → Writes accepts w text result u
  failed : {w v : W} {text : List ℕ} {e : Error}
      → Tells (λ answer. accepts w text answer v) text (Err e)
      → Writes accepts w text (Err e) v
