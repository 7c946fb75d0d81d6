-- The tests' device: bytes in memory, of which a call that is known beforehand fails.
use Rattle.std.specs.Prelude.{◌≡◌, ◌↔◌, ℕ, ◌+◌, ◌-◌, min, List, ◌++◌, length, take, drop, Result, IsErr, MatchResult}
use Rattle.std.specs.declared.io.Error.{Error}

-- bytes, the room for all of them, the place of the next one to be read, and the number of calls up
-- to the one that fails: at 1 the next call fails, at 0 none
pub record Device : Type 0 where
  pub bytes : List ℕ
  pub room : ℕ
  pub place : ℕ
  pub fails_in : ℕ

-- the bytes that are left to be read
abbrev pub unread : Device → List ℕ
unread device = drop device.place device.bytes

-- one call more was made
abbrev pub called : Device → Device
called device = record device { fails_in = device.fails_in - 1 }

-- the device after a read of n bytes
abbrev pub after_read : Device → ℕ → Device
after_read device n = record (called device) { place = device.place + n }

-- the device after a write of these bytes
abbrev pub after_write : Device → List ℕ → Device
after_write device taken = record (called device) { bytes = device.bytes ++ taken }

-- a call fails exactly if it is the one that fails
abbrev pub FailsAt : {T : Type 0} → Device → Result T Error → Type 0
FailsAt device result = IsErr result ↔ (device.fails_in ≡ 1)

-- a read that does not fail fills the buffer, or gives all the bytes that are left
abbrev pub Gives : Device → List ℕ → Result ℕ Error → Device → Type 0
Gives old buf result new = FailsAt old result × MatchResult result
    (λ n. (n ≡ min (length buf) (length (unread old))) × (new ≡ after_read old n))
    (λ _. new ≡ called old)

-- a write that does not fail takes all the bytes, or as many as find room
abbrev pub Accepts : Device → List ℕ → Result ℕ Error → Device → Type 0
Accepts old buf result new = FailsAt old result × MatchResult result
    (λ n. (n ≡ min (length buf) (old.room - length old.bytes))
    × (new ≡ after_write old (take n buf))) (λ _. new ≡ called old)

-- a flush is one call
abbrev pub Drains : Device → Result (Unit {0}) Error → Device → Type 0
Drains old result new = FailsAt old result × (new ≡ called old)
