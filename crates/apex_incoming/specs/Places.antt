-- The first places of a byte in a text.
use Rattle.std.specs.Prelude.{◌≡◌, ℕ, ◌<◌, List, length, slice_index}
use Rattle.std.specs.Int.{bit_at}

-- each bit that is set is of a place of the byte, and so is each lower bit of such a place
pub record ArePlaces (byte : ℕ) (text : List ℕ) (bits : ℕ) : Type 0 where
  pub each : (k : ℕ) → bit_at bits k ≡ 1 → (k < length text) × (slice_index text k ≡ byte)
  pub all : (k j : ℕ) → bit_at bits k ≡ 1 → j < k → slice_index text j ≡ byte → bit_at bits j ≡ 1
