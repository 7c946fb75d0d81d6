-- The bytes that are their own text in a string of JSON.
use Rattle.std.specs.Prelude.{◌≡◌, ℕ, ◌+◌, ◌<◌, ◌≤◌, List, [], ◌∷◌, slice_index_or}
use Rattle.apex_json.specs.Strings.{json_byte}

-- n bytes from place i on are their own text
abbrev pub ArePlain : List ℕ → ℕ → ℕ → Type 0
ArePlain bytes i n = (k : ℕ) → i ≤ k → k < i + n
    → json_byte (slice_index_or bytes k 0) ≡ slice_index_or bytes k 0 ∷ []
