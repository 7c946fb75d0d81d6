-- The text that a page hands on to a writer.
use Rattle.std.specs.Prelude.{◌≡◌, ℕ, List, ◌++◌, Option}
use Rattle.std.specs.Io.KnownBytes.{Appends}

-- known bytes grow by a prefix of the text, and the page holds the rest
abbrev pub Passes : Option (List ℕ) → Option (List ℕ) → List ℕ → List ℕ → Type 0
Passes old new text held = (done : List ℕ) × (text ≡ done ++ held) × Appends old new done
