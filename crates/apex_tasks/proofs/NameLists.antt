-- The names that a text lists, part by part.
use Rattle.std.proofs.Common.{List, ◌++◌, Option, None, Some}
use Rattle.clap.specs.Words.{Text}

-- names with these before them
abbrev pub behind : List Text → Option (List Text) → Option (List Text)
behind before None = None
behind before (Some names) = Some (before ++ names)
