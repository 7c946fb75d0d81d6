use Rattle.std.proofs.Common.{◌≡◌, drop}
use Rattle.std.specs.List.{position_from}
use Rattle.std.specs.Str.{bytes_eq}
use Rattle.apex_words.proofs.forms.place_of.Given as goal

abbrev pub invariant-loop-i : goal.invariant-loop-i
invariant-loop-i l =
    position_from (bytes_eq l.name) l.i (drop l.i l.names) ≡ position_from (bytes_eq l.name) 0 l.names
