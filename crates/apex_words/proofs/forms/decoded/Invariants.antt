use Rattle.std.proofs.Common.{◌≡◌, ◌+◌, ◌*◌, ◌++◌, true, length}
use Rattle.std.specs.List.{list_all}
use Rattle.apex_words.specs.Words.{is_digit, pairs_value}
use Rattle.apex_words.proofs.forms.decoded.Given as goal

abbrev pub invariant-loop-rest : goal.invariant-loop-rest
invariant-loop-rest l = record {
  digits : list_all is_digit l.rest ≡ true;
  read : l.bytes.items ++ pairs_value l.rest ≡ pairs_value l.digits;
  count : 2 * length l.bytes.items + length l.rest ≡ length l.digits;
}

abbrev pub decreases-loop-rest : goal.decreases-loop-rest
decreases-loop-rest l = length l.rest
