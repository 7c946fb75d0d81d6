use Rattle.std.proofs.Common.{◌≡◌, ℕ, ◌^◌, min, drop, Some, None, if◌then◌else◌}
use Rattle.std.specs.Str.{all_ascii_digits}
use Rattle.apex_types.specs.Numbers.{digits_value}
use Rattle.apex_types.proofs.Digits.{more_digits}
use Rattle.apex_tasks.proofs.numbers.long_number.Given as goal

-- m is the number so far
abbrev pub invariant-loop-digit : goal.invariant-loop-digit
invariant-loop-digit l =
    (m : ℕ) × (l.number ≡ min m (2 ^ 40)) × (more_digits m (drop l.digit-index l.word) ≡ (if all_ascii_digits l.word then Some (digits_value l.word) else None))
