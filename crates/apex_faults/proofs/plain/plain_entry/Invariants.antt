use Rattle.std.proofs.Common.{◌≡◌, drop}
use Rattle.toml.specs.Data.{no_members}
use Rattle.toml.specs.View.{table_view}
use Rattle.apex_faults.specs.Plain.{keys_of, with_plain}
use Rattle.apex_faults.proofs.plain.plain_entry.Given as goal

-- the keys that are left lead from the members so far to the whole entry
abbrev pub invariant-loop-key : goal.invariant-loop-key
invariant-loop-key l =
    with_plain l.number (drop l.key-index (keys_of l.fn.section)) (table_view l.members)
    ≡ with_plain l.number (keys_of l.fn.section) no_members
