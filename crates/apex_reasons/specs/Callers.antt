-- The caller of a call, as the guards of a row see it.
use Rattle.std.specs.Prelude.{Bool, true, false}
use Rattle.apex_types.specs.declared.entries.Caller.TheVariants.{Process, Init, Nobody}
use Rattle.apex_reasons.specs.Terms.{Caller}

-- no process calls
abbrev pub is_no_process : Caller → Bool
is_no_process (Process p) = false
is_no_process Init = true
is_no_process Nobody = true
