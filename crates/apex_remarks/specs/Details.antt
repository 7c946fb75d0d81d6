-- The text of a warning behind its place: the name of the entry, the step or the key, and the reason.
-- Steps are counted from 1 there, and cores from 0.
use Rattle.std.specs.Prelude.{codes, decimal, ℕ, ◌+◌, if◌then◌else◌, List, [], ◌∷◌, ◌++◌}
use Rattle.std.specs.Str.{is_utf8}
use Rattle.apex_types.specs.declared.calls.Origin.TheVariants.{Init, Script}
use Rattle.apex_machine.specs.table.Table.{Table}
use Rattle.apex_machine.specs.text.Texts.{object_name, process_name}
use Rattle.apex_remarks.specs.Terms.{Origin, StepWarning, Warning}
use Rattle.apex_warnings.specs.Objects.{group_queue}
use Rattle.apex_warnings.specs.Texts.{process_reason, step_reason}
use Rattle.apex_warnings.specs.declared.warnings.Warning.TheVariants.{Process, Step, UnusedObject, UnusedCore}

-- the name of the process that makes a step; no process makes a step of the init list
abbrev pub maker_name : Table → Origin → List ℕ
maker_name table (Init k) = []
maker_name table (Script p k) = process_name table p

-- the name of the entry that a warning is about, if it is about one
abbrev pub entry_name : Table → Warning → List ℕ
entry_name table (Process warning p) = process_name table p
entry_name table (Step warning origin) = maker_name table origin
entry_name table (UnusedObject group i) = object_name table (group_queue group i)
entry_name table (UnusedCore core) = []

-- the text of these bytes, as each name is one; no byte for bytes that are none
abbrev pub text_of : List ℕ → List ℕ
text_of name = if is_utf8 name then name else []

-- a name in quotes, with a space before it; nothing if it has no byte
abbrev pub name_part : List ℕ → List ℕ
name_part [] = []
name_part (byte ∷ bytes) = codes " \"" ++ (byte ∷ bytes) ++ codes "\""

-- the step of a script; a step of the init list has its number in its place
abbrev pub step_part : Origin → List ℕ
step_part (Init k) = []
step_part (Script p k) = codes ", step " ++ decimal (k + 1)

-- a reason, behind a colon
unfoldable pub reason_part : List ℕ → List ℕ
reason_part reason = codes ": " ++ reason

-- the part of the entry that a warning is about, and the reason
unfoldable pub step_and_reason : StepWarning → Origin → List ℕ
step_and_reason warning origin = step_part origin ++ reason_part (step_reason warning)

abbrev pub part_and_reason : Warning → List ℕ
part_and_reason (Process warning p) = reason_part (process_reason warning)
part_and_reason (Step warning origin) = step_and_reason warning origin
part_and_reason (UnusedObject group i) = codes ": no step names it, apart from its creation"
part_and_reason (UnusedCore core) =
    codes ", key cores: the init list binds no process to core " ++ decimal core

-- the text
unfoldable pub warning_detail : Table → Warning → List ℕ
warning_detail table warning =
    name_part (text_of (entry_name table warning)) ++ part_and_reason warning
