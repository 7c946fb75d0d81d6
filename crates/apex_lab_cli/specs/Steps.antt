-- A session that answers commands, and how the program ends.
use Rattle.std.specs.Prelude.{◌≡◌, Result, Ok, Err}
use Rattle.apex_json.specs.declared.Form.{Form}
use Rattle.apex_history.specs.Ports.{Ports}
use Rattle.apex_console.specs.declared.CliFault.{CliFault}
use Rattle.apex_console.specs.declared.CliFault.TheVariants as common
use Rattle.apex_steps.specs.Endings.{Serves}
use Rattle.apex_steps.specs.declared.StepFault.{StepFault}
use Rattle.apex_steps.specs.declared.StepFault.TheVariants.{Memory, Table, NoSeparator, Read, Write}
use Rattle.apex_lab_cli.specs.Ends.{End, complete, fails}
use Rattle.apex_lab_cli.specs.declared.faults.LabFault.TheVariants.{Common}

-- the program's fault, by that of a session
abbrev pub fault_of_steps : StepFault → CliFault
fault_of_steps Memory = common.Memory
fault_of_steps (Table fault) = common.Table fault
fault_of_steps NoSeparator = common.NoSeparator
fault_of_steps Read = common.Read
fault_of_steps Write = common.Write

-- the end of the program, by that of a session
abbrev pub end_of_steps : Result (Unit {0}) StepFault → End
end_of_steps (Ok done) = complete
end_of_steps (Err fault) = fails (Common (fault_of_steps fault))

-- a session was served in this form, and the program ends as it did: by the reader and the writer
-- before, the end, and the reader and the writer afterwards
abbrev pub StepEnds : Form → Ports → End → Ports → Type 0
StepEnds form before ends after =
    (served : Result (Unit {0}) StepFault) × (ends ≡ end_of_steps served)
    × Serves form before served after
