-- A history that is checked, and how the program ends.
use Rattle.std.specs.Prelude.{◌≡◌, Bool, Result, Ok, Err}
use Rattle.apex_json.specs.declared.Form.{Form}
use Rattle.apex_history.specs.Ports.{Ports}
use Rattle.apex_check.specs.declared.CheckFault.{CheckFault}
use Rattle.apex_check.specs.declared.Verdict.{Verdict}
use Rattle.apex_check.specs.declared.Verdict.TheVariants.{Legal, DepartsAt}
use Rattle.apex_console.specs.Faults.{fault_of_checking}
use Rattle.apex_departures.specs.Ends as departures
use Rattle.apex_lab_cli.specs.Ends.{End, complete, explains, fails}
use Rattle.apex_lab_cli.specs.declared.faults.LabFault.TheVariants.{Common}

-- the end of the program with this verdict
abbrev pub end_of_verdict : Result Verdict CheckFault → End
end_of_verdict (Ok (Legal n)) = complete
end_of_verdict (Ok (DepartsAt n expected)) = explains
end_of_verdict (Err fault) = fails (Common (fault_of_checking fault))

-- a history, which may have comments, was checked and explained in this form, and the program ends as
-- the verdict says: by the reader and the writer before, the end, and the reader and the writer
-- afterwards
abbrev pub CheckEnds : Form → Bool → Ports → End → Ports → Type 0
CheckEnds form comments before ends after =
    (verdict : Result Verdict CheckFault) × (ends ≡ end_of_verdict verdict)
    × departures.Ends form comments before verdict after
