-- The ends of the program.
use Rattle.std.specs.Prelude.{ℕ, List, [], Result, Ok, Err}
use Rattle.apex_pictures.specs.declared.Excerpt.{Excerpt}
use Rattle.apex_views.specs.Faults.{excerpt_line}
use Rattle.apex_views.specs.Shows.{ShowEnd}
use Rattle.apex_views.specs.Shows as showing
use Rattle.apex_inquiries.specs.Ends as inquiry
use Rattle.apex_lab_cli.specs.Faults.{fault_of_search, fault_of_showing, line_of_fault, status_of_fault}
use Rattle.apex_lab_cli.specs.declared.faults.LabFault.{LabFault}
use Rattle.apex_lab_cli.specs.declared.ends.Ending.{Ending}
use Rattle.apex_lab_cli.specs.declared.ends.Ending.TheVariants.{Complete, Departed, Explained, Found, InPart, Refused, Warned}

-- the end of the program
pub data End : Type 0 where
  -- the run was shown, no schedule leads to what a search looks for, or there is no warning about a
  -- table
  complete : End
  -- this part of a run was shown, of which more was asked for: that is reported
  in_part : Excerpt → End
  -- the history departs from what the partition does: the verdict's text is reported
  departs : List ℕ → End
  -- a search found a schedule
  finds : End
  -- the history that was checked departs
  explains : End
  -- there is a warning about a table
  warns : End
  -- a text is no table
  refuses : End
  -- this fault is reported
  fails : LabFault → End

-- the end with that of a showing
abbrev pub end_of_showing : ShowEnd → End
end_of_showing showing.complete = complete
end_of_showing (showing.in_part excerpt) = in_part excerpt
end_of_showing (showing.departs report) = departs report
end_of_showing (showing.fails fault) = fails (fault_of_showing fault)

-- the end with that of a search
abbrev pub end_of_search : inquiry.End → End
end_of_search inquiry.found = finds
end_of_search inquiry.unfound = complete
end_of_search (inquiry.fails fault) = fails (fault_of_search fault)

-- the end of an outcome
abbrev pub end_in : Result Ending LabFault → End
end_in (Ok Complete) = complete
end_in (Ok (InPart excerpt)) = in_part excerpt
end_in (Ok (Departed verdict)) = departs verdict.items
end_in (Ok Found) = finds
end_in (Ok Explained) = explains
end_in (Ok Warned) = warns
end_in (Ok Refused) = refuses
end_in (Err fault) = fails fault

-- the exit status: 0 if the run was shown, or a part of it, no schedule leads to what a search looks
-- for, or there is no warning about a table; 1 if the history departs, a search found a schedule, or
-- there is a warning; 3 if a text that is linted is no table; else the status of the fault
abbrev pub status_of : End → ℕ
status_of complete = 0
status_of (in_part excerpt) = 0
status_of (departs report) = 1
status_of finds = 1
status_of explains = 1
status_of warns = 1
status_of refuses = 3
status_of (fails fault) = status_of_fault fault

-- what is reported at the end
abbrev pub report_of : End → List ℕ
report_of complete = []
report_of (in_part excerpt) = excerpt_line excerpt
report_of (departs report) = report
report_of finds = []
report_of explains = []
report_of warns = []
report_of refuses = []
report_of (fails fault) = line_of_fault fault
