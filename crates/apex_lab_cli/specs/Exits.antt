-- How the program ends.
use Rattle.std.specs.Prelude.{◌≡◌, Bool, List, ℕ, Result, Ok, Err}
use Rattle.std.specs.Io.KnownBytes.{Keeps}
use Rattle.apex_json.specs.declared.Form.{Form}
use Rattle.apex_history.specs.Ports.{Ports, NoneFails}
use Rattle.apex_console.specs.declared.CliFault.TheVariants.{Memory, Usage}
use Rattle.apex_showings.specs.Schedules.{IsBadIn}
use Rattle.apex_showings.specs.Showings.{Showing, Source}
use Rattle.apex_views.specs.Shows.{ShowEnd, ShowEnds}
use Rattle.apex_showings.specs.declared.BadSchedule.{BadSchedule}
use Rattle.apex_lab_cli.specs.Checks.{CheckEnds}
use Rattle.apex_lab_cli.specs.Dumps.{DumpEnds}
use Rattle.apex_inquiries.specs.Ends as inquiry
use Rattle.apex_inquiries.specs.Searches.{SearchEnds}
use Rattle.apex_lab_cli.specs.Ends.{End, end_of_search, end_of_showing, fails}
use Rattle.apex_lab_cli.specs.Lints.{LintEnds}
use Rattle.apex_tasks.specs.Lints.{Lint}
use Rattle.apex_lab_cli.specs.Steps.{StepEnds}
use Rattle.apex_tasks.specs.Tasks.{Asked, Unasked, ill_formed, no_schedule, to_check, to_dump, to_lint, to_search, to_show, to_step, to_why}
use Rattle.apex_lab_cli.specs.Whys.{WhyEnds}
use Rattle.apex_lab_cli.specs.declared.faults.LabFault.TheVariants.{Common, Schedule as BadText}
use Rattle.apex_questions.specs.declared.Search.{Search}

-- The ways in which the program ends: by what it is asked to do, the reader and the writer before,
-- the end, and the reader and the writer afterwards.
pub data Ends (asked : Result Asked Unasked) (before : Ports) : End → Ports → Type 0 where
  -- memory was refused: nothing was read and nothing written
  unasked : {after : Ports} → Keeps before.left after.left → Keeps before.held after.held
      → NoneFails before after → Ends asked before (fails (Common Memory)) after
  -- the words or a number are ill-formed: nothing was read and nothing written
  usage : {after : Ports} → asked ≡ Err ill_formed → Keeps before.left after.left
      → Keeps before.held after.held
      → NoneFails before after → Ends asked before (fails (Common Usage)) after
  -- the text of a schedule is none: nothing was read and nothing written
  unscheduled : (text : List ℕ) → {bad : BadSchedule} {after : Ports}
      → asked ≡ Err (no_schedule text) → IsBadIn text bad → Keeps before.left after.left
      → Keeps before.held after.held
      → NoneFails before after → Ends asked before (fails (BadText bad)) after
  -- a run is shown
  of_showing : {showing : Showing} {ends : ShowEnd} {after : Ports} → asked ≡ Ok (to_show showing)
      → ShowEnds showing before ends after → Ends asked before (end_of_showing ends) after
  -- the schedules of a pace are searched
  of_search : {search : Search} {ends : inquiry.End} {after : Ports}
      → asked ≡ Ok (to_search search)
      → SearchEnds search before ends after → Ends asked before (end_of_search ends) after
  -- a table is linted
  of_lint : {lint : Lint} {ends : End} {after : Ports} → asked ≡ Ok (to_lint lint)
      → LintEnds lint before ends after → Ends asked before ends after
  -- commands are answered
  of_steps : {form : Form} {ends : End} {after : Ports} → asked ≡ Ok (to_step form)
      → StepEnds form before ends after → Ends asked before ends after
  -- a history is explained
  of_check : {form : Form} {comments : Bool} {ends : End} {after : Ports}
      → asked ≡ Ok (to_check form comments) → CheckEnds form comments before ends after
      → Ends asked before ends after
  -- the reason of an entry is shown
  of_why : {source : Source} {entry : ℕ} {ends : End} {after : Ports}
      → asked ≡ Ok (to_why source entry) → WhyEnds source entry before ends after
      → Ends asked before ends after
  -- the value changes of a run are written
  of_dump : {source : Source} {ends : End} {after : Ports} → asked ≡ Ok (to_dump source)
      → DumpEnds source before ends after → Ends asked before ends after
