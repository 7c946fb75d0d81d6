-- The ways in which the program ends, and the lines that are reported, by what was at fault.
use Rattle.std.proofs.Common.{◌≡◌, inl, inr, List, ℕ, Option, Some, Result, refl, subst}
use Rattle.std.specs.Io.KnownBytes.{Keeps}
use Rattle.apex_history.specs.Ports.{NoneFails, Ports}
use Rattle.apex_console.specs.Faults.{fault_line}
use Rattle.apex_console.specs.Streams.{Told}
use Rattle.apex_console.specs.declared.CliFault.{CliFault}
use Rattle.apex_console.specs.declared.CliFault.TheVariants.{Usage, Table, NoSeparator, BadLine, TooLong, HistoryFull, Memory, NoThread, Read, Write}
use Rattle.apex_lab_cli.specs.Ends.{fails}
use Rattle.apex_lab_cli.specs.Exits.{Ends, unasked, unscheduled, usage}
use Rattle.apex_lab_cli.specs.Faults.{common_line, fault_of_task}
use Rattle.apex_tasks.specs.Tasks.{Asked, IsUnasked, Unasked}
use Rattle.apex_tasks.specs.declared.TaskFault.{TaskFault}
use Rattle.apex_tasks.specs.declared.TaskFault.TheVariants.{Common, Schedule}

module _ {asked : Result Asked Unasked} {before after : Ports} where
  -- words or a schedule that ask for nothing, or no memory
  pub ends_unasked : (fault : TaskFault) → IsUnasked asked fault
      → Keeps before.left after.left → Keeps before.held after.held
      → NoneFails before after → Ends asked before (fails (fault_of_task fault)) after
  ends_unasked (Common fault) (inl e) left held none_fails = rw e (unasked left held none_fails)
  ends_unasked (Common fault) (inr (e, none)) left held none_fails = rw e (usage none left held none_fails)
  ends_unasked (Schedule bad) (text, none, has) left held none_fails = unscheduled text none has left held none_fails

-- the line that was told, by its other form
pub told_line : {line other : List ℕ} (old new : Option (List ℕ)) (failed failures : ℕ) → other ≡ line → Told other old new failed failures
    → Told line old new failed failures
told_line old new failed failures same told = subst (λ (l : List ℕ). Told l old new failed failures) same told

-- the line of a fault other than ill-formed words
pub other_line : (fault : CliFault) → (fault ≡ Usage → ⊥) → fault_line (Some fault) ≡ common_line fault
other_line Usage other = absurd (other refl)
other_line (Table fault) other = refl
other_line NoSeparator other = refl
other_line (BadLine line) other = refl
other_line (TooLong line) other = refl
other_line (HistoryFull entries) other = refl
other_line Memory other = refl
other_line NoThread other = refl
other_line Read other = refl
other_line Write other = refl
