-- The remarks on a text: its faults, or else the warnings about its table.
use Rattle.std.specs.Prelude.{codes, ℕ, ◌+◌, Bool, not, List, map, string_bytes, Option, Some, Result, Ok, Err}
use Rattle.std.specs.List.{filter}
use Rattle.apex_types.specs.declared.calls.Origin.TheVariants.{Init, Script}
use Rattle.apex_machine.specs.table.Table.{Table}
use Rattle.apex_words.specs.Fault.{parts_of}
use Rattle.apex_words.specs.Subjects.{at_key, at_step, whole}
use Rattle.apex_words.specs.declared.fault.Section.TheVariants as section
use Rattle.apex_words.specs.declared.key.Key.TheVariants as key
use Rattle.apex_faults.specs.Findings.{named_faults}
use Rattle.apex_remarks.specs.Details.{warning_detail}
use Rattle.apex_remarks.specs.Terms.{Origin, Place, Remark, Section, Severity, Subject, TableFault, Warning}
use Rattle.apex_warnings.specs.Objects.{group_section}
use Rattle.apex_warnings.specs.WarningWords.{is_among, warning_word}
use Rattle.apex_warnings.specs.Warnings.{warnings}
use Rattle.apex_remarks.specs.declared.remarks.Severity.TheVariants as severity
use Rattle.apex_warnings.specs.declared.warnings.Warning.TheVariants.{Process, Step, UnusedObject, UnusedCore}

-- the word of a severity in a line
abbrev pub severity_word : Severity → List ℕ
severity_word severity.Error = codes "error"
severity_word severity.Warning = codes "warning"

-- what a remark is: its severity, its word, and what it is about
pub record Head : Type 0 where
  pub severity : Severity
  pub code : List ℕ
  pub subject : Option Subject

abbrev pub head : Remark → Head
head remark =
    record { severity = remark.severity; code = remark.code.now; subject = remark.subject }

-- that of a fault
abbrev pub fault_head : TableFault → Head
fault_head fault =
    record { severity = severity.Error; code = (parts_of fault).0; subject = (parts_of fault).1 }

abbrev pub at : Section → ℕ → Place
at section number = record { section = section; number = number }

-- what a step is about: its place in the init list, or in the script of a process
abbrev pub step_subject : Origin → Subject
step_subject (Init k) = at_step (at section.Init (k + 1)) k
step_subject (Script p k) = at_step (at section.Process (p + 1)) k

-- what a warning is about: a process, a step, an object, or the number of the cores
abbrev pub warning_subject : Warning → Subject
warning_subject (Process warning p) = whole (at section.Process (p + 1))
warning_subject (Step warning origin) = step_subject origin
warning_subject (UnusedObject group i) = whole (at (group_section group) (i + 1))
warning_subject (UnusedCore core) = at_key (at section.Top 0) key.Cores

-- that of a warning
abbrev pub warning_head : Warning → Head
warning_head warning =
    record {
      severity = severity.Warning;
      code = warning_word warning;
      subject = Some (warning_subject warning);
    }

-- the warning has none of these words
abbrev pub is_told : List (List ℕ) → Warning → Bool
is_told allowed warning = not (is_among allowed (warning_word warning))

-- those of a table, without the ones of these words
abbrev pub heads_of_warnings : List (List ℕ) → Table → List Head
heads_of_warnings allowed table = map warning_head (filter (is_told allowed) (warnings table))

-- the text of a remark behind its place
abbrev pub detail : Remark → List ℕ
detail remark = string_bytes remark.detail

-- the texts of the same warnings
abbrev pub details_of_warnings : List (List ℕ) → Table → List (List ℕ)
details_of_warnings allowed table =
    map (warning_detail table) (filter (is_told allowed) (warnings table))

-- what the remarks on a refused text are
abbrev pub heads_of_faults : List ℕ → List Head
heads_of_faults text = map fault_head (named_faults text)

-- what those on a text are, by what reading it gives
abbrev pub heads_by : List (List ℕ) → List ℕ → Result Table TableFault → List Head
heads_by allowed text (Ok table) = heads_of_warnings allowed table
heads_by allowed text (Err fault) = heads_of_faults text
