-- The words by which warnings are left out: each kind has one.
use Rattle.std.specs.Prelude.{codes, ℕ, Bool, List, [], ◌∷◌, Option, None, Some, ◌==◌, if◌then◌else◌}
use Rattle.std.specs.List.{list_all, list_any, slice_split}
use Rattle.std.specs.Str.{bytes_eq}
use Rattle.apex_warnings.specs.Terms.{ProcessWarning, StepWarning, Warning}
use Rattle.apex_warnings.specs.declared.process_warnings.ProcessWarning.TheVariants.{EmptyScript, NotStarted, CapacityAbovePeriod, NoPeriodicWait, MuchWork}
use Rattle.apex_warnings.specs.declared.step_warnings.StepWarning.TheVariants.{MessageRefused, AperiodicWait, SuspendsPeriodic, LowCeiling, NotReleased, WaitsAsOwner, NeverAnswered}
use Rattle.apex_warnings.specs.declared.warnings.Warning.TheVariants.{Process, Step, UnusedObject, UnusedCore}

-- the word of each kind of warning about a process
abbrev pub process_word : ProcessWarning → List ℕ
process_word EmptyScript = codes "empty-script"
process_word NotStarted = codes "not-started"
process_word CapacityAbovePeriod = codes "capacity-above-period"
process_word NoPeriodicWait = codes "no-periodic-wait"
process_word MuchWork = codes "much-work"

-- the word of each kind of warning about a step
abbrev pub step_word : StepWarning → List ℕ
step_word MessageRefused = codes "message-refused"
step_word AperiodicWait = codes "aperiodic-wait"
step_word SuspendsPeriodic = codes "suspends-periodic"
step_word LowCeiling = codes "low-ceiling"
step_word NotReleased = codes "not-released"
step_word WaitsAsOwner = codes "waits-as-owner"
step_word NeverAnswered = codes "never-answered"

-- the word of warnings about an object
abbrev pub object_word : List ℕ
object_word = codes "unused-object"

-- the word of warnings about a core
abbrev pub core_word : List ℕ
core_word = codes "unused-core"

-- the word of a warning, which is that of its kind
abbrev pub warning_word : Warning → List ℕ
warning_word (Process warning p) = process_word warning
warning_word (Step warning origin) = step_word warning
warning_word (UnusedObject group i) = object_word
warning_word (UnusedCore core) = core_word

-- all of them
abbrev pub warning_words : List (List ℕ)
warning_words =
    process_word EmptyScript ∷ process_word NotStarted ∷ process_word CapacityAbovePeriod
    ∷ process_word NoPeriodicWait ∷ process_word MuchWork ∷ step_word MessageRefused
    ∷ step_word AperiodicWait ∷ step_word SuspendsPeriodic ∷ step_word LowCeiling
    ∷ step_word NotReleased ∷ step_word WaitsAsOwner ∷ step_word NeverAnswered ∷ object_word
    ∷ core_word ∷ []

-- the word is one of these
abbrev pub is_among : List (List ℕ) → List ℕ → Bool
is_among words word = list_any (bytes_eq word) words

-- the word is that of a kind of warning
abbrev pub is_warning_word : List ℕ → Bool
is_warning_word word = is_among warning_words word

-- each of these is the word of a kind of warning
abbrev pub are_warning_words : List (List ℕ) → Bool
are_warning_words words = list_all is_warning_word words

-- the parts between commas
abbrev pub parts : List ℕ → List (List ℕ)
parts text = slice_split (λ c. c == 44) text

-- the parts, if each of them is the word of a warning
abbrev pub allowed_in : List ℕ → Option (List (List ℕ))
allowed_in text = if are_warning_words (parts text) then Some (parts text) else None
