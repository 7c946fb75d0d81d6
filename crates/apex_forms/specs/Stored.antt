-- The words of a situation and of what a pace counts: those of its head, of each core, of each
-- process and of each object, one behind the other.
use Rattle.std.specs.Prelude.{◌≡◌, ℕ, ◌+◌, ◌*◌, zero, suc, Bool, List, [], ◌∷◌, ◌++◌, length, flat_map, Option, None, Some, if◌then◌else◌}
use Rattle.apex_laws.specs.Premises.{AreOf}
use Rattle.apex_machine.specs.Deeds.{Objects}
use Rattle.apex_machine.specs.processes.Roster.{Roster, record_at}
use Rattle.apex_machine.specs.services.ProcessServices.{ProcessObject}
use Rattle.apex_machine.specs.table.Table.{Table}
use Rattle.apex_pace.specs.Pace.{Paced}
use Rattle.apex_forms.specs.Codes.{mode_word}
use Rattle.apex_forms.specs.Objects.{blackboard_words, buffer_words, event_flag_words, mutex_words, semaphore_words}
use Rattle.apex_forms.specs.Records.{FitsRecord, record_words}
use Rattle.apex_forms.specs.Terms.{OpenWork, Record}
use Rattle.apex_forms.specs.declared.objects.TheConstants.{BLACKBOARD_WORDS, BUFFER_WORDS, EVENT_FLAG_WORDS, MUTEX_WORDS, SEMAPHORE_WORDS}
use Rattle.apex_forms.specs.declared.records.TheConstants.{RECORD_WORDS}
use Rattle.apex_forms.specs.declared.stored.TheConstants.{CORE_WORDS, HEAD_WORDS}

-- broken work is 1, and unbroken work is 2
abbrev pub work_word : Bool → ℕ
work_word unbroken = if unbroken then 2 else 1

-- the words of open work: its kind, its process and its amount
abbrev pub work_words : Option OpenWork → List ℕ
work_words None = 0 ∷ 0 ∷ 0 ∷ []
work_words (Some o) = work_word o.unbroken ∷ o.work.process ∷ o.work.amount ∷ []

-- the words of a core: its open work, its turns, and the ticks that it has worked for
abbrev pub core_words : Option OpenWork → ℕ → ℕ → List ℕ
core_words begun turns worked = work_words begun ++ turns ∷ worked ∷ []

-- those of the first n cores
abbrev pub cores_words : ℕ → Paced → List ℕ
cores_words zero s = []
cores_words (suc n) s =
    cores_words n s ++ core_words (s.situation.works n) (s.turns n) (s.worked n)

-- the words of the processes
abbrev pub records_words : List ProcessObject → List Record → List ℕ
records_words (o ∷ os) (r ∷ rs) = record_words o.created r ++ records_words os rs
records_words _ _ = []

-- the words of the semaphores, the buffers and the blackboards
abbrev pub counted_words : Objects → List ℕ
counted_words objects =
    flat_map semaphore_words objects.semaphores ++ flat_map buffer_words objects.buffers
    ++ flat_map blackboard_words objects.blackboards

-- the words of the event flags and the mutexes
abbrev pub locks_words : Objects → List ℕ
locks_words objects =
    flat_map event_flag_words objects.event_flags ++ flat_map mutex_words objects.mutexes

-- the words of the head: the mode, the time, and the number of init steps that were made
abbrev pub head_words : Paced → List ℕ
head_words s =
    mode_word s.situation.roster.mode ∷ s.situation.roster.now ∷ s.situation.made ∷ []

-- the words of a paced situation of the table
abbrev pub words_of : Table → Paced → List ℕ
words_of table s =
    head_words s ++ cores_words table.cores s
    ++ records_words s.situation.objects.processes s.situation.roster.records
    ++ counted_words s.situation.objects ++ locks_words s.situation.objects

-- the number of words of the semaphores, the buffers and the blackboards
abbrev pub counted_count : Objects → ℕ
counted_count objects =
    length objects.semaphores * SEMAPHORE_WORDS + length objects.buffers * BUFFER_WORDS
    + length objects.blackboards * BLACKBOARD_WORDS

-- the number of words of the event flags and the mutexes
abbrev pub locks_count : Objects → ℕ
locks_count objects =
    length objects.event_flags * EVENT_FLAG_WORDS + length objects.mutexes * MUTEX_WORDS

-- the number of words of a situation of the table
abbrev pub word_count : Table → ℕ
word_count table =
    HEAD_WORDS + table.cores * CORE_WORDS + length table.processes * RECORD_WORDS
    + length table.semaphores * SEMAPHORE_WORDS + length table.buffers * BUFFER_WORDS
    + length table.blackboards * BLACKBOARD_WORDS
    + length table.event_flags * EVENT_FLAG_WORDS + length table.mutexes * MUTEX_WORDS

-- the stamp of each record fits in a word
abbrev pub AreFit : Roster → Type 0
AreFit roster = (p : ℕ) → FitsRecord (record_at roster p)

-- the situation is one of the table, and its records fit in words
pub record FitsWords (table : Table) (s : Paced) : Type 0 where
  pub many : length s.situation.roster.records ≡ length table.processes
  pub objects : AreOf table s.situation.objects
  pub records : AreFit s.situation.roster
