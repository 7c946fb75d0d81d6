-- The words and bytes of single values.
use Rattle.std.specs.Prelude.{ℕ, ◌%◌, ◌/◌, Bool, [], ◌∷◌, Option, None, Some, if◌then◌else◌}
use Rattle.std.specs.Int.{w64, from_le_bytes}
use Rattle.apex_machine.specs.declared.records.Suspender.TheVariants.{Itself, Other}
use Rattle.apex_machine.specs.declared.records.Wait.TheVariants as waits
use Rattle.apex_forms.specs.Terms.{Holding, Message, Mode, Origin, Suspender, Wait, WaitCode}
use Rattle.apex_types.specs.declared.calls.Origin.TheVariants.{Init, Script}
use Rattle.apex_types.specs.declared.modes.Mode.TheVariants.{Idle, ColdStart, Normal}

-- a truth is 1 or 0
abbrev pub flag_word : Bool → ℕ
flag_word flag = if flag then 1 else 0

-- an instant is its ticks, and none is 0
abbrev pub instant_word : Option ℕ → ℕ
instant_word None = 0
instant_word (Some t) = t

-- a mode is its number
abbrev pub mode_word : Mode → ℕ
mode_word Idle = 0
mode_word ColdStart = 1
mode_word Normal = 2

-- a suspension is 1 by the process itself, 2 by another, and none is 0
abbrev pub suspender_byte : Option Suspender → ℕ
suspender_byte None = 0
suspender_byte (Some Itself) = 1
suspender_byte (Some Other) = 2

-- the word of four bytes, low first, and of four that are 0
abbrev pub word_of_bytes : ℕ → ℕ → ℕ → ℕ → ℕ
word_of_bytes a b c d = from_le_bytes w64 (a ∷ b ∷ c ∷ d ∷ 0 ∷ 0 ∷ 0 ∷ 0 ∷ [])

-- the word of a message of this length, by its origin: the list, the length, and the place there
abbrev pub origin_word : ℕ → Origin → ℕ
origin_word length (Init place) = word_of_bytes 1 length (place % 256) (place / 256)
origin_word length (Script process place) = word_of_bytes 2 length place process

-- a message is the word of its origin and length, and none is 0
abbrev pub message_word : Option Message → ℕ
message_word None = 0
message_word (Some message) = origin_word message.length message.origin

-- a mutex that is owned is a word of its number, its ceiling and its depth, and none is 0
abbrev pub holding_word : Option Holding → ℕ
holding_word None = 0
holding_word (Some held) = word_of_bytes 1 held.mutex held.ceiling held.depth

-- the code of a wait of this kind for the object at a place
abbrev pub wait_code : ℕ → ℕ → ℕ → WaitCode
wait_code kind place word = record { kind = kind; place = place; word = word }

-- the code of a wait: its kind, the place of its object, and the word of its delay or message
abbrev pub code_of : Option Wait → WaitCode
code_of None = wait_code 0 0 0
code_of (Some (waits.Normal delay)) = wait_code 1 0 delay
code_of (Some waits.Start) = wait_code 2 0 0
code_of (Some waits.Time) = wait_code 3 0 0
code_of (Some waits.Period) = wait_code 4 0 0
code_of (Some (waits.Semaphore s)) = wait_code 5 s 0
code_of (Some (waits.Receive b)) = wait_code 6 b 0
code_of (Some (waits.Send b message)) = wait_code 7 b (message_word (Some message))
code_of (Some (waits.Blackboard b)) = wait_code 8 b 0
code_of (Some (waits.EventFlag e)) = wait_code 9 e 0
code_of (Some (waits.Mutex m)) = wait_code 10 m 0
