-- The values of single words and bytes.
use Rattle.std.specs.Prelude.{ℕ, ◌+◌, ◌*◌, ◌%◌, ◌^◌, ◌==◌, Bool, Option, None, Some, option_map, slice_index, if◌then◌else◌}
use Rattle.std.specs.Int.{w64, to_le_bytes}
use Rattle.apex_machine.specs.declared.records.Suspender.TheVariants.{Itself, Other}
use Rattle.apex_machine.specs.declared.records.Wait.TheVariants as waits
use Rattle.apex_recall.specs.Terms.{Holding, Message, Mode, Origin, Suspender, Wait}
use Rattle.apex_types.specs.declared.calls.Origin.TheVariants.{Init, Script}
use Rattle.apex_types.specs.declared.modes.Mode.TheVariants.{Idle, ColdStart, Normal}

-- the truth of this word: 1 is true
abbrev pub is_set : ℕ → Bool
is_set word = word == 1

-- the instant of this word, if there is one
abbrev pub instant_in : Bool → ℕ → Option ℕ
instant_in is_there word = if is_there then Some word else None

-- the mode of its number
abbrev pub mode_in : ℕ → Mode
mode_in word = if word == 0 then Idle else if word == 1 then ColdStart else Normal

-- a suspension by the process itself is 1, and one by another is 2
abbrev pub suspender_in : ℕ → Option Suspender
suspender_in byte = if byte == 0 then None else if byte == 1 then Some Itself else Some Other

-- the byte of a word at a place, the lowest first
abbrev pub byte_of : ℕ → ℕ → ℕ
byte_of word place = slice_index (to_le_bytes w64 word) place

-- the origin of these bytes
abbrev pub origin_in : ℕ → ℕ → ℕ → Origin
origin_in list low high = if list == 1 then Init (low + 256 * high) else Script high low

-- the message of this word; 0 is none
abbrev pub message_in : ℕ → Option Message
message_in word =
    if byte_of word 0 == 0 then None
    else Some (record {
      origin = origin_in (byte_of word 0) (byte_of word 2) (byte_of word 3);
      length = byte_of word 1;
    })

-- the mutex of this word; 0 is none
abbrev pub holding_in : ℕ → Option Holding
holding_in word =
    if byte_of word 0 == 0 then None
    else Some (record {
      mutex = byte_of word 1;
      ceiling = byte_of word 2;
      depth = byte_of word 3;
    })

-- the wait for room for this message in the buffer
abbrev pub sending : ℕ → Option Message → Option Wait
sending b message = option_map (waits.Send b) message

-- the wait of a kind
abbrev pub wait_of : ℕ → ℕ → ℕ → Option Wait
wait_of kind place word =
    if kind == 1 then Some (waits.Normal (word % 2 ^ 32))
    else if kind == 2 then Some waits.Start
    else if kind == 3 then Some waits.Time
    else if kind == 4 then Some waits.Period
    else if kind == 5 then Some (waits.Semaphore place)
    else if kind == 6 then Some (waits.Receive place)
    else if kind == 7 then sending place (message_in word)
    else if kind == 8 then Some (waits.Blackboard place)
    else if kind == 9 then Some (waits.EventFlag place)
    else if kind == 10 then Some (waits.Mutex place)
    else None
