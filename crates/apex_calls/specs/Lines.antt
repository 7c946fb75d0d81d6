-- The lines of a history: the text of each entry (this profile).
use Rattle.std.specs.Prelude.{ℕ, List, ◌++◌, flat_map, Option, None, Some, IfSome, codes, decimal}
use Rattle.apex_calls.specs.Terms.{Call, Caller, DeadlineType, Entry, Notice, Reply, ReturnCode, Who}
use Rattle.apex_types.specs.declared.entries.Caller.TheVariants.{Process as AskedBy, Init, Nobody}
use Rattle.apex_types.specs.declared.entries.Notice.TheVariants.{Woken, Released, Missed}
use Rattle.apex_types.specs.declared.entries.Reply.TheVariants.{Code, Value, Status, Message as Gets, Blocked, Gone, Idle as IdleTurn, Begun, Done, Lost, Advanced}
use Rattle.apex_types.specs.declared.entries.ReturnCode.TheVariants.{NoError, NoAction, NotAvailable, InvalidParam, InvalidConfig, InvalidMode, TimedOut}
use Rattle.apex_types.specs.declared.entries.Who.TheVariants.{Core, Ticker}
use Rattle.apex_types.specs.declared.modes.DeadlineType.TheVariants.{Soft, Hard}
use Rattle.apex_machine.specs.table.Table.{Table, IsKnown}
use Rattle.apex_machine.specs.text.Texts.{id_text, message_text}
use Rattle.apex_calls.specs.CallText.{call_text}

-- the name of a return code
abbrev pub code_text : ReturnCode → List ℕ
code_text NoError = codes "NO_ERROR"
code_text NoAction = codes "NO_ACTION"
code_text NotAvailable = codes "NOT_AVAILABLE"
code_text InvalidParam = codes "INVALID_PARAM"
code_text InvalidConfig = codes "INVALID_CONFIG"
code_text InvalidMode = codes "INVALID_MODE"
code_text TimedOut = codes "TIMED_OUT"

-- the text of an entry without a call: the tick that was asked for, or an idle turn
abbrev pub no_call_text : Reply → List ℕ
no_call_text (Advanced asked went) = codes "tick " ++ decimal asked
no_call_text _ = codes "idle"

-- the text of a step, of a tick, or of an idle turn
abbrev pub asked_text : Table → Option Call → Reply → List ℕ
asked_text table None reply = no_call_text reply
asked_text table (Some call) reply = call_text table call

-- the maker of the event
abbrev pub who_text : Who → List ℕ
who_text (Core core) = codes "core" ++ decimal core
who_text Ticker = codes "ticker"

-- the caller: a process, the init list, or none
abbrev pub caller_text : Caller → List ℕ
caller_text (AskedBy p) = id_text p
caller_text Init = codes "init"
caller_text Nobody = codes "-"

-- the reply to the call
abbrev pub reply_text : Table → Reply → List ℕ
reply_text table (Code code) = code_text code
reply_text table (Value value) = codes "VALUE " ++ decimal value
reply_text table (Status first second) =
    codes "STATUS " ++ decimal first ++ codes " " ++ decimal second
reply_text table (Gets message) = codes "MESSAGE " ++ message_text table message
reply_text table Blocked = codes "BLOCKED"
reply_text table Gone = codes "GONE"
reply_text table IdleTurn = codes "IDLE"
reply_text table Begun = codes "BEGUN"
reply_text table Done = codes "DONE"
reply_text table Lost = codes "LOST"
reply_text table (Advanced asked went) = codes "ADVANCED " ++ decimal went

-- the type of a deadline
abbrev pub deadline_text : DeadlineType → List ℕ
deadline_text Soft = codes "soft"
deadline_text Hard = codes "hard"

-- the effect of the event on a process
abbrev pub notice_text : Notice → List ℕ
notice_text (Woken p code) = codes "woken " ++ id_text p ++ codes " " ++ code_text code
notice_text (Released p) = codes "released " ++ id_text p
notice_text (Missed p kind) = codes "missed " ++ id_text p ++ codes " " ++ deadline_text kind

-- a notice behind the text before it
abbrev pub noticed_text : Notice → List ℕ
noticed_text notice = codes " | " ++ notice_text notice

-- the line of an entry, with its line feed:
-- `number now who process call -> reply`, then ` | ` and each notice
abbrev pub line_of : Table → Entry → List ℕ
line_of table entry =
    decimal entry.number ++ codes " " ++ decimal entry.now ++ codes " " ++ who_text entry.who
    ++ codes " " ++ caller_text entry.process ++ codes " "
    ++ asked_text table entry.call entry.reply
    ++ codes " -> " ++ reply_text table entry.reply ++ flat_map noticed_text entry.notices
    ++ codes "\n"

-- the lines of a history, one behind the other
abbrev pub lines_of : Table → List Entry → List ℕ
lines_of table entries = flat_map (line_of table) entries

-- the ids that the entry's call names are the table's
abbrev pub IsPrintable : Table → Entry → Type 0
IsPrintable table entry = IfSome entry.call (IsKnown table)
