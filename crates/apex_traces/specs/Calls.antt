-- The calls of a trace: each entry but an idle turn has a slice on the track of its caller, from the moment before
-- the entry to the moment after it. The init list and the ticks have tracks of their own, in group 4.
use Rattle.std.specs.Prelude.{ℕ, ◌-◌, Bool, true, false, List, [], ◌++◌, Option, None, Some, codes, decimal, if◌then◌else◌}
use Rattle.apex_calls.specs.Lines.{asked_text, reply_text}
use Rattle.apex_calls.specs.Terms.{Call}
use Rattle.apex_json.specs.Strings.{json_text}
use Rattle.apex_machine.specs.table.Table.{Table}
use Rattle.apex_machine.specs.text.Texts.{id_text}
use Rattle.apex_traces.specs.Times.{time_text, time_back}
use Rattle.apex_moments.specs.Terms.{Caller, Entry, Reply}
use Rattle.apex_traces.specs.declared.calls.Lasting.{Lasting}
use Rattle.apex_types.specs.declared.entries.Caller.TheVariants.{Process, Init, Nobody}
use Rattle.apex_types.specs.declared.entries.Reply.TheVariants.{Advanced}

-- the track of a caller: that of its process, of the init list, or of the ticks
abbrev pub caller_text : Caller → List ℕ
caller_text (Process p) = codes "\"pid\":2,\"tid\":" ++ id_text p
caller_text Init = codes "\"pid\":4,\"tid\":1"
caller_text Nobody = codes "\"pid\":4,\"tid\":2"

-- a slice on a caller's track from this time on, of this duration, up to its arguments
unfoldable pub lasting_text : Caller → ℕ → ℕ → List ℕ
lasting_text caller time duration =
    codes ",\n{\"ph\":\"X\"," ++ caller_text caller ++ time_back time ++ codes ",\"dur\":"
    ++ time_text duration

-- the arguments and the name of the slice of an entry: the entry's number, the reply, and what was asked for
unfoldable pub said_text : ℕ → List ℕ → List ℕ → List ℕ
said_text number reply asked =
    codes ",\"args\":{\"entry\":" ++ decimal number ++ codes ",\"reply\":\"" ++ json_text reply
    ++ codes "\"},\"name\":\"" ++ json_text asked ++ codes "\"}"

-- the slice of an entry from the moment before it to the moment after it
abbrev pub slice_of : Table → Lasting → Entry → List ℕ
slice_of table lasting entry =
    lasting_text entry.process lasting.begin (lasting.end - lasting.begin)
    ++ said_text entry.number (reply_text table entry.reply)
    (asked_text table entry.call entry.reply)

-- an idle turn: there is no call, and the time does not advance
abbrev pub is_idle : Option Call → Reply → Bool
is_idle (Some call) reply = false
is_idle None (Advanced asked went) = false
is_idle None reply = true

-- the slice of an entry; an idle turn has none
abbrev pub call_of : Table → Lasting → Entry → List ℕ
call_of table lasting entry =
    if is_idle entry.call entry.reply then [] else slice_of table lasting entry
