-- The entries that have a fact for which a search looks.
use Rattle.std.specs.Prelude.{ℕ, zero, suc, ◌+◌, ◌-◌, ◌==◌, ◌&&◌, ◌||◌, Bool, true, false, not, nat_le, min, List, length, Option, None, Some, is_none, is_some}
use Rattle.std.specs.List.{list_any}
use Rattle.std.specs.Str.{bytes_eq}
use Rattle.apex_calls.specs.Catalogue.{row_of}
use Rattle.apex_calls.specs.Parts.{parts_of}
use Rattle.apex_machine.specs.Deeds.{Deed}
use Rattle.apex_machine.specs.processes.Dues.{next_instant}
use Rattle.apex_machine.specs.processes.Periods.{awaits_first}
use Rattle.apex_machine.specs.processes.Roster.{Roster, record_at}
use Rattle.apex_machine.specs.processes.Running.{chosen}
use Rattle.apex_questions.specs.Facts.{is_code}
use Rattle.apex_questions.specs.declared.Fact.TheVariants.{Missed, HardMissed, TimedOut, Lost, Ended, Refused, Response, Standstill}
use Rattle.apex_search.specs.Terms.{Call, Caller, DeadlineType, Fact, Notice, Question, Record, Reply, ReturnCode, Service}
use Rattle.apex_types.specs.Modes.{is_normal}
use Rattle.apex_types.specs.declared.calls.Call.TheVariants.{Time}
use Rattle.apex_types.specs.declared.calls.TimeCall.TheVariants.{PeriodicWait}
use Rattle.apex_types.specs.declared.entries.Caller.TheVariants as callers
use Rattle.apex_types.specs.declared.entries.Notice.TheVariants as notices
use Rattle.apex_types.specs.declared.entries.Reply.TheVariants as replies
use Rattle.apex_types.specs.declared.entries.ReturnCode.TheVariants as codes
use Rattle.apex_types.specs.declared.modes.DeadlineType.TheVariants.{Soft, Hard}

-- what an entry shows of a deed, and the processes that the deed leaves
pub record Shown : Type 0 where
  pub caller : Caller
  pub call : Option Call
  pub reply : Reply
  pub notices : List Notice
  pub roster : Roster

abbrev pub shown : Caller → Option Call → Reply → List Notice → Roster → Shown
shown caller call reply notices roster = record {
  caller = caller;
  call = call;
  reply = reply;
  notices = notices;
  roster = roster;
}

abbrev pub shown_of : Deed → Shown
shown_of deed =
    shown deed.caller deed.call deed.outcome.reply deed.outcome.notices deed.outcome.roster

-- the process that is asked for, if one is, is p
abbrev pub is_any_or : Option ℕ → ℕ → Bool
is_any_or None p = true
is_any_or (Some asked) p = asked == p

-- the question is about process p: it names p, or no process
abbrev pub is_about : Question → ℕ → Bool
is_about question p = is_any_or question.process p

-- the question is about this caller: about its process, or it names no process
abbrev pub is_about_caller : Question → Caller → Bool
is_about_caller question (callers.Process p) = is_about question p
is_about_caller question _ = is_none question.process

-- the call, if there is one, has the word of this service
abbrev pub is_of_service : Service → Option Call → Bool
is_of_service service None = false
is_of_service service (Some call) =
    bytes_eq (row_of (parts_of call).0).word (row_of service).word

-- the call is of the service that is asked for, if one is
abbrev pub is_of_any_or : Option Service → Option Call → Bool
is_of_any_or None call = true
is_of_any_or (Some asked) call = is_of_service asked call

-- the question is about the caller of this entry, and about the service of its call
abbrev pub is_about_call : Question → Shown → Bool
is_about_call question entry =
    is_about_caller question entry.caller && is_of_any_or question.service entry.call

-- the deadline is hard
abbrev pub is_hard : DeadlineType → Bool
is_hard Hard = true
is_hard Soft = false

-- the process missed its deadline
abbrev pub is_miss : Question → Notice → Bool
is_miss question (notices.Missed p kind) = is_about question p
is_miss question _ = false

-- the process missed its hard deadline
abbrev pub is_hard_miss : Question → Notice → Bool
is_hard_miss question (notices.Missed p kind) = is_hard kind && is_about question p
is_hard_miss question _ = false

-- the wait of the process ended with TIMED_OUT
abbrev pub is_timeout : Question → Notice → Bool
is_timeout question (notices.Woken p code) = is_code code codes.TimedOut && is_about question p
is_timeout question _ = false

-- the caller's work is lost
abbrev pub is_lost : Reply → Bool
is_lost replies.Lost = true
is_lost _ = false

-- the caller does not go on after the call
abbrev pub is_gone : Reply → Bool
is_gone replies.Gone = true
is_gone _ = false

-- the call is answered with this code
abbrev pub is_answer : ReturnCode → Reply → Bool
is_answer asked (replies.Code code) = is_code code asked
is_answer asked _ = false

-- the caller is blocked
abbrev pub is_blocked : Reply → Bool
is_blocked replies.Blocked = true
is_blocked _ = false

-- the call is PERIODIC_WAIT
abbrev pub is_periodic_wait : Option Call → Bool
is_periodic_wait (Some (Time PeriodicWait)) = true
is_periodic_wait _ = false

-- an age is this many ticks or more, or more than the period; without a period it is not
abbrev pub is_age : ℕ → Option ℕ → ℕ → Bool
is_age ticks None age = false
is_age ticks (Some period) age = nat_le (min ticks (period + 1)) age

-- the process has been released, and at this time its last release is this many ticks ago or more, or
-- more than a period ago
abbrev pub is_released_for : ℕ → ℕ → Record → Bool
is_released_for ticks now r =
    r.started && not (awaits_first r.wait) && is_age ticks r.attributes.period (now - r.release)

-- the caller's last release is so
abbrev pub is_caller_aged : ℕ → Roster → Caller → Bool
is_caller_aged ticks roster (callers.Process p) =
    is_released_for ticks roster.now (record_at roster p)
is_caller_aged ticks roster _ = false

-- a job of the caller ends with PERIODIC_WAIT, this many ticks after its release or later, or more
-- than a period after it
abbrev pub is_response : ℕ → Shown → Bool
is_response ticks entry =
    is_periodic_wait entry.call && is_blocked entry.reply
    && is_caller_aged ticks entry.roster entry.caller

-- one of the first n passes
abbrev pub some_passes : (ℕ → Bool) → ℕ → Bool
some_passes passes zero = false
some_passes passes (suc n) = passes n || some_passes passes n

-- process p is started
abbrev pub is_started : Roster → ℕ → Bool
is_started roster p = (record_at roster p).started

-- the process that is asked for is started, or else any
abbrev pub has_started : Option ℕ → Roster → Bool
has_started None roster = some_passes (is_started roster) (length roster.records)
has_started (Some asked) roster = is_started roster asked

-- the core has a process to run
abbrev pub has_chosen : Roster → ℕ → Bool
has_chosen roster core = is_some (chosen roster core)

-- a standstill: in NORMAL the process is started, but no core has a process to run, and no instant is
-- awaited
abbrev pub stands_still : Option ℕ → Roster → Bool
stands_still asked roster =
    is_normal roster.mode && is_none (next_instant roster)
    && not (some_passes (has_chosen roster) roster.cores) && has_started asked roster

-- the entry has this fact
abbrev pub has_one : Question → Shown → Fact → Bool
has_one question entry Missed = list_any (is_miss question) entry.notices
has_one question entry HardMissed = list_any (is_hard_miss question) entry.notices
has_one question entry TimedOut = list_any (is_timeout question) entry.notices
has_one question entry Lost = is_lost entry.reply && is_about_call question entry
has_one question entry Ended = is_gone entry.reply && is_about_call question entry
has_one question entry (Refused code) =
    is_answer code entry.reply && is_about_call question entry
has_one question entry (Response ticks) =
    is_response ticks entry && is_about_call question entry
has_one question entry Standstill = stands_still question.process entry.roster

-- the entry has one of the facts
abbrev pub has_some : Question → Shown → Bool
has_some question entry = list_any (has_one question entry) question.facts

-- the entry of the deed has one of the facts
abbrev pub has_fact : Question → Deed → Bool
has_fact question deed = has_some question (shown_of deed)
