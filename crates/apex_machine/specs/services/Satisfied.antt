-- Which calls a history satisfied, in order, and the values that follow from them.
use Rattle.std.specs.Prelude.{ℕ, ◌+◌, ◌-◌, Bool, true, false, List, [], ◌∷◌, ◌++◌, Option, None, fold, filter, flat_map, count_by, drop, option_to_list, if◌then◌else◌}
use Rattle.std.specs.List.{filter_map}
use Rattle.apex_machine.specs.Terms.{Call, Entry, Message, Notice, Reply, ReturnCode}
use Rattle.apex_types.specs.declared.entries.Notice.TheVariants.{Woken, Released, Missed}
use Rattle.apex_types.specs.declared.entries.Reply.TheVariants.{Code, Message as Gets}
use Rattle.apex_types.specs.declared.entries.ReturnCode.TheVariants.{NoError}
use Rattle.apex_machine.specs.declared.records.Queue.TheVariants as queues
use Rattle.apex_machine.specs.services.Callers.{is_by_process}
use Rattle.apex_machine.specs.services.Calls.{names, is_wait, is_signal, sent_message, is_receive, shown_after, up_after}

-- the code is NO_ERROR
abbrev pub is_no_error : ReturnCode → Bool
is_no_error NoError = true
is_no_error _ = false

-- the reply is NO_ERROR
abbrev pub is_accepted : Reply → Bool
is_accepted (Code code) = is_no_error code
is_accepted _ = false

-- the reply is NO_ERROR or a message
abbrev pub is_satisfied : Reply → Bool
is_satisfied (Gets message) = true
is_satisfied reply = is_accepted reply

-- the latest call of process p after an entry: the entry's call if p asked for it, else the one
-- before
abbrev pub latest_after : ℕ → Option Call → Entry → Option Call
latest_after p before e = if is_by_process p e.process then e.call else before

-- the call of process p's latest entry
abbrev pub latest_call : ℕ → List Entry → Option Call
latest_call p history = fold (latest_after p) None history

-- the call that an entry's own reply satisfies
abbrev pub own_call : Entry → List Call
own_call e = if is_satisfied e.reply then option_to_list e.call else []

-- the call that a notice satisfies: a process that is woken with NO_ERROR has its latest call
-- answered
abbrev pub answered_by : List Entry → Notice → List Call
answered_by history (Woken p code) =
    if is_no_error code then option_to_list (latest_call p history) else []
answered_by history (Released p) = []
answered_by history (Missed p kind) = []

-- the calls that one entry more satisfies: its own, and then those that its notices answer
abbrev pub satisfied_by : List Entry → Entry → List Call
satisfied_by history e = own_call e ++ flat_map (answered_by history) e.notices

-- the calls that these entries satisfy after a history, in order
abbrev pub satisfied_from : List Entry → List Entry → List Call
satisfied_from before [] = []
satisfied_from before (e ∷ later) = satisfied_by before e ++ satisfied_from (before ++ e ∷ []) later

-- the calls that a history satisfied, in the order in which it did so
abbrev pub satisfied : List Entry → List Call
satisfied history = satisfied_from [] history

-- those of them that pass a test
abbrev pub calls_where : (Call → Bool) → List Entry → List Call
calls_where passes history = filter passes (satisfied history)

-- semaphore value: the initial one, plus its satisfied signals, less its satisfied waits
-- (ARINC 653 Part 1, semaphores)
abbrev pub semaphore_value : ℕ → ℕ → List Entry → ℕ
semaphore_value initial s history =
    let calls = calls_where (names (queues.Semaphore s)) history in
    initial + count_by is_signal calls - count_by is_wait calls

-- buffer content: the messages of its satisfied sends, in order, without the first n, if n of its
-- receives were satisfied (ARINC 653 Part 1, buffers)
abbrev pub buffer_content : ℕ → List Entry → List Message
buffer_content b history =
    let calls = calls_where (names (queues.Buffer b)) history in
    drop (count_by is_receive calls) (filter_map sent_message calls)

-- blackboard message: that of the last display, unless a clear came later (ARINC 653 Part 1,
-- blackboards)
abbrev pub blackboard_message : ℕ → List Entry → Option Message
blackboard_message b history =
    fold shown_after None (calls_where (names (queues.Blackboard b)) history)

-- event flag value: up if the last of the sets and resets is a set (ARINC 653 Part 1, events)
abbrev pub is_up : ℕ → List Entry → Bool
is_up e history = fold up_after false (calls_where (names (queues.EventFlag e)) history)
