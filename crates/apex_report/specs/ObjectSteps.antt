-- The figures of an object after one entry more, by those before it: what the code does at an entry.
use Rattle.std.specs.Prelude.{ℕ, ◌+◌, ◌-◌, ◌*◌, ◌≤◌, Bool, false, List, Option, None, Some, count_by, fold, option_to_list, ◌&&◌}
use Rattle.apex_types.specs.declared.limits.TheConstants.{MOST_NOTICES}
use Rattle.apex_machine.specs.processes.Queues.{is_queue}
use Rattle.apex_machine.specs.services.Calls.{names}
use Rattle.apex_machine.specs.services.Satisfied.{is_no_error, is_satisfied}
use Rattle.apex_report.specs.Objects.{is_given, is_higher, is_late, is_taken}
use Rattle.apex_report.specs.Ownerships.{ended_with, is_longer, owner_after}
use Rattle.apex_report.specs.Steps.{one_if}
use Rattle.apex_report.specs.Terms.{Call, Entry, Level, ObjectFigures, Owner, ProcessFigures, Queue, Waking}
use Rattle.apex_report.specs.Unbeaten.{kept}

-- there is a call, it names the object, and it passes the test
abbrev pub passes : Queue → (Call → Bool) → Option Call → Bool
passes queue test None = false
passes queue test (Some call) = names queue call && test call

-- the entry's own call is satisfied, and passes
abbrev pub passes_now : Queue → (Call → Bool) → Entry → Bool
passes_now queue test e = is_satisfied e.reply && passes queue test e.call

-- the call of a process that is woken is satisfied, and passes
abbrev pub passes_then : Queue → (Call → Bool) → Waking → Bool
passes_then queue test waking = is_no_error waking.code && passes queue test waking.call

-- what is put in by the entry's own call, and by that of a process that is woken
abbrev pub gives_now : Queue → Entry → Bool
gives_now queue e = passes_now queue (is_given queue) e

abbrev pub gives_then : Queue → Waking → Bool
gives_then queue waking = passes_then queue (is_given queue) waking

-- what is taken out by the entry's own call, and by that of a process that is woken
abbrev pub takes_now : Queue → Entry → Bool
takes_now queue e = passes_now queue (is_taken queue) e

abbrev pub takes_then : Queue → Waking → Bool
takes_then queue waking = passes_then queue (is_taken queue) waking

-- a count after the entry
abbrev pub level_at : Entry → ℕ → Level
level_at e count = record { count = count; number = e.number }

-- what an entry, which wakes these processes, puts in
abbrev pub given_by : Queue → Entry → List Waking → ℕ
given_by queue e woken = one_if (gives_now queue e) + count_by (gives_then queue) woken

-- what an entry, which wakes these processes, takes out
abbrev pub taken_by : Queue → Entry → List Waking → ℕ
taken_by queue e woken = one_if (takes_now queue e) + count_by (takes_then queue) woken

-- the content after an entry, by what was put in and taken out by then
abbrev pub content_after : Entry → List Waking → ObjectFigures → ℕ
content_after e woken f =
    f.initial + (f.given + given_by f.object e woken) - (f.taken + taken_by f.object e woken)

-- the figures with the content after an entry
abbrev pub with_content : Entry → List Waking → ObjectFigures → ObjectFigures
with_content e woken f = record f {
  given = f.given + given_by f.object e woken;
  taken = f.taken + taken_by f.object e woken;
  greatest = kept is_higher f.greatest (level_at e (content_after e woken f));
}

-- the number of these processes that wait in the queue
abbrev pub waiters_among : Queue → List ProcessFigures → ℕ
waiters_among queue processes =
    count_by (λ (f : ProcessFigures). is_queue queue f.waits_in) processes

-- the figures with the queue after an entry
abbrev pub with_queue : Entry → List Waking → List ProcessFigures → ObjectFigures → ObjectFigures
with_queue e woken processes f = record f {
  longest_queue = kept is_higher f.longest_queue (level_at e (waiters_among f.object processes));
  timeouts = f.timeouts + count_by (is_late f.object) woken;
}

-- the figures with the owner after an entry
abbrev pub with_owner : Entry → List Waking → ObjectFigures → ObjectFigures
with_owner e woken f = record f {
  owner = owner_after f.object e woken f.owner;
  longest_ownership = fold (kept is_longer) f.longest_ownership
      (option_to_list (ended_with f.object e f.owner));
}

-- the figures of an object after an entry
abbrev pub object_after : Entry → List Waking → List ProcessFigures → ObjectFigures → ObjectFigures
object_after e woken processes f =
    with_owner e woken (with_queue e woken processes (with_content e woken f))

-- the depth of the owner is at most n
abbrev pub IsOwnerUpTo : ℕ → Option Owner → Type 0
IsOwnerUpTo n None = Unit {0}
IsOwnerUpTo n (Some owner) = owner.depth ≤ n

-- no count of the object is above that of n entries
pub record IsObjectUpTo (n : ℕ) (f : ObjectFigures) : Type 0 where
  pub given : f.given ≤ n * (1 + MOST_NOTICES)
  pub taken : f.taken ≤ n * (1 + MOST_NOTICES)
  pub timeouts : f.timeouts ≤ n * MOST_NOTICES
  pub owner : IsOwnerUpTo n f.owner
