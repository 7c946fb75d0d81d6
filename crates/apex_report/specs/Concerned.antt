-- Which processes and objects an entry may concern: it leaves the figures of all others as they are.
use Rattle.std.specs.Prelude.{◌≡◌, ℕ, ◌+◌, ◌-◌, ◌≤◌, Bool, false, List, Option, None, Some, ◌==◌, ◌||◌}
use Rattle.std.specs.List.{list_any}
use Rattle.std.specs.Option.{is_none}
use Rattle.apex_types.specs.declared.entries.Notice.TheVariants.{Woken, Released, Missed}
use Rattle.apex_machine.specs.services.Callers.{is_by_process}
use Rattle.apex_report.specs.Jobs.{is_stop_of}
use Rattle.apex_report.specs.Objects.{is_about}
use Rattle.apex_report.specs.ObjectSteps.{waiters_among}
use Rattle.apex_report.specs.Ownerships.{is_stopped}
use Rattle.apex_report.specs.Terms.{Entry, Level, Notice, ObjectFigures, Owner, ProcessFigures, Queue, Waking}

-- the notice is for process p
abbrev pub is_for : ℕ → Notice → Bool
is_for p (Woken q code) = p == q
is_for p (Released q) = p == q
is_for p (Missed q kind) = p == q

-- the entry has a notice for process p
abbrev pub is_noticed : ℕ → Entry → Bool
is_noticed p e = list_any (is_for p) e.notices

-- the entry is process p's own, has a notice for it, or stops it
abbrev pub is_concerned : ℕ → Entry → Bool
is_concerned p e =
    is_by_process p e.process || is_noticed p e || is_stop_of p e.call e.reply

-- the process waited for the object
abbrev pub waited_for : Queue → Waking → Bool
waited_for queue waking = is_about queue waking.call

-- one of these processes waited for the object
abbrev pub is_awaited : Queue → List Waking → Bool
is_awaited queue woken = list_any (waited_for queue) woken

-- there is an owner, and it is stopped with the entry
abbrev pub is_owner_stopped : Option Owner → Entry → Bool
is_owner_stopped None e = false
is_owner_stopped (Some owner) e = is_stopped owner.process e

-- the entry, which wakes these processes, is the first one for the object, has a call that names it,
-- wakes a process that waited for it, or stops its owner
abbrev pub is_object_concerned : Entry → List Waking → ObjectFigures → Bool
is_object_concerned e woken f =
    is_none f.greatest || is_none f.longest_queue || is_about f.object e.call
    || is_awaited f.object woken
    || is_owner_stopped f.owner e

-- no level is above this highest one, if there is one
abbrev pub IsAtMost : ℕ → Option Level → Type 0
IsAtMost n None = Unit {0}
IsAtMost n (Some highest) = n ≤ highest.count

-- the content of the object is at most its greatest one, and its queue at most its longest one, among
-- these processes
pub record IsSettled (processes : List ProcessFigures) (f : ObjectFigures) : Type 0 where
  pub content : IsAtMost (f.initial + f.given - f.taken) f.greatest
  pub queue : IsAtMost (waiters_among f.object processes) f.longest_queue

-- the same of the processes after an entry, whose call does not name the object
pub record IsLevel (e : Entry) (processes : List ProcessFigures) (f : ObjectFigures) : Type 0 where
  pub content : IsAtMost (f.initial + f.given - f.taken) f.greatest
  pub queue : is_about f.object e.call ≡ false
      → IsAtMost (waiters_among f.object processes) f.longest_queue
