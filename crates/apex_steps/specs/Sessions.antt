-- A session: the machine of a table, and its marked states.
use Rattle.std.specs.Prelude.{ℕ, List, [], ◌∷◌, Bool, Option, Some, None, drop}
use Rattle.std.specs.List.{position_or_len}
use Rattle.std.specs.Str.{bytes_eq}
use Rattle.apex_machine.specs.Machine.{Machine, opening, run}
use Rattle.apex_machine.specs.table.Table.{Table}
use Rattle.apex_steps.specs.Terms.{Event}

-- a marked state: its name, and the machine in it
pub record Mark : Type 0 where
  pub name : List ℕ
  pub machine : Machine

-- a session: its table, its machine, and its marks, the latest first
pub record Session : Type 0 where
  pub table : Table
  pub machine : Machine
  pub marks : List Mark

-- the session before any command
abbrev pub opening_session : Table → Session
opening_session table = record { table = table; machine = opening table; marks = [] }

-- the session after events, up to the first for which the history has no room
abbrev pub after_events : Session → List Event → Session
after_events session events =
    record session { machine = run session.table session.machine events }

-- the session whose present state is marked with this name
abbrev pub marked : List ℕ → Session → Session
marked name session = record session {
  marks = record { name = name; machine = session.machine } ∷ session.marks;
}

-- the mark has this name
abbrev pub is_named : List ℕ → Mark → Bool
is_named name mark = bytes_eq mark.name name

-- the latest mark of this name and all that are older; nothing if no mark has this name
abbrev pub marks_from : List ℕ → List Mark → List Mark
marks_from name marks = drop (position_or_len (is_named name) marks) marks

-- the session in the state of the first of these marks, which it keeps
abbrev pub in_state_of : Session → List Mark → Option Session
in_state_of session [] = None
in_state_of session (mark ∷ older) =
    Some (record session { machine = mark.machine; marks = mark ∷ older })

-- the session that has gone back to the latest mark of this name: it forgets all events and marks
-- since; none if no mark has this name
abbrev pub gone_back : List ℕ → Session → Option Session
gone_back name session = in_state_of session (marks_from name session.marks)
