-- Marked states as a session keeps them: by the number of entries that the history had.
use Rattle.std.specs.Prelude.{◌≡◌, ℕ, ◌≤◌, ⊤, Bool, true, false, List, [], ◌∷◌, map, take, Some, None}
use Rattle.std.specs.Str.{bytes_eq}
use Rattle.apex_machine.specs.Machine.{Machine, replay}
use Rattle.apex_machine.specs.table.Table.{Table}
use Rattle.apex_steps.specs.Terms.{Entry}
use Rattle.apex_steps.specs.Sessions.{Mark, Session, gone_back}
use Rattle.apex_steps.specs.declared.sessions.Mark.{Mark as MarkKept}

-- the state after the first entries of the history, as a mark
abbrev pub mark_kept : Table → List Entry → MarkKept → Mark
mark_kept table history mark = record {
  name = mark.name.items;
  machine = replay table (take mark.entries history);
}

-- the mark is kept with this name
abbrev pub is_kept_as : List ℕ → MarkKept → Bool
is_kept_as name mark = bytes_eq mark.name.items name

-- the session of this machine, with these marks
abbrev pub session_kept : Table → Machine → List MarkKept → Session
session_kept table machine marks = record {
  table = table;
  machine = machine;
  marks = map (mark_kept table machine.history) marks;
}

-- none of the marks, the latest first, has more entries than n or than a later one
abbrev pub AreKept : ℕ → List MarkKept → Type 0
AreKept n [] = ⊤
AreKept n (mark ∷ older) = (mark.entries ≤ n) × AreKept mark.entries older

-- the session is in the state of the latest mark of this name; or there is none, and it stays
abbrev pub HasGoneBack : List ℕ → Session → Bool → Session → Type 0
HasGoneBack name before true after = gone_back name before ≡ Some after
HasGoneBack name before false after = (gone_back name before ≡ None) × (after ≡ before)
