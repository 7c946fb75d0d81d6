-- How the fronts of one partition follow each other.
use Rattle.std.specs.Prelude.{◌≤◌, List}
use mathlib.Core.List.{IsPrefix}
use Rattle.apex_types.specs.declared.entries.Entry.{Entry}
use Rattle.apex_machine.specs.table.Table.{Table}
use Rattle.apex_board.specs.Fronts.{Front, IsFrontAfter}

-- the later front has no fewer entries and no earlier time
pub record IsNoEarlier (first later : Front) : Type 0 where
  pub entries : first.entries ≤ later.entries
  pub now : first.now ≤ later.now

-- if one history begins with the other, the front after it is no earlier
abbrev pub FrontsGoForward : Table → Type 0
FrontsGoForward table = (before after : List Entry) (first later : Front) → IsPrefix before after
    → IsFrontAfter table before first → IsFrontAfter table after later → IsNoEarlier first later
