-- Changes of several processes, one after the other.
use Rattle.std.specs.Prelude.{◌≡◌, ℕ, zero, suc, List, [], ◌++◌, Option, None, Some}
use Rattle.apex_machine.specs.Terms.{Notice}
use Rattle.apex_machine.specs.processes.Roster.{Roster}

-- the processes after some changes, and the notices of these changes
pub record Changed : Type 0 where
  pub roster : Roster
  pub notices : List Notice

-- nothing changes
abbrev pub unchanged : Roster → Changed
unchanged roster = record { roster = roster; notices = [] }

-- one change, and then another of the roster that it left
abbrev pub followed_by : Changed → (Roster → Changed) → Changed
followed_by first others =
    let second = others first.roster in
    record { roster = second.roster; notices = first.notices ++ second.notices }

-- if a process is next it is changed, and then the others are
abbrev pub next_and : (Roster → Changed) → (Roster → ℕ → Changed) → Roster → Option ℕ → Changed
next_and others change roster None = unchanged roster
next_and others change roster (Some p) = followed_by (change roster p) others

-- as long as a process is next it is changed, n times at the most
abbrev pub in_turn : (Roster → Option ℕ) → (Roster → ℕ → Changed) → ℕ → Roster → Changed
in_turn next change zero roster = unchanged roster
in_turn next change (suc n) roster = next_and (in_turn next change n) change roster (next roster)

-- a change whose notices come behind those that were there
abbrev pub behind : List Notice → Changed → Changed
behind before changed = record { roster = changed.roster; notices = before ++ changed.notices }

-- a change was made: this roster is left, and its notices come behind those that were there
pub record Makes (changed : Changed) (left : Roster) (before after : List Notice) : Type 0 where
  pub roster : left ≡ changed.roster
  pub notices : after ≡ before ++ changed.notices
