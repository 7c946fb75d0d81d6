-- A history that departs from what the partition does, and the run before the departure.
use Rattle.std.specs.Prelude.{◌≡◌, ℕ, ◌+◌, ◌-◌, ◌==◌, Bool, false, List, length, Option, None, Some, if◌then◌else◌}
use Rattle.apex_check.specs.Histories.{Follows}
use Rattle.apex_check.specs.Texts.{BeginsWithTable}
use Rattle.apex_check.specs.Verdicts.{Judges, verdict_text}
use Rattle.apex_check.specs.declared.Verdict.TheVariants.{DepartsAt}
use Rattle.apex_departures.specs.Lines.{given_parts, part_given}
use Rattle.apex_departures.specs.Pages.{expected_text}
use Rattle.apex_departures.specs.Shown.{shown}
use Rattle.apex_machine.specs.Machine.{Machine, opening, run}
use Rattle.apex_machine.specs.table.Table.{Table}
use Rattle.apex_pictures.specs.declared.Extent.{Extent}
use Rattle.apex_pictures.specs.declared.Mark.{Mark}
use Rattle.apex_pictures.specs.declared.Side.{Side}
use Rattle.apex_pictures.specs.declared.Side.TheVariants.{First, Last}
use Rattle.apex_types.specs.declared.entries.Entry.{Entry}
use Rattle.apex_types.specs.declared.entries.Event.{Event}
use Rattle.apex_views.specs.declared.departures.Departure.{Departure as DepartureIn}
use Rattle.apex_showings.specs.declared.EntryRange.{EntryRange}

-- how a departure is shown: the text of the verdict, the line that the machine expects, and the line
-- that was given
pub record Departure : Type 0 where
  pub verdict : List ℕ
  pub expected : List ℕ
  pub given : List ℕ

-- a departure, of a value of the program
abbrev pub departure_said : DepartureIn → Departure
departure_said departure = record {
  verdict = departure.verdict.items;
  expected = departure.lines.expected.items;
  given = departure.lines.given.items;
}

-- the departure at line n of a text, in place of which the machine expects this entry
abbrev pub departure_at : List ℕ → Table → ℕ → Option Entry → Departure
departure_at text table n expected = record {
  verdict = verdict_text table (DepartsAt n expected);
  expected = expected_text table expected;
  given = shown (part_given false (given_parts text) (n - 1));
}

-- Line n of a text is the first that departs from what the partition does, in place of which the
-- machine expects this entry. The machine is that before it: the lines before line n are those of
-- *run* for its events.
pub record DepartsBehind (text : List ℕ) (table : Table) (n : ℕ) (expected : Option Entry)
    (machine : Machine) : Type 0 where
  pub behind : List ℕ
  pub rest : List ℕ
  pub events : List Event
  pub judges : Judges text table (DepartsAt n expected)
  pub begins : BeginsWithTable text table behind
  pub follows : Follows table behind events rest
  pub many : n ≡ length events + 1
  pub ran : machine ≡ run table (opening table) events

-- the departure behind an entry of this number, if it is the last one of a history with as many
abbrev pub departure_behind : ℕ → ℕ → Option Departure → Option Departure
departure_behind last many None = None
departure_behind last many (Some departure) = if last == many then Some departure else None

-- the side on which entries are drawn, if there are too many: the last ones before a departure
abbrev pub side_before : Option Departure → Side
side_before None = First
side_before (Some departure) = Last

-- The entries that a picture of a range is asked to show, of a history of `entries` entries, behind which
-- there may be a departure, with idle entries folded or not. If it has too many columns, and the
-- departure follows the last entry of the range, the last ones are drawn.
abbrev pub extent_of : Option Departure → ℕ → Bool → EntryRange → Extent
extent_of departure entries fold range = record {
  first = range.first;
  last = range.last;
  side = side_before (departure_behind range.last entries departure);
  fold = fold;
}

-- a picture marks this departure: it shows both lines; or it has no mark, if there is none
abbrev pub Marks : Option Departure → Option Mark → Type 0
Marks None mark = mark ≡ None
Marks (Some departure) None = ⊥
Marks (Some departure) (Some mark) =
    (mark.expected.items ≡ departure.expected) × (mark.given.items ≡ departure.given)
