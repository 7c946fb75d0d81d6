-- The entries of a history that the seats of a partition and its ticker have made.
use Rattle.std.specs.Prelude.{◌≡◌, ℕ, ◌+◌, ◌<◌, true, List, [], ◌∷◌, ◌++◌, length, sum_by, ⊤}
use Rattle.apex_types.specs.declared.entries.Entry.{Entry}
use Rattle.apex_types.specs.declared.entries.Event.{Event}
use Rattle.apex_types.specs.declared.entries.Who.{Who}
use Rattle.apex_types.specs.declared.entries.Who.TheVariants.{Core, Ticker}
use Rattle.apex_machine.specs.Machine.{asked_ticks as asked_in, opening, run}
use Rattle.apex_machine.specs.table.Table.{Table}
use Rattle.apex_receipts.specs.Receipts.{Confirmed, Spoken, own_entries, with_entry}

-- the history is that of a run of the table from its opening, for some list of events
abbrev pub IsRun : Table → List Entry → Type 0
IsRun table history = (events : List Event) × ((run table (opening table) events).history ≡ history)

-- the ticks that an entry asks for; a core's asks for none
abbrev pub asked_ticks : Entry → ℕ
asked_ticks e = asked_in e.reply

-- the ticks that these entries ask for, in all
abbrev pub ticks_asked : List Entry → ℕ
ticks_asked entries = sum_by asked_ticks entries

-- the receipt is of the entry that was made with the seat: the seat has one entry more
abbrev pub IsReceiptOf : Spoken → Confirmed → Spoken → Type 0
IsReceiptOf before receipt after =
    (after ≡ with_entry before receipt.entry) × (receipt.entry.who ≡ before.who)
    × (receipt.place ≡ length before.own + 1)

-- the seats of the cores from this one on, in order
abbrev pub AreSeatsFrom : ℕ → List Spoken → Type 0
AreSeatsFrom core [] = ⊤
AreSeatsFrom core (seat ∷ seats) = (seat.who ≡ Core core) × AreSeatsFrom (core + 1) seats

-- a seat of each core, in order, from core 0 on
abbrev pub IsSeated : List Spoken → Type 0
IsSeated seats = AreSeatsFrom 0 seats

-- the history's entries of this core, or of the ticker, are those that the seat made and no others;
-- and if the seat knows that the history is full, the history is at its limit
pub record IsSettled (table : Table) (history : List Entry) (who : Who)
    (seat : Spoken) : Type 0 where
  pub own : own_entries who history ≡ seat.own
  pub told : seat.told ≡ true → length history ≡ table.limit

-- the maker is a core below this number, or the ticker
abbrev pub IsOneOf : ℕ → Who → Type 0
IsOneOf cores (Core core) = core < cores
IsOneOf cores Ticker = ⊤

-- the entry is the one that this core, or the ticker, has added to the history before
pub record IsLatest (before : List Entry) (who : Who) (e : Entry)
    (history : List Entry) : Type 0 where
  pub added : history ≡ before ++ e ∷ []
  pub by : e.who ≡ who
  pub number : e.number ≡ length before + 1
