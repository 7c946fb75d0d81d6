-- The entries that the worker of a core, and that of the ticker, have made.
use Rattle.std.specs.Prelude.{◌≡◌, ℕ, ◌<◌, Bool, true, false, List, [], ◌∷◌, ◌++◌, length, All}
use Rattle.apex_types.specs.declared.entries.Entry.{Entry}
use Rattle.apex_receipts.specs.Receipts.{Confirmed, Spoken}
use Rattle.apex_partition.specs.Seats.{asked_ticks}

-- these entries were made with the seat, and no others
pub record HasMade (before : Spoken) (entries : List Entry) (after : Spoken) : Type 0 where
  pub who : after.who ≡ before.who
  pub own : after.own ≡ before.own ++ entries

-- all that were wanted were made; or fewer, if the history was full, and then the seat knows that
-- it is
pub record HasStopped (before : Spoken) (wanted : ℕ) (after : Spoken) (count : ℕ)
    (full : Bool) : Type 0 where
  pub whole : full ≡ false → (count ≡ wanted) × (after.told ≡ before.told)
  pub cut : full ≡ true → (count < wanted) × (after.told ≡ true)

-- a worker that was to make `wanted` turns has made `count`
pub record HasRun (before : Spoken) (wanted : ℕ) (after : Spoken) (count : ℕ)
    (full : Bool) : Type 0 where
  pub entries : List Entry
  pub made : HasMade before entries after
  pub counted : length entries ≡ count
  pub stopped : HasStopped before wanted after count full

-- the entry is a tick of 1
abbrev pub IsTickOfOne : Entry → Type 0
IsTickOfOne e = asked_ticks e ≡ 1

-- a worker that was to make `wanted` ticks has made `count`, each one of 1
pub record HasTicked (before : Spoken) (wanted : ℕ) (after : Spoken) (count : ℕ)
    (full : Bool) : Type 0 where
  pub ran : HasRun before wanted after count full
  pub ones : All IsTickOfOne ran.entries

-- the receipt is that of the last entry made with the seat, and its place is the number of them
pub record IsLast (seat : Spoken) (receipt : Confirmed) : Type 0 where
  pub before : List Entry
  pub last : seat.own ≡ before ++ receipt.entry ∷ []
  pub place : receipt.place ≡ length seat.own
