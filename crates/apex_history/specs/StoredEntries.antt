-- The entries as a log keeps them: an item for each, and in two lists the calls and the notices of all
-- of them.
use Rattle.std.specs.Prelude.{◌≡◌, ℕ, ◌+◌, ◌*◌, ◌<◌, ◌≤◌, List, ◌++◌, Option, None, length, slice_get}
use Rattle.std.specs.List.{AllByRecursion, slice_range}
use Rattle.apex_history.specs.Terms.{Call, Caller, Entry, Notice, Reply, Who}
use Rattle.apex_history.specs.declared.stored.Asked.{Asked}
use Rattle.apex_history.specs.declared.stored.Asked.TheVariants.{For, Nothing}
use Rattle.apex_types.specs.declared.limits.TheConstants.{MOST_ENTRIES, MOST_NOTICES}
use Rattle.apex_types.specs.Places.{map_places}

-- the caller
abbrev pub caller_in : Asked → Caller
caller_in (For caller place) = caller
caller_in (Nothing caller) = caller

-- the call, if there is one: it is at its place in the list
abbrev pub call_in : List Call → Asked → Option Call
call_in calls (For caller place) = slice_get calls place
call_in calls (Nothing caller) = None

-- the call, if there is one, is among the first `many`
abbrev pub IsAmong : ℕ → Asked → Type 0
IsAmong many (For caller place) = place < many
IsAmong many (Nothing caller) = Unit {0}

-- calls, and the number of calls for which there is memory
pub record CallList : Type 0 where
  pub calls : List Call
  pub room : ℕ

-- the calls stay as they are, and at most one comes behind them
abbrev pub GrowsTo : List Call → List Call → Type 0
GrowsTo old new = (more : List Call) × (new ≡ old ++ more) × (length more ≤ 1)

-- an entry without its number, which is its place, with the place of its call, and with its notices
-- as a part of a list
pub record StoredParts : Type 0 where
  pub now : ℕ
  pub who : Who
  pub asked : Asked
  pub reply : Reply
  pub first_notice : ℕ
  pub notices_end : ℕ

-- the entry of the item at this place, counted from 0
abbrev pub entry_of : List Call → List Notice → ℕ → StoredParts → Entry
entry_of calls notices place item = record {
  number = place + 1;
  now = item.now;
  who = item.who;
  process = caller_in item.asked;
  call = call_in calls item.asked;
  reply = item.reply;
  notices = slice_range notices item.first_notice item.notices_end;
}

-- the entries of the stored items; the first item is at this place
abbrev pub entries_from : List Call → List Notice → ℕ → List StoredParts → List Entry
entries_from calls notices place stored = map_places (entry_of calls notices) place stored

-- the item's call is among the first `calls` ones, and its notices are a part of the first `notices`
-- ones, and no more than an event's
pub record IsWithin (calls notices : ℕ) (item : StoredParts) : Type 0 where
  pub call : IsAmong calls item.asked
  pub order : item.first_notice ≤ item.notices_end
  pub few : item.notices_end ≤ item.first_notice + MOST_NOTICES
  pub within : item.notices_end ≤ notices

-- the facts that each log keeps: it has no more calls than entries, and the room for its limit of entries,
-- for a call of each and for the notices of each
pub record IsKept (limit stored_room call_room notice_room : ℕ) (stored : List StoredParts)
    (calls : List Call) (notices : List Notice) : Type 0 where
  pub limits : (1 ≤ limit) × (limit ≤ MOST_ENTRIES)
  pub many : length stored ≤ limit
  pub called : length calls ≤ length stored
  pub noted : length notices ≤ MOST_NOTICES * length stored
  pub rooms : (limit ≤ stored_room) × (limit ≤ call_room) × (MOST_NOTICES * limit ≤ notice_room)
  pub within : AllByRecursion (IsWithin (length calls) (length notices)) stored
