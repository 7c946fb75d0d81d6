-- The entries of what a log stores.
use Rattle.std.proofs.Common.{◌≡◌, ℕ, zero, suc, ◌+◌, ◌-◌, ◌≤◌, ◌<◌, List, [], ◌∷◌, ◌++◌, length, drop, get_or, slice_get, Option, None, Some, refl, ap, ◌∙◌, arith, add-zero, length-append, length-drop}
use Rattle.std.specs.List.{AllByRecursion, last_or, slice_range}
use Rattle.std.proofs.lemmas.List.{drop-append-le, take-append-le, take_all}
use Rattle.std.proofs.lemmas.Option.{slice_get-get_or}
use Rattle.std.proofs.Math.Seq.{drop-append_seam}
use Rattle.apex_types.specs.declared.limits.TheConstants.{MOST_NOTICES}
use Rattle.apex_history.specs.Terms.{Call, Entry, Notice}
use Rattle.apex_types.proofs.Places.{length-map_places, get_or-map_places}
use Rattle.apex_history.specs.declared.stored.Asked.{Asked}
use Rattle.apex_history.specs.declared.stored.Asked.TheVariants.{For, Nothing}
use Rattle.apex_history.specs.StoredEntries.{StoredParts, caller_in, call_in, entry_of, entries_from, GrowsTo, IsAmong, IsWithin, IsKept}

-- as many as the log stores
pub length_entries : (calls : List Call) (notices : List Notice) (place : ℕ) (stored : List StoredParts)
    → length (entries_from calls notices place stored) ≡ length stored
length_entries calls notices place stored = length-map_places (entry_of calls notices) place stored

-- more notices leave a part of the first ones as it is
part_kept : (notices more : List Notice) (start end : ℕ) → start ≤ end → end ≤ length notices
    → slice_range (notices ++ more) start end ≡ slice_range notices start end
part_kept notices more start end order within =
    let fits : end - start ≤ length (drop start notices) = omega (arith, length-drop start notices, order, within) in
    rw (drop-append-le start notices more (omega (arith, order, within)), take-append-le (end - start) (drop start notices) more fits) refl

-- the part that was put last
part_put : (notices more : List Notice) → slice_range (notices ++ more) (length notices) (length notices + length more) ≡ more
part_put notices more =
    let n : length notices + length more - length notices ≡ length more = omega arith in
    rw (drop-append_seam notices more, n) (take_all (length more) more (omega arith))

-- more of a list leave its first ones as they are
place_kept : {A : Type 0} (xs more : List A) (place : ℕ) → place < length xs → slice_get (xs ++ more) place ≡ slice_get xs place
place_kept [] more place lt = absurd (omega (arith, lt))
place_kept (x ∷ xs) more zero lt = refl
place_kept (x ∷ xs) more (suc place) lt = place_kept xs more place (omega (arith, lt))

-- more calls leave the one at a place as it is
call_kept : (calls more : List Call) (asked : Asked) → IsAmong (length calls) asked → call_in (calls ++ more) asked ≡ call_in calls asked
call_kept calls more (For caller place) among = place_kept calls more place among
call_kept calls more (Nothing caller) among = refl

-- a call stays among more
among_more : (many more : ℕ) (asked : Asked) → many ≤ more → IsAmong many asked → IsAmong more asked
among_more many more (For caller place) le among = omega (arith, among, le)
among_more many more (Nothing caller) le among = tt

-- more calls and notices leave the entries as they are
entries_kept : (calls called : List Call) (notices noted : List Notice) (place : ℕ) (stored : List StoredParts)
    → AllByRecursion (IsWithin (length calls) (length notices)) stored
    → entries_from (calls ++ called) (notices ++ noted) place stored ≡ entries_from calls notices place stored
entries_kept calls called notices noted place [] within = refl
entries_kept calls called notices noted place (item ∷ stored) (here, others) =
    rw (call_kept calls called item.asked here.call, part_kept notices noted item.first_notice item.notices_end here.order here.within, entries_kept calls called notices noted (place + 1) stored others) refl

-- one item more
entries_more : (calls : List Call) (notices : List Notice) (place : ℕ) (stored : List StoredParts) (item : StoredParts)
    → entries_from calls notices place (stored ++ item ∷ []) ≡ entries_from calls notices place stored ++ entry_of calls notices (place + length stored) item ∷ []
entries_more calls notices place [] item = rw (add-zero place) refl
entries_more calls notices place (x ∷ stored) item =
    let e : place + 1 + length stored ≡ place + length (x ∷ stored) = omega arith in
    rw (entries_more calls notices (place + 1) stored item, e) refl

-- an item stays within more calls and notices
item_more : (calls more_calls notices more_notices : ℕ) (item : StoredParts) → calls ≤ more_calls → notices ≤ more_notices
    → IsWithin calls notices item → IsWithin more_calls more_notices item
item_more calls more_calls notices more_notices item le_calls le_notices within = record {
  call = among_more calls more_calls item.asked le_calls within.call;
  order = within.order;
  few = within.few;
  within = omega (arith, within.within, le_notices);
}

-- stored items stay within more calls and notices, and one more is within them
within_more : (calls more_calls notices more_notices : ℕ) (stored : List StoredParts) (item : StoredParts) → calls ≤ more_calls → notices ≤ more_notices
    → AllByRecursion (IsWithin calls notices) stored → IsWithin more_calls more_notices item
    → AllByRecursion (IsWithin more_calls more_notices) (stored ++ item ∷ [])
within_more calls more_calls notices more_notices [] item le_calls le_notices within here = (here, tt)
within_more calls more_calls notices more_notices (x ∷ stored) item le_calls le_notices (first, others) here = (
  item_more calls more_calls notices more_notices x le_calls le_notices first,
  within_more calls more_calls notices more_notices stored item le_calls le_notices others here,
)

-- the item of an entry that comes after these notices
abbrev pub item_of : List Notice → Asked → Entry → StoredParts
item_of notices asked entry = record {
  now = entry.now;
  who = entry.who;
  asked = asked;
  reply = entry.reply;
  first_notice = length notices;
  notices_end = length notices + length entry.notices;
}

-- the entries with one that is put last
pub entries_put : (calls all : List Call) (notices : List Notice) (stored : List StoredParts) (asked : Asked) (entry : Entry) → GrowsTo calls all
    → caller_in asked ≡ entry.process → call_in all asked ≡ entry.call → entry.number ≡ length stored + 1
    → AllByRecursion (IsWithin (length calls) (length notices)) stored
    → entries_from all (notices ++ entry.notices) 0 (stored ++ item_of notices asked entry ∷ []) ≡ entries_from calls notices 0 stored ++ entry ∷ []
entries_put calls all notices stored asked entry (more, e, few) caller call number within =
    let z : 0 + length stored + 1 ≡ entry.number = omega (arith, number) in
    let kept : entries_from all (notices ++ entry.notices) 0 stored ≡ entries_from calls notices 0 stored = rw e (entries_kept calls more notices entry.notices 0 stored within) in
    rw (entries_more all (notices ++ entry.notices) 0 stored (item_of notices asked entry), kept, part_put notices entry.notices, caller, call, z) refl

-- a log that has room for one more is kept with it
pub kept_put : (limit stored_room call_room notice_room more_room : ℕ) (stored : List StoredParts) (calls all : List Call) (notices : List Notice) (asked : Asked) (entry : Entry)
    → IsKept limit stored_room call_room notice_room stored calls notices → GrowsTo calls all → IsAmong (length all) asked
    → length stored < limit → length entry.notices ≤ MOST_NOTICES → notice_room ≤ more_room
    → IsKept limit stored_room call_room more_room (stored ++ item_of notices asked entry ∷ []) all (notices ++ entry.notices)
kept_put limit stored_room call_room notice_room more_room stored calls all notices asked entry kept (added, e, one_call) among room few more =
    let longer = length-append notices entry.notices in
    let called : length all ≡ length calls + length added = rw e (length-append calls added) in
    let one = length-append stored (item_of notices asked entry ∷ []) in
    record {
      limits = kept.limits;
      many = omega (arith, one, room);
      called = omega (arith, one, called, one_call, kept.called);
      noted = omega (arith, one, longer, kept.noted, few);
      rooms = (kept.rooms.0, kept.rooms.1, omega (arith, kept.rooms.2, more));
      within = within_more _ _ _ _ stored (item_of notices asked entry) (omega (arith, called)) (omega (arith, longer)) kept.within
          (record { call = among; order = omega arith; few = omega (arith, few); within = omega (arith, longer) });
    }

-- the item at a place is within
pub within_at : (calls notices : ℕ) (stored : List StoredParts) (place : ℕ) (item : StoredParts) → place < length stored → AllByRecursion (IsWithin calls notices) stored
    → IsWithin calls notices (get_or stored place item)
within_at calls notices [] place item lt within = absurd (omega (arith, lt))
within_at calls notices (x ∷ stored) zero item lt (here, others) = here
within_at calls notices (x ∷ stored) (suc place) item lt (here, others) = within_at calls notices stored place item (omega (arith, lt)) others

-- the entry at a place
pub entry_at : (calls : List Call) (notices : List Notice) (stored : List StoredParts) (place : ℕ) (item : StoredParts) → place < length stored
    → slice_get (entries_from calls notices 0 stored) place ≡ Some (entry_of calls notices place (get_or stored place item))
entry_at calls notices stored place item lt =
    let entries = entries_from calls notices 0 stored in
    let z : 0 + place ≡ place = omega arith in
    let some = entry_of calls notices 0 item in
    slice_get-get_or entries place some (omega (arith, length_entries calls notices 0 stored, lt))
    ∙ ap Some (get_or-map_places (entry_of calls notices) 0 stored place item some lt ∙ rw z refl)

-- the last one of a list
pub last_put : {A : Type 0} (o : Option A) (xs : List A) (x : A) → last_or o (xs ++ x ∷ []) ≡ Some x
last_put o [] x = refl
last_put o (y ∷ xs) x = last_put (Some y) xs x

-- the entry of the last item
pub last_entry : (calls : List Call) (notices : List Notice) (place : ℕ) (stored : List StoredParts) (item : StoredParts)
    → last_or None (entries_from calls notices place (stored ++ item ∷ [])) ≡ Some (entry_of calls notices (place + length stored) item)
last_entry calls notices place stored item =
    rw (entries_more calls notices place stored item) (last_put None (entries_from calls notices place stored) (entry_of calls notices (place + length stored) item))

-- the last item is within
pub within_last : (calls notices : ℕ) (stored : List StoredParts) (item : StoredParts) → AllByRecursion (IsWithin calls notices) (stored ++ item ∷ []) → IsWithin calls notices item
within_last calls notices [] item (here, others) = here
within_last calls notices (x ∷ stored) item (first, others) = within_last calls notices stored item others
