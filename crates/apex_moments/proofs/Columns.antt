-- Each column says what holds after its entry.
use Rattle.std.proofs.Common.{◌≡◌, ◌∙◌, ◌<◌, ℕ, zero, suc, List, [], ◌∷◌, ◌++◌, None, Some, refl, sym, ap, arith, length, take, add-one, append-nil, append_assoc}
use Rattle.std.specs.Prelude.{slice_get, slice_index_or}
use Rattle.apex_machine.specs.Machine.{Machine, objects_after, opening, run}
use Rattle.apex_machine.specs.processes.Owners.{owner}
use Rattle.apex_machine.specs.processes.Roster.{Roster, opening_roster}
use Rattle.apex_machine.specs.processes.Running.{chosen}
use Rattle.apex_machine.specs.table.Table.{Table}
use Rattle.apex_moments.specs.Counts.{Counts, counts_after, counts_of, count_of}
use Rattle.apex_moments.specs.Instants.{instant_after}
use Rattle.apex_moments.specs.Laws.{ArePictures, CountsAll, Says}
use Rattle.apex_moments.specs.Moments.{Column, Shown, cell_of, column_of, columns_from, moment_of, no_cell, picture}
use Rattle.apex_moments.specs.Terms.{Cell, Entry}
use Rattle.apex_moments.specs.declared.kinds.Kind.TheVariants.{Semaphore, Buffer, Blackboard, EventFlag}
use Rattle.apex_moments.proofs.Pictured.{pictured_opening, pictured_run}
use Rattle.apex_moments.proofs.Places.{found_at, place_of}

-- the entry, the roster and the counts of column k, by the entries before the first
record IsColumn (table : Table) (done entries : List Entry) (rosters : List Roster) (k : ℕ) (column : Column) : Type 0 where
  entry : slice_get entries k ≡ Some column.entry
  begun : column.begun ≡ instant_after (done ++ take k entries)
  instant : column.instant ≡ instant_after (done ++ take (suc k) entries)
  roster : Roster
  after : slice_get rosters k ≡ Some roster
  shown : column.after ≡ moment_of roster (counts_after table roster (done ++ take (suc k) entries))
  before : Roster
  counts : column.before.counts ≡ counts_after table before (done ++ take k entries)

column_at : (table : Table) (done : List Entry) (before : Roster) (entries : List Entry) (rosters : List Roster)
    (k : ℕ) (column : Column) → slice_get (columns_from table done before entries rosters) k ≡ Some column
    → IsColumn table done entries rosters k column
column_at table done before [] rosters k column is = absurd cc
column_at table done before (entry ∷ entries) [] k column is = absurd cc
column_at table done before (entry ∷ entries) (roster ∷ rosters) zero column is =
    let same : column_of table done before entry roster ≡ column = cc in
    record {
      entry = ap (λ (c : Column). Some c.entry) same;
      begun = ap (λ (c : Column). c.begun) (sym same) ∙ ap instant_after (sym (append-nil done));
      instant = ap (λ (c : Column). c.instant) (sym same);
      roster = roster;
      after = refl;
      shown = ap (λ (c : Column). c.after) (sym same);
      before = before;
      counts = ap (λ (c : Column). c.before.counts) (sym same)
          ∙ ap (counts_after table before) (sym (append-nil done));
    }
column_at table done before (entry ∷ entries) (roster ∷ rosters) (suc k) column is =
    let rest = column_at table (done ++ entry ∷ []) roster entries rosters k column is in
    record {
      entry = rest.entry;
      begun = rest.begun ∙ ap instant_after (append_assoc done (entry ∷ []) (take k entries));
      instant = rest.instant ∙ ap instant_after (append_assoc done (entry ∷ []) (take (suc k) entries));
      roster = rest.roster;
      after = rest.after;
      shown = rest.shown ∙ ap (λ (l : List Entry). moment_of rest.roster (counts_after table rest.roster l))
          (append_assoc done (entry ∷ []) (take (suc k) entries));
      before = rest.before;
      counts = rest.counts ∙ ap (counts_after table rest.before) (append_assoc done (entry ∷ []) (take k entries));
    }

-- the counts after these entries are those of all objects
counts_all : (table : Table) (roster : Roster) (done : List Entry) (counts : Counts) → counts ≡ counts_after table roster done
    → CountsAll table done counts
unfolding counts_of
counts_all table roster done counts is =
    let objects = objects_after table done in
    record {
      values = λ s within. ap (λ (c : Counts). slice_get c.values s) is
          ∙ found_at (count_of objects Semaphore) (length table.semaphores) s within;
      contents = λ b within. ap (λ (c : Counts). slice_get c.contents b) is
          ∙ found_at (count_of objects Buffer) (length table.buffers) b within;
      displays = λ b within. ap (λ (c : Counts). slice_get c.displays b) is
          ∙ found_at (count_of objects Blackboard) (length table.blackboards) b within;
      flags = λ e within. ap (λ (c : Counts). slice_get c.flags e) is
          ∙ found_at (count_of objects EventFlag) (length table.event_flags) e within;
    }

-- the owners in these counts are those of the roster
owners_all : (table : Table) (roster : Roster) (done : List Entry) (counts : Counts) → counts ≡ counts_after table roster done
    → (m : ℕ) → m < length table.mutexes → slice_get counts.owners m ≡ Some (owner roster m)
unfolding counts_of
owners_all table roster done counts is m within =
    ap (λ (c : Counts). slice_get c.owners m) is ∙ found_at (owner roster) (length table.mutexes) m within

column_says : (table : Table) (machine : Machine) (k : ℕ) (column : Column)
    → slice_get (picture table machine) k ≡ Some column → Says table machine k column
column_says table machine k column is =
    let found = column_at table [] (opening_roster table) machine.history machine.past k column is in
    let roster = found.roster in
    record {
      entry = found.entry;
      begun = found.begun;
      instant = rw (add-one k) found.instant;
      roster = roster;
      after = found.after;
      state = λ p within. ap (λ (s : Shown). (slice_index_or s.cells p no_cell).state) found.shown
          ∙ ap (λ (c : Cell). c.state) (place_of (cell_of roster) (length roster.records) p no_cell within);
      wait = λ p within. ap (λ (s : Shown). (slice_index_or s.cells p no_cell).wait) found.shown
          ∙ ap (λ (c : Cell). c.wait) (place_of (cell_of roster) (length roster.records) p no_cell within);
      owned = λ p within. ap (λ (s : Shown). (slice_index_or s.cells p no_cell).owned) found.shown
          ∙ ap (λ (c : Cell). c.owned) (place_of (cell_of roster) (length roster.records) p no_cell within);
      running = λ core within. ap (λ (s : Shown). slice_index_or s.running core None) found.shown
          ∙ place_of (chosen roster) 8 core None within;
      owners = λ m within. owners_all table roster (take (suc k) machine.history) _ (ap (λ (s : Shown). s.counts) found.shown) m within;
      counts_after = rw (add-one k) (counts_all table roster _ _ (ap (λ (s : Shown). s.counts) found.shown));
      counts_before = counts_all table found.before _ _ found.counts;
    }

columns_many : (table : Table) (done : List Entry) (before : Roster) (entries : List Entry) (rosters : List Roster)
    → length rosters ≡ length entries → length (columns_from table done before entries rosters) ≡ length entries
columns_many table done before [] rosters same = refl
columns_many table done before (entry ∷ entries) [] same = absurd (omega (arith, same))
columns_many table done before (entry ∷ entries) (roster ∷ rosters) same =
    ap suc (columns_many table (done ++ entry ∷ []) roster entries rosters (omega (arith, same)))

pub pictures : ArePictures
pictures = record {
  many = λ table events. columns_many table [] (opening_roster table) (run table (opening table) events).history
      (run table (opening table) events).past (pictured_run table events (opening table) (pictured_opening table)).many;
  says = column_says;
}
