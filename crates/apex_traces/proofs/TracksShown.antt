-- What a trace shows of a moment gives the text of the moment.
use Rattle.std.proofs.Common.{◌≡◌, ◌∙◌, ℕ, zero, suc, ◌<◌, true, false, List, [], ◌∷◌, ◌++◌, Option, None, Some, refl, sym, ap, append-nil, append_assoc}
use Rattle.std.proofs.lemmas.Bool.{eq-eqb, eqb-true}
use Rattle.std.proofs.lemmas.List.{map-append}
use Rattle.std.specs.Prelude.{Bool, map, flat_map, length, slice_get, slice_index_or, codes, is_some, if◌then◌else◌}
use Rattle.apex_machine.specs.text.Listing.{texts_of}
use Rattle.apex_machine.specs.processes.Roster.{Roster, record_at}
use Rattle.apex_machine.specs.processes.Running.{chosen, is_process, process_state}
use Rattle.apex_machine.proofs.States.{is_found}
use Rattle.apex_store.proofs.States.{running_chosen}
use Rattle.apex_machine.specs.table.Table.{Table}
use Rattle.apex_types.specs.declared.modes.State.TheVariants as states
use Rattle.apex_traces.specs.Trace.{objects_text}
use Rattle.apex_traces.specs.Arrows.{arrow_id, goal_of, has_slice, head_at, head_of, head_to, roused, tail_at, tail_of, tail_to}
use Rattle.apex_traces.specs.Calls.{call_of}
use Rattle.apex_moments.specs.Counts.{Counts}
use Rattle.apex_moments.specs.Moments.{Shown, cell_of, moment_of, no_cell, none_shown, running_in, same_process}
use Rattle.apex_moments.specs.Places.{of_places}
use Rattle.apex_moments.specs.Terms.{Caller, Entry, Notice, State}
use Rattle.apex_moments.specs.declared.moments.Cell.{Cell}
use Rattle.apex_traces.specs.Trace as trace
use Rattle.apex_traces.specs.Tracks.{bare, bare_cell, bare_cells, cell_on, track_of}
use Rattle.apex_moments.specs.Words.{notice_word}
use Rattle.apex_traces.specs.declared.calls.Lasting.{Lasting}
use Rattle.apex_traces.specs.Beings.{being_in, being_of, is_begun, same_being}
use Rattle.apex_traces.specs.declared.beings.Being.{Being}
use Rattle.apex_traces.specs.declared.beings.Being.TheVariants.{Dormant, Ready, Running, Waiting, Normal, Start, Time, Period, Semaphore, Buffer, Blackboard, EventFlag, Mutex}
use Rattle.apex_moments.proofs.Places.{place_of}

-- the values of places, changed one by one
map_places : {A B : Type 0} → (f : A → B) (g : ℕ → A) (n : ℕ) → map f (of_places g n) ≡ of_places (λ i. f (g i)) n
map_places f g zero = refl
map_places f g (suc n) =
    map-append f (of_places g n) (g n ∷ []) ∙ ap (λ l. l ++ f (g n) ∷ []) (map_places f g n)

-- the tracks of all processes show what a trace shows of their cells
tracks_shown : (roster : Roster) (n : ℕ) (tracks : List Being) → tracks ≡ of_places (track_of roster) n
    → map cell_on tracks ≡ map bare_cell (of_places (cell_of roster) n)
tracks_shown roster n tracks is =
    ap (map cell_on) is ∙ map_places cell_on (track_of roster) n
    ∙ sym (map_places bare_cell (cell_of roster) n)

-- a moment of these
abbrev pub shown_of : List Cell → List (Option ℕ) → Counts → Shown
shown_of cells running counts = record { cells = cells; running = running; counts = counts }

-- the tracks of all processes, the process that each core runs, and the counts
pub tracks_same : (roster : Roster) (tracks : List Being) (running : List (Option ℕ)) (counts : Counts)
    → tracks ≡ of_places (track_of roster) (length roster.records) → running ≡ running_in roster
    → shown_of (map cell_on tracks) running counts ≡ bare (moment_of roster counts)
tracks_same roster tracks running counts is runs =
    ap (λ cells. shown_of cells running counts) (tracks_shown roster (length roster.records) tracks is)
    ∙ ap (λ all. shown_of (map bare_cell (of_places (cell_of roster) (length roster.records))) all counts) runs

-- a cell that shows this shows it
being_on : (being : Being) → being_in (cell_on being) ≡ being
being_on Dormant = refl
being_on Ready = refl
being_on Running = refl
being_on Waiting = refl
being_on Normal = refl
being_on Start = refl
being_on Time = refl
being_on Period = refl
being_on (Semaphore s) = refl
being_on (Buffer b) = refl
being_on (Blackboard b) = refl
being_on (EventFlag e) = refl
being_on (Mutex m) = refl

-- a track shows what the cell shows
pub track_seen : (tracks : List Being) (p : ℕ)
    → slice_index_or tracks p Dormant ≡ being_in (slice_index_or (map cell_on tracks) p no_cell)
track_seen [] p = refl
track_seen (track ∷ tracks) zero = sym (being_on track)
track_seen (track ∷ tracks) (suc p) = track_seen tracks p

-- what a trace shows of the cell of a process
cell_bare : (cells : List Cell) (p : ℕ)
    → slice_index_or (map bare_cell cells) p no_cell ≡ bare_cell (slice_index_or cells p no_cell)
cell_bare [] p = refl
cell_bare (cell ∷ cells) zero = refl
cell_bare (cell ∷ cells) (suc p) = cell_bare cells p

-- what the track of a process shows after an entry
pub track_now : (roster : Roster) (p : ℕ) → p < length roster.records
    → track_of roster p ≡ being_in (slice_index_or (bare_cells roster) p no_cell)
track_now roster p within =
    sym (being_on (track_of roster p))
    ∙ sym (ap being_in (cell_bare (of_places (cell_of roster) (length roster.records)) p
    ∙ ap bare_cell (place_of (cell_of roster) (length roster.records) p no_cell within)))

-- the slice shows the same of a cell and of what a trace shows of it
being_bare : (cells : List Cell) (p : ℕ)
    → being_in (slice_index_or (map bare_cell cells) p no_cell) ≡ being_in (slice_index_or cells p no_cell)
being_bare cells p = ap being_in (cell_bare cells p) ∙ being_on (being_in (slice_index_or cells p no_cell))

-- texts that are the same one by one
texts_same : (f g : ℕ → List ℕ) (n : ℕ) → ((i : ℕ) → f i ≡ g i) → texts_of f n ≡ texts_of g n
texts_same f g zero same = refl
texts_same f g (suc n) same =
    ap (λ l. l ++ f n) (texts_same f g n same) ∙ ap (λ l. texts_of g n ++ l) (same n)

process_same : (table : Table) (time : ℕ) (before after : Shown) (p : ℕ)
    → trace.process_at table time (bare before) (bare after) p ≡ trace.process_at table time before after p
process_same table time before after p =
    ap (λ (b : Being). trace.process_text table (trace.process_spot p time) b (being_in (trace.cell_at (bare after) p)))
    (being_bare before.cells p)
    ∙ ap (λ (b : Being). trace.process_text table (trace.process_spot p time) (being_in (trace.cell_at before p)) b)
    (being_bare after.cells p)

-- the changes on all tracks
changes_same : (table : Table) (time : ℕ) (before after : Shown)
    → trace.changes_text table time (bare before) (bare after) ≡ trace.changes_text table time before after
changes_same table time before after =
    ap (λ l. texts_of (trace.core_at table time before after) table.cores ++ l)
    (texts_same (trace.process_at table time (bare before) (bare after)) (trace.process_at table time before after)
    (length table.processes) (process_same table time before after))

-- a process has a slice
slice_same : (shown : Shown) (p : ℕ) → has_slice (bare shown) p ≡ has_slice shown p
slice_same shown p = ap is_begun (being_bare shown.cells p)

-- the arrows are the same at two moments at which the same processes have slices
goal_same : (one other : Shown) → ((p : ℕ) → has_slice one p ≡ has_slice other p) → (roused : Option ℕ)
    → goal_of one roused ≡ goal_of other roused
goal_same one other same None = refl
goal_same one other same (Some p) = ap (λ (yes : Bool). if yes then Some p else None) (same p)

tail_same : (caller : Caller) (time : ℕ) (one other : Shown) → ((p : ℕ) → has_slice one p ≡ has_slice other p)
    → (id : ℕ) (notice : Option Notice) → tail_of caller time one id notice ≡ tail_of caller time other id notice
tail_same caller time one other same id None = refl
tail_same caller time one other same id (Some notice) =
    ap (tail_to caller time id (notice_word notice)) (goal_same one other same (roused notice))

head_same : (time : ℕ) (one other : Shown) → ((p : ℕ) → has_slice one p ≡ has_slice other p)
    → (id : ℕ) (notice : Option Notice) → head_of time one id notice ≡ head_of time other id notice
head_same time one other same id None = refl
head_same time one other same id (Some notice) =
    ap (head_to time id (notice_word notice)) (goal_same one other same (roused notice))

-- the slice of an entry and the beginnings of its arrows
pub call_same : (table : Table) (lasting : Lasting) (entry : Entry) (one other : Shown)
    → ((p : ℕ) → has_slice one p ≡ has_slice other p)
    → trace.call_text table lasting entry one ≡ trace.call_text table lasting entry other
call_same table lasting entry one other same =
    let caller = entry.process in
    let number = entry.number in
    let notices = entry.notices in
    ap (λ l. call_of table lasting entry ++ l)
    (texts_same (tail_at caller lasting.begin one number notices) (tail_at caller lasting.begin other number notices) (length notices)
    (λ i. tail_same caller lasting.begin one other same (arrow_id number i) (slice_get notices i)))

-- the marks of an entry's notices and the ends of its arrows
pub notices_same : (time : ℕ) (entry : Entry) (one other : Shown) → ((p : ℕ) → has_slice one p ≡ has_slice other p)
    → trace.notices_text time entry one ≡ trace.notices_text time entry other
notices_same time entry one other same =
    let number = entry.number in
    let notices = entry.notices in
    ap (λ l. flat_map (trace.marked_text time) notices ++ l)
    (texts_same (head_at time one number notices) (head_at time other number notices) (length notices)
    (λ i. head_same time one other same (arrow_id number i) (slice_get notices i)))

-- the parts of a column, one behind the other
pub column_whole : (table : Table) (lasting : Lasting) (before : Shown) (entry : Entry) (after : Shown)
    (text one two three four five : List ℕ)
    → one ≡ text ++ trace.call_text table lasting entry after
    → two ≡ one ++ texts_of (trace.core_at table lasting.end before after) table.cores
    → three ≡ two ++ texts_of (trace.process_at table lasting.end before after) (length table.processes)
    → four ≡ three ++ objects_text table lasting.end before.counts after.counts
    → five ≡ four ++ trace.notices_text lasting.end entry after
    → five ≡ text ++ trace.column_text table lasting before entry after
column_whole table lasting before entry after text one two three four five u v w x y =
    let call = trace.call_text table lasting entry after in
    let cores = texts_of (trace.core_at table lasting.end before after) table.cores in
    let processes = texts_of (trace.process_at table lasting.end before after) (length table.processes) in
    let objects = objects_text table lasting.end before.counts after.counts in
    let notices = trace.notices_text lasting.end entry after in
    let changed = call ++ (cores ++ processes) in
    let first = w ∙ ap (λ l. l ++ processes) (v ∙ ap (λ l. l ++ cores) u)
    ∙ append_assoc (text ++ call) cores processes ∙ append_assoc text call (cores ++ processes) in
    y ∙ ap (λ l. l ++ notices) (x ∙ ap (λ l. l ++ objects) first ∙ append_assoc text changed objects)
    ∙ append_assoc text (changed ++ objects) notices

-- the text of a column
pub column_same : (table : Table) (lasting : Lasting) (before : Shown) (entry : Entry) (after : Shown)
    → trace.column_text table lasting (bare before) entry (bare after) ≡ trace.column_text table lasting before entry after
column_same table lasting before entry after =
    let objects = objects_text table lasting.end before.counts after.counts in
    let notices = trace.notices_text lasting.end entry (bare after) in
    ap (λ l. l ++ trace.changes_text table lasting.end (bare before) (bare after) ++ objects ++ notices)
    (call_same table lasting entry (bare after) after (slice_same after))
    ∙ ap (λ l. trace.call_text table lasting entry after ++ l ++ objects ++ notices)
    (changes_same table lasting.end before after)
    ∙ ap (λ l. trace.call_text table lasting entry after ++ trace.changes_text table lasting.end before after ++ objects ++ l)
    (notices_same lasting.end entry (bare after) after (slice_same after))

-- what comes after the columns
pub foot_same : (table : Table) (time : ℕ) (last : Shown)
    → trace.foot_text table time (bare last) ≡ trace.foot_text table time last
foot_same table time last =
    ap (λ l. l ++ trace.mutexes_text table time last.counts.owners [] ++ codes "\n]}\n") (changes_same table time last none_shown)

-- two processes that are the same
pub same_found : (before after : Option ℕ) → same_process before after ≡ true → before ≡ after
same_found None None is = refl
same_found None (Some q) is = cc
same_found (Some p) None is = cc
same_found (Some p) (Some q) is = ap Some (eqb-true p q is)

-- the track of a process that its core runs
pub track_running : (roster : Roster) (core p : ℕ) (running : Option ℕ) → running ≡ chosen roster core
    → is_process p running ≡ true → track_of roster p ≡ Running
track_running roster core p running is found =
    let chose : chosen roster core ≡ Some p = sym is ∙ is_found p running found in
    ap (λ (s : State). being_of s (record_at roster p).wait) ((running_chosen roster p).running core chose)

-- the track of a ready process
pub track_ready : (roster : Roster) (p : ℕ) → process_state roster p ≡ states.Ready → track_of roster p ≡ Ready
track_ready roster p is = ap (λ (s : State). being_of s (record_at roster p).wait) is

same_as_itself : (being : Being) → same_being being being ≡ true
same_as_itself Dormant = refl
same_as_itself Ready = refl
same_as_itself Running = refl
same_as_itself Waiting = refl
same_as_itself Normal = refl
same_as_itself Start = refl
same_as_itself Time = refl
same_as_itself Period = refl
same_as_itself (Semaphore s) = eq-eqb s s refl
same_as_itself (Buffer b) = eq-eqb b b refl
same_as_itself (Blackboard b) = eq-eqb b b refl
same_as_itself (EventFlag e) = eq-eqb e e refl
same_as_itself (Mutex m) = eq-eqb m m refl

-- nothing is put if the track of a process shows what it showed
pub process_still : (table : Table) (time p : ℕ) (before after : Being) (text : List ℕ) → before ≡ after
    → text ≡ text ++ trace.process_text table (trace.process_spot p time) before after
process_still table time p before after text is =
    let nothing : trace.process_text table (trace.process_spot p time) before after ≡ [] = rw (is, same_as_itself after) refl in
    sym (append-nil text) ∙ ap (λ (l : List ℕ). text ++ l) (sym nothing)

-- nothing is put if a core runs the process that it ran
pub core_still : (table : Table) (time core : ℕ) (before after was is : Option ℕ) (text : List ℕ) → before ≡ was → after ≡ is
    → same_process before after ≡ true
    → text ≡ text ++ trace.core_text table (trace.core_spot core time) was is
core_still table time core before after was is text v w same =
    let nothing : trace.core_text table (trace.core_spot core time) was is ≡ [] = rw (← v, ← w, same) refl in
    sym (append-nil text) ∙ ap (λ (l : List ℕ). text ++ l) (sym nothing)

-- the end of a slice and the beginning of the next one are put if it runs another one
pub core_switched : (table : Table) (time core : ℕ) (before after was is : Option ℕ) (text whole : List ℕ) → before ≡ was → after ≡ is
    → same_process before after ≡ false
    → whole ≡ text ++ (trace.ended (is_some before) (trace.core_spot core time) ++ trace.run_of table (trace.core_spot core time) after)
    → whole ≡ text ++ trace.core_text table (trace.core_spot core time) was is
core_switched table time core before after was is text whole v w differs put = rw (← v, ← w, differs) put
