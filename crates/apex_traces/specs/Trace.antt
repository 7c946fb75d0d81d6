-- A picture as a trace in the Trace Event Format, which is JSON. The groups of tracks are the cores (1), the
-- processes (2), the objects (3), of which the mutexes have tracks and the others counters, and the partition
-- (4), with tracks of the init list and of the ticks. The axis has microseconds, and times are nanoseconds.
use Rattle.std.specs.Prelude.{ℕ, ◌+◌, Bool, List, [], ◌∷◌, ◌++◌, Option, None, Some, is_some, codes, decimal, flat_map, length, slice_index_or, if◌then◌else◌}
use Rattle.apex_machine.specs.text.Texts.{id_text, mutex_name, process_name}
use Rattle.apex_calls.specs.Lines.{code_text, deadline_text}
use Rattle.apex_machine.specs.text.Listing.{texts_of}
use Rattle.apex_machine.specs.table.Table.{Table}
use Rattle.apex_types.specs.declared.entries.Notice.TheVariants.{Woken, Released, Missed}
use Rattle.apex_traces.specs.Arrows.{heads_of, tails_of}
use Rattle.apex_traces.specs.Calls.{call_of}
use Rattle.apex_traces.specs.Counters.{counters_text}
use Rattle.apex_moments.specs.Counts.{Counts, no_counts}
use Rattle.apex_traces.specs.Times.{time_text}
use Rattle.apex_moments.specs.Moments.{Shown, no_cell, none_shown, same_process}
use Rattle.apex_traces.specs.Stamps.{begin_back, group_number}
use Rattle.apex_moments.specs.Texts.{texts}
use Rattle.apex_moments.specs.Words.{profile_number}
use Rattle.apex_moments.specs.Terms.{Entry, Notice}
use Rattle.apex_moments.specs.declared.moments.Cell.{Cell}
use Rattle.apex_traces.specs.Beings.{being_in, being_name, is_begun, same_being}
use Rattle.apex_traces.specs.declared.beings.Being.{Being}
use Rattle.apex_json.specs.Strings.{json_text}
use Rattle.apex_traces.specs.declared.calls.Lasting.{Lasting}
use Rattle.apex_traces.specs.declared.stamps.Group.TheVariants.{Cores, Processes, Objects}
use Rattle.apex_traces.specs.declared.trace.Spot.{Spot}
use Rattle.apex_traces.specs.declared.trace.TheConstants.{VERSION}

-- the name of a core's track, and its place among those of the cores
unfoldable pub core_name_text : ℕ → List ℕ
core_name_text core = texts (
    codes ",\n{\"ph\":\"M\",\"pid\":1,\"tid\":" ∷ decimal core
    ∷ codes ",\"name\":\"thread_name\",\"args\":{\"name\":\"core " ∷ decimal core
    ∷ codes "\"}},\n{\"ph\":\"M\",\"pid\":1,\"tid\":" ∷ decimal core
    ∷ codes ",\"name\":\"thread_sort_index\",\"args\":{\"sort_index\":" ∷ decimal core ∷ codes "}}" ∷ [])

-- the name of a process's track, and its place among those of the processes
unfoldable pub process_name_text : Table → ℕ → List ℕ
process_name_text table p = texts (
    codes ",\n{\"ph\":\"M\",\"pid\":2,\"tid\":" ∷ id_text p
    ∷ codes ",\"name\":\"thread_name\",\"args\":{\"name\":\"" ∷ json_text (process_name table p)
    ∷ codes "\"}},\n{\"ph\":\"M\",\"pid\":2,\"tid\":" ∷ id_text p
    ∷ codes ",\"name\":\"thread_sort_index\",\"args\":{\"sort_index\":" ∷ id_text p ∷ codes "}}" ∷ [])

-- the name of a mutex's track, and its place among those of the mutexes
unfoldable pub mutex_name_text : Table → ℕ → List ℕ
mutex_name_text table m = texts (
    codes ",\n{\"ph\":\"M\",\"pid\":3,\"tid\":" ∷ id_text m
    ∷ codes ",\"name\":\"thread_name\",\"args\":{\"name\":\"mutex " ∷ json_text (mutex_name table m)
    ∷ codes "\"}},\n{\"ph\":\"M\",\"pid\":3,\"tid\":" ∷ id_text m
    ∷ codes ",\"name\":\"thread_sort_index\",\"args\":{\"sort_index\":" ∷ id_text m ∷ codes "}}" ∷ [])

-- the beginning of the file: the unit of the ruler, the program, its version and the table's profile, the names of the
-- groups, and the tracks of the init list and of the ticks
unfoldable pub opening_text : Table → List ℕ
opening_text table = texts (
    codes "{\"displayTimeUnit\":\"ms\",\"otherData\":{\"program\":\"apex\",\"version\":\"" ∷ VERSION.now
    ∷ codes "\",\"profile\":"
    ∷ decimal (profile_number table.profile)
    ∷ codes "},\"traceEvents\":[\n{\"ph\":\"M\",\"pid\":1,\"name\":\"process_name\",\"args\":{\"name\":\"cores\"}},\n{\"ph\":\"M\",\"pid\":2,\"name\":\"process_name\",\"args\":{\"name\":\"processes\"}},\n{\"ph\":\"M\",\"pid\":3,\"name\":\"process_name\",\"args\":{\"name\":\"objects\"}},\n{\"ph\":\"M\",\"pid\":4,\"name\":\"process_name\",\"args\":{\"name\":\"partition\"}},\n{\"ph\":\"M\",\"pid\":4,\"tid\":1,\"name\":\"thread_name\",\"args\":{\"name\":\"init\"}},\n{\"ph\":\"M\",\"pid\":4,\"tid\":1,\"name\":\"thread_sort_index\",\"args\":{\"sort_index\":1}},\n{\"ph\":\"M\",\"pid\":4,\"tid\":2,\"name\":\"thread_name\",\"args\":{\"name\":\"ticks\"}},\n{\"ph\":\"M\",\"pid\":4,\"tid\":2,\"name\":\"thread_sort_index\",\"args\":{\"sort_index\":2}}" ∷ [])

-- what comes before the columns: the names of the tracks, and all counts of the moment before the first entry
abbrev pub head_text : Table → Shown → List ℕ
head_text table first =
    opening_text table ++ texts_of core_name_text table.cores
    ++ texts_of (process_name_text table) (length table.processes)
    ++ texts_of (mutex_name_text table) (length table.mutexes)
    ++ counters_text table 0 no_counts first.counts

-- the end of a slice
unfoldable pub end_text : Spot → List ℕ
end_text spot = texts (
    codes ",\n{\"ph\":\"E\",\"pid\":" ∷ decimal (group_number spot.group) ∷ codes ",\"tid\":" ∷ decimal spot.track
    ∷ codes ",\"ts\":" ∷ time_text spot.time ∷ codes "}" ∷ [])

-- the beginning of a slice, up to its name
unfoldable pub begin_text : Spot → List ℕ
begin_text spot = texts (
    codes ",\n{\"ph\":\"B\",\"pid\":" ∷ decimal (group_number spot.group) ∷ codes ",\"tid\":" ∷ decimal spot.track
    ∷ codes ",\"ts\":" ∷ time_text spot.time ∷ codes ",\"name\":\"" ∷ [])

-- the name of the slice of a process that a core runs
unfoldable pub run_name_text : Table → ℕ → List ℕ
run_name_text table p =
    texts (id_text p ∷ codes " " ∷ json_text (process_name table p) ∷ codes "\"}" ∷ [])

-- the slice of a process that a core begins to run
abbrev pub run_text : Table → Spot → ℕ → List ℕ
run_text table spot p = begin_text spot ++ run_name_text table p

-- the slice of this name
abbrev pub slice_text : Spot → List ℕ → List ℕ
slice_text spot word = begin_text spot ++ word ++ codes "\"}"

-- the slice of a process; a dormant one has none
abbrev pub being_text : Table → Spot → Being → List ℕ
being_text table spot being =
    if is_begun being then slice_text spot (being_name table being) else []

-- the slice of the process that a core runs, if it runs one
abbrev pub run_of : Table → Spot → Option ℕ → List ℕ
run_of table spot None = []
run_of table spot (Some p) = run_text table spot p

-- the slice of a mutex's owner, if it has one
abbrev pub owned_text : Table → Spot → Option ℕ → List ℕ
owned_text table spot None = []
owned_text table spot (Some p) = slice_text spot (json_text (process_name table p))

-- the end of a slice, if there is one
abbrev pub ended : Bool → Spot → List ℕ
ended begun spot = if begun then end_text spot else []

-- the changes on the track of a core
abbrev pub core_text : Table → Spot → Option ℕ → Option ℕ → List ℕ
core_text table spot before after =
    if same_process before after then []
    else ended (is_some before) spot ++ run_of table spot after

-- the changes on the track of a mutex, by its owner before and after
abbrev pub mutex_text : Table → Spot → Option ℕ → Option ℕ → List ℕ
mutex_text table spot before after =
    if same_process before after then []
    else ended (is_some before) spot ++ owned_text table spot after

-- the changes on the track of a process, by what its slice showed and what it shows
abbrev pub process_text : Table → Spot → Being → Being → List ℕ
process_text table spot before after =
    if same_being before after then []
    else ended (is_begun before) spot ++ being_text table spot after

-- the track of a core
abbrev pub core_spot : ℕ → ℕ → Spot
core_spot core time = record { group = Cores; track = core; time = time }

-- the track of process p
abbrev pub process_spot : ℕ → ℕ → Spot
process_spot p time = record { group = Processes; track = p + 1; time = time }

-- the track of mutex m
abbrev pub mutex_spot : ℕ → ℕ → Spot
mutex_spot m time = record { group = Objects; track = m + 1; time = time }

-- the changes on the track of this core
abbrev pub core_at : Table → ℕ → Shown → Shown → ℕ → List ℕ
core_at table time before after core =
    core_text table (core_spot core time)
    (slice_index_or before.running core None) (slice_index_or after.running core None)

-- the cell of process p of a moment
abbrev pub cell_at : Shown → ℕ → Cell
cell_at shown p = slice_index_or shown.cells p no_cell

-- the changes on the track of process p
abbrev pub process_at : Table → ℕ → Shown → Shown → ℕ → List ℕ
process_at table time before after p =
    process_text table (process_spot p time)
    (being_in (cell_at before p)) (being_in (cell_at after p))

-- the changes on the track of mutex m, by the owners of all mutexes
abbrev pub mutex_at : Table → ℕ → List (Option ℕ) → List (Option ℕ) → ℕ → List ℕ
mutex_at table time before after m =
    mutex_text table (mutex_spot m time)
    (slice_index_or before m None) (slice_index_or after m None)

-- the changes on the tracks of all mutexes
abbrev pub mutexes_text : Table → ℕ → List (Option ℕ) → List (Option ℕ) → List ℕ
mutexes_text table time before after =
    texts_of (mutex_at table time before after) (length table.mutexes)

-- the changes of what the objects hold: of the counters, and on the tracks of the mutexes
abbrev pub objects_text : Table → ℕ → Counts → Counts → List ℕ
objects_text table time before after =
    counters_text table time before after
    ++ mutexes_text table time before.owners after.owners

-- the mark of a notice on the track of process p, by the two words of its name
abbrev pub mark_text : ℕ → ℕ → List ℕ → List ℕ → List ℕ
mark_text time p word detail =
    codes ",\n{\"ph\":\"i\",\"pid\":2,\"tid\":" ++ id_text p ++ begin_back time ++ word ++ detail
    ++ codes "\"}"

-- the mark of a notice: its word, and the code or the type of the deadline
abbrev pub marked_text : ℕ → Notice → List ℕ
marked_text time (Woken p code) = mark_text time p (codes "woken ") (code_text code)
marked_text time (Released p) = mark_text time p (codes "released") []
marked_text time (Missed p kind) =
    mark_text time p (codes "missed ") (deadline_text kind)

-- the changes on all tracks
abbrev pub changes_text : Table → ℕ → Shown → Shown → List ℕ
changes_text table time before after =
    texts_of (core_at table time before after) table.cores
    ++ texts_of (process_at table time before after) (length table.processes)

-- the slice of an entry, and the beginnings of its arrows
abbrev pub call_text : Table → Lasting → Entry → Shown → List ℕ
call_text table lasting entry after =
    call_of table lasting entry
    ++ tails_of entry.process lasting.begin after entry.number entry.notices

-- the marks of an entry's notices, and the ends of its arrows
abbrev pub notices_text : ℕ → Entry → Shown → List ℕ
notices_text time entry after =
    flat_map (marked_text time) entry.notices
    ++ heads_of time after entry.number entry.notices

-- the call of an entry, the changes by it, and its notices
abbrev pub column_text : Table → Lasting → Shown → Entry → Shown → List ℕ
column_text table lasting before entry after =
    call_text table lasting entry after
    ++ changes_text table lasting.end before after
    ++ objects_text table lasting.end before.counts after.counts
    ++ notices_text lasting.end entry after

-- what comes after the columns: the ends of all slices
abbrev pub foot_text : Table → ℕ → Shown → List ℕ
foot_text table time last =
    changes_text table time last none_shown
    ++ mutexes_text table time last.counts.owners [] ++ codes "\n]}\n"
