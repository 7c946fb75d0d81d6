-- The arrows of a trace: from the slice of an entry to each process that the entry wakes or releases. An arrow begins
-- where the slice begins, and ends on the slice that its process has after the entry; a process that is dormant
-- then has no arrow.
use Rattle.std.specs.Prelude.{ℕ, ◌+◌, ◌*◌, Bool, List, [], ◌++◌, Option, None, Some, codes, decimal, length, slice_get, slice_index_or, if◌then◌else◌}
use Rattle.apex_machine.specs.text.Listing.{texts_of}
use Rattle.apex_machine.specs.text.Texts.{id_text}
use Rattle.apex_traces.specs.Beings.{being_in, is_begun}
use Rattle.apex_traces.specs.Calls.{caller_text}
use Rattle.apex_moments.specs.Moments.{Shown, no_cell}
use Rattle.apex_traces.specs.Times.{time_back}
use Rattle.apex_moments.specs.Words.{notice_word}
use Rattle.apex_moments.specs.Terms.{Caller, Notice}
use Rattle.apex_types.specs.declared.entries.Notice.TheVariants.{Woken, Released, Missed}
use Rattle.apex_types.specs.declared.limits.TheConstants.{MOST_NOTICES}

-- the number and the name of an arrow
unfoldable pub arrow_back : ℕ → List ℕ → List ℕ
arrow_back id word =
    codes ",\"cat\":\"notice\",\"id\":" ++ decimal id ++ codes ",\"name\":\"" ++ word ++ codes "\"}"

-- the beginning of an arrow on a caller's track
unfoldable pub tail_text : Caller → ℕ → ℕ → List ℕ → List ℕ
tail_text caller time id word =
    codes ",\n{\"ph\":\"s\"," ++ caller_text caller ++ time_back time ++ arrow_back id word

-- the end of an arrow on the track of process p
unfoldable pub head_text : ℕ → ℕ → ℕ → List ℕ → List ℕ
head_text time p id word =
    codes ",\n{\"ph\":\"f\",\"bp\":\"e\",\"pid\":2,\"tid\":" ++ id_text p ++ time_back time
    ++ arrow_back id word

-- the process that a notice wakes or releases
abbrev pub roused : Notice → Option ℕ
roused (Woken p code) = Some p
roused (Released p) = Some p
roused (Missed p kind) = None

-- process p has a slice on its track: it is not dormant
abbrev pub has_slice : Shown → ℕ → Bool
has_slice shown p = is_begun (being_in (slice_index_or shown.cells p no_cell))

-- the process to which the arrow of a notice goes: the notice wakes or releases it, and it has a slice then
abbrev pub goal_of : Shown → Option ℕ → Option ℕ
goal_of after None = None
goal_of after (Some p) = if has_slice after p then Some p else None

-- the number of the arrow of notice i of the entry of this number
abbrev pub arrow_id : ℕ → ℕ → ℕ
arrow_id number i = MOST_NOTICES * number + i

-- the beginning of the arrow to this process, if there is one
abbrev pub tail_to : Caller → ℕ → ℕ → List ℕ → Option ℕ → List ℕ
tail_to caller time id word None = []
tail_to caller time id word (Some p) = tail_text caller time id word

-- the end of the arrow to this process, if there is one
abbrev pub head_to : ℕ → ℕ → List ℕ → Option ℕ → List ℕ
head_to time id word None = []
head_to time id word (Some p) = head_text time p id word

-- the beginning of the arrow of a notice
abbrev pub tail_of : Caller → ℕ → Shown → ℕ → Option Notice → List ℕ
tail_of caller time after id None = []
tail_of caller time after id (Some notice) =
    tail_to caller time id (notice_word notice) (goal_of after (roused notice))

-- the end of the arrow of a notice
abbrev pub head_of : ℕ → Shown → ℕ → Option Notice → List ℕ
head_of time after id None = []
head_of time after id (Some notice) =
    head_to time id (notice_word notice) (goal_of after (roused notice))

-- the beginning of the arrow of notice i of the entry of this number
abbrev pub tail_at : Caller → ℕ → Shown → ℕ → List Notice → ℕ → List ℕ
tail_at caller time after number notices i =
    tail_of caller time after (arrow_id number i) (slice_get notices i)

-- the end of the arrow of notice i of the entry of this number
abbrev pub head_at : ℕ → Shown → ℕ → List Notice → ℕ → List ℕ
head_at time after number notices i =
    head_of time after (arrow_id number i) (slice_get notices i)

-- the beginnings of the arrows of all notices
abbrev pub tails_of : Caller → ℕ → Shown → ℕ → List Notice → List ℕ
tails_of caller time after number notices =
    texts_of (tail_at caller time after number notices) (length notices)

-- the ends of the arrows of all notices
abbrev pub heads_of : ℕ → Shown → ℕ → List Notice → List ℕ
heads_of time after number notices =
    texts_of (head_at time after number notices) (length notices)
