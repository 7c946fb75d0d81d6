-- The processes that have a slice, and the words of arrows.
use Rattle.std.proofs.Common.{◌≡◌, ◌∙◌, ◌≤◌, ◌<◌, ℕ, zero, suc, Bool, true, false, Option, None, Some, List, [], ◌∷◌, ap, arith, length, refl, sym}
use Rattle.std.proofs.lemmas.List.{length-map}
use Rattle.std.specs.Prelude.{slice_index_or, if◌then◌else◌, not}
use Rattle.apex_machine.specs.processes.Roster.{Roster, record_at}
use Rattle.apex_machine.specs.processes.Running.{chosen, is_eligible, is_process}
use Rattle.apex_machine.specs.declared.records.Wait.TheVariants as waits
use Rattle.apex_types.specs.declared.modes.State.TheVariants as states
use Rattle.apex_traces.specs.Arrows.{has_slice}
use Rattle.apex_traces.specs.Beings.{awaiting, being_in, being_of, is_begun}
use Rattle.apex_moments.specs.Moments.{cell_of, no_cell, with_cells}
use Rattle.apex_moments.specs.Places.{of_places}
use Rattle.apex_moments.specs.Words.{notice_word}
use Rattle.apex_moments.specs.Terms.{Notice, Wait}
use Rattle.apex_moments.specs.declared.moments.Cell.{Cell}
use Rattle.apex_types.specs.declared.entries.Notice.TheVariants.{Woken, Released, Missed}
use Rattle.apex_traces.specs.Tracks.{bare_cell, bare_cells}
use Rattle.apex_moments.proofs.Places.{length_of}
use Rattle.apex_traces.proofs.TracksShown.{track_now}

awaiting_begun : (wait : Option Wait) → is_begun (awaiting wait) ≡ true
awaiting_begun None = refl
awaiting_begun (Some (waits.Normal delay)) = refl
awaiting_begun (Some waits.Start) = refl
awaiting_begun (Some waits.Time) = refl
awaiting_begun (Some waits.Period) = refl
awaiting_begun (Some (waits.Semaphore s)) = refl
awaiting_begun (Some (waits.Receive b)) = refl
awaiting_begun (Some (waits.Send b message)) = refl
awaiting_begun (Some (waits.Blackboard b)) = refl
awaiting_begun (Some (waits.EventFlag e)) = refl
awaiting_begun (Some (waits.Mutex m)) = refl

-- the slice of a process in the state of one that is started or not, eligible or not, and chosen or not
started_begun : (started eligible chose : Bool) (wait : Option Wait)
    → is_begun (being_of (if not started then states.Dormant else if not eligible then states.Waiting
    else if chose then states.Running else states.Ready) wait) ≡ started
started_begun false eligible chose wait = refl
started_begun true false chose wait = awaiting_begun wait
started_begun true true true wait = refl
started_begun true true false wait = refl

-- a process has a slice if it is started
pub slice_in : (roster : Roster) (p : ℕ) → p < length roster.records
    → (record_at roster p).started ≡ has_slice (with_cells (bare_cells roster)) p
slice_in roster p within =
    let fields = record_at roster p in
    sym (started_begun fields.started (is_eligible roster.mode fields) (is_process p (chosen roster fields.core)) fields.wait)
    ∙ ap is_begun (track_now roster p within)

past : (cells : List Cell) (p : ℕ) → length cells ≤ p → is_begun (being_in (slice_index_or cells p no_cell)) ≡ false
past [] p within = refl
past (cell ∷ cells) zero within = absurd (omega (arith, within))
past (cell ∷ cells) (suc p) within = past cells p (omega (arith, within))

pub slice_out : (roster : Roster) (p : ℕ) → length roster.records ≤ p
    → false ≡ has_slice (with_cells (bare_cells roster)) p
slice_out roster p within =
    let all = of_places (cell_of roster) (length roster.records) in
    let many : length (bare_cells roster) ≡ length roster.records =
    length-map all bare_cell ∙ length_of (cell_of roster) (length roster.records) in
    sym (past (bare_cells roster) p (omega (arith, many, within)))

-- the word of a notice is short
pub word_short : (notice : Notice) → length (notice_word notice) ≤ 8
word_short (Woken p code) = omega arith
word_short (Released p) = omega arith
word_short (Missed p kind) = omega arith
