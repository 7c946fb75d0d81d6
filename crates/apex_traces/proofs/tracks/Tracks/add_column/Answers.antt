-- The tracks are those of the processes.
use Rattle.std.proofs.Common.{◌≡◌, ◌∙◌, ◌++◌, ℕ, List, Option, ap, length, refl, subst, sym}
use Rattle.std.proofs.lemmas.List.{length-map}
use Rattle.std.specs.Prelude.{map}
use Rattle.arrayvec.proofs.ArrayVecLemmas.{items-with_items}
use Rattle.arrayvec.specs.ArrayVec.{with_items}
use Rattle.apex_machine.specs.processes.Running.{chosen}
use Rattle.apex_machine.specs.text.Listing.{texts_of}
use Rattle.apex_types.specs.declared.limits.TheConstants.{MOST_CORES}
use Rattle.apex_moments.specs.Counts.{Counts, HasCounts, counts_of}
use Rattle.apex_moments.specs.Moments.{Shown, moment_of, with_cells}
use Rattle.apex_traces.specs.Trace.{call_text, column_text, process_at}
use Rattle.apex_traces.specs.Tracks.{bare, bare_cells, cell_on, track_of}
use Rattle.apex_traces.specs.declared.beings.Being.{Being}
use Rattle.apex_moments.proofs.Places.{length_of}
use Rattle.apex_traces.proofs.TracksShown.{call_same, column_whole, notices_same, shown_of, tracks_same}
use Rattle.apex_traces.proofs.tracks.Tracks.add_column.Goals as goal

pub add_changes-requires-clause-counts : goal.add_changes-requires-clause-counts
add_changes-requires-clause-counts g c =
    subst (λ (s : Shown). HasCounts s.counts c.args.table.now) (sym c.self.view_is) c.requires.counts

pub returns-clause-shown : goal.returns-clause-shown
returns-clause-shown g c =
    let roster = g.S.Store.roster c.args.store.now in
    let old = c.self.inside.tracks in
    let ran = c.self.inside.running in
    let runs = c.add_runs.ensures.running in
    let cores : length ran.items ≡ MOST_CORES = ap (λ (s : Shown). length s.running) c.self.view_is ∙ c.requires.cores in
    let many : length old.items ≡ length roster.records =
    sym (length-map old.items cell_on) ∙ ap (λ (s : Shown). length s.cells) c.self.view_is ∙ c.requires.tracks in
    let kept : length c.add_runs.new.running ≡ length ran.items =
    ap (λ (l : List (Option ℕ)). length l) runs ∙ length_of (chosen roster) MOST_CORES ∙ sym cores in
    let running = (with_items ran c.add_runs.new.running).items in
    let tracks = c.add_processes.new.tracks in
    let is = c.add_processes.ensures.tracks in
    let same : length tracks ≡ length old.items =
    ap (λ (all : List Being). length all) is ∙ length_of (track_of roster) (length roster.records) ∙ sym many in
    let counts = c.add_changes.new.counts in
    ap (λ (all : List Being). shown_of (map cell_on all) running counts) (items-with_items old tracks same)
    ∙ tracks_same roster tracks running counts is (items-with_items ran c.add_runs.new.running kept ∙ runs)
    ∙ ap (λ (counted : Counts). bare (moment_of roster counted)) c.add_changes.ensures.counts

pub returns-clause-text : goal.returns-clause-text
returns-clause-text g c =
    let roster = g.S.Store.roster c.args.store.now in
    let table = c.args.table.now in
    let lasting = c.args.lasting in
    let entry = c.args.entry.now in
    let text = c.args.piece.now.items in
    let before = shown_of (map cell_on c.self.inside.tracks.items) c.self.inside.running.items c.self.inside.counts in
    let after = bare (moment_of roster (counts_of table roster c.args.objects.now)) in
    let cells = with_cells (bare_cells roster) in
    let call : c.add_call.new.piece.items ≡ text ++ call_text table lasting entry after =
    c.add_call.ensures.text ∙ ap (λ l. text ++ l) (call_same table lasting entry cells after (λ p. refl)) in
    let notices = notices_same lasting.end entry cells after (λ p. refl) in
    subst (λ (shown : Shown). c.add_notices.new.piece.items ≡ text ++ column_text table lasting shown entry after) c.self.view_is
    (column_whole table lasting before entry after text c.add_call.new.piece.items c.add_runs.new.piece.items
    c.add_processes.new.piece.items c.add_changes.new.piece.items c.add_notices.new.piece.items call
    (rw c.as_mut_slice-running.ensures.value at c.add_runs.ensures.text)
    ((rw c.as_mut_slice-tracks.ensures.value at c.add_processes.ensures.text)
    ∙ ap (λ n. c.add_runs.new.piece.items ++ texts_of (process_at table lasting.end before after) n) (sym c.requires.table))
    c.add_changes.ensures.text
    (c.add_notices.ensures.text ∙ ap (λ l. c.add_changes.new.piece.items ++ l) notices))
