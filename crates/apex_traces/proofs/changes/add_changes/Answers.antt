-- The counts are those of the objects.
use Rattle.std.proofs.Common.{◌∙◌, ℕ, List, Option, ap, length, sym}
use Rattle.arrayvec.proofs.ArrayVecLemmas.{items-with_items}
use Rattle.apex_machine.specs.processes.Owners.{owner}
use Rattle.apex_moments.specs.Counts.{Counts, counts_of}
use Rattle.apex_moments.specs.declared.kinds.Kind.TheVariants.{Semaphore, Buffer, Blackboard, EventFlag}
use Rattle.apex_traces.proofs.Counted.{counts_with, objects_whole}
use Rattle.apex_moments.proofs.Counted.{many_counts}
use Rattle.apex_moments.proofs.Places.{length_of}
use Rattle.apex_traces.proofs.changes.add_changes.Goals as goal

pub returns-clause-text : goal.returns-clause-text
returns-clause-text g c =
    objects_whole c.args.table.now c.args.time c.args.counts.now (g.S.Store.roster c.args.store.now) c.args.objects.now
    _ _ _ _ _ _ _ _ _ _ _
    (c.as_mut_slice-values.ensures.value ∙ ap (λ (s : Counts). s.values) c.counts.view_is)
    (c.as_mut_slice-contents.ensures.value ∙ ap (λ (s : Counts). s.contents) c.counts.view_is)
    (c.as_mut_slice-displays.ensures.value ∙ ap (λ (s : Counts). s.displays) c.counts.view_is)
    (c.as_mut_slice-flags.ensures.value ∙ ap (λ (s : Counts). s.flags) c.counts.view_is)
    (c.as_mut_slice-owners.ensures.value ∙ ap (λ (s : Counts). s.owners) c.counts.view_is)
    c.add_kind.ensures.text c.add_kind-2.ensures.text c.add_kind-3.ensures.text c.add_kind-4.ensures.text c.add_mutexes.ensures.text

pub returns-clause-counts : goal.returns-clause-counts
unfolding counts_of
returns-clause-counts g c =
    let table = c.args.table.now in
    let objects = c.args.objects.now in
    let had = c.requires.counts in
    let old = c.counts.inside in
    let values = c.add_kind.ensures.counts in
    let contents = c.add_kind-2.ensures.counts in
    let displays = c.add_kind-3.ensures.counts in
    let flags = c.add_kind-4.ensures.counts in
    let owners = c.add_mutexes.ensures.owners in
    let valued = items-with_items old.values c.add_kind.new.counts
    (ap (λ (l : List ℕ). length l) values ∙ many_counts table objects Semaphore
    ∙ sym (ap (λ (s : Counts). length s.values) c.counts.view_is ∙ had.values)) ∙ values in
    let contented = items-with_items old.contents c.add_kind-2.new.counts
    (ap (λ (l : List ℕ). length l) contents ∙ many_counts table objects Buffer
    ∙ sym (ap (λ (s : Counts). length s.contents) c.counts.view_is ∙ had.contents)) ∙ contents in
    let displayed = items-with_items old.displays c.add_kind-3.new.counts
    (ap (λ (l : List ℕ). length l) displays ∙ many_counts table objects Blackboard
    ∙ sym (ap (λ (s : Counts). length s.displays) c.counts.view_is ∙ had.displays)) ∙ displays in
    let flagged = items-with_items old.flags c.add_kind-4.new.counts
    (ap (λ (l : List ℕ). length l) flags ∙ many_counts table objects EventFlag
    ∙ sym (ap (λ (s : Counts). length s.flags) c.counts.view_is ∙ had.flags)) ∙ flags in
    let owned = items-with_items old.owners c.add_mutexes.new.owners
    (ap (λ (l : List (Option ℕ)). length l) owners ∙ length_of (owner (g.S.Store.roster c.args.store.now)) (length table.mutexes)
    ∙ sym (ap (λ (s : Counts). length s.owners) c.counts.view_is ∙ had.owners)) ∙ owners in
    counts_with valued contented displayed flagged owned
