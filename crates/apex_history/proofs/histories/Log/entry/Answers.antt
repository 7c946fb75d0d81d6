use Rattle.std.proofs.Common.{◌<◌, length, Some, sym, ap, subst, ◌∙◌}
use Rattle.apex_history.specs.StoredEntries.{entry_of, IsWithin}
use Rattle.apex_history.proofs.EntriesOf.{entry_at, within_at, length_entries}
use Rattle.apex_history.proofs.histories.Log.entry.Goals as goal

pub parts-requires-clause-within : goal.parts-requires-clause-within
parts-requires-clause-within c =
    let within : c.args.place < length c.self.inside.stored.items = rw (← c.self.view_is, length_entries) at c.requires in
    rw (c.as_slice.ensures, c.as_slice-2.ensures.value)
    (subst (IsWithin _ _) (sym c.index.ensures) (within_at _ _ _ c.args.place c.index.result.now within c.self.invariant.within))

pub returns : goal.returns
returns c =
    let calls = c.self.inside.calls.calls in
    let notices = c.self.inside.notices.items in
    let within : c.args.place < length c.self.inside.stored.items = rw (← c.self.view_is, length_entries) at c.requires in
    rw (← c.self.view_is, c.lent.ensures, c.parts.ensures, c.as_slice.ensures, c.as_slice-2.ensures.value)
    (entry_at calls notices c.self.inside.stored.items c.args.place c.index.result.now within
    ∙ ap (λ item. Some (entry_of calls notices c.args.place item)) (sym c.index.ensures))
