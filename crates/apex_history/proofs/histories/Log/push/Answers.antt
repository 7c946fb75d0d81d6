-- The item is that of the entry, and its notices come last.
use Rattle.std.proofs.Common.{rules, ◌≡◌, ◌+◌, ◌<◌, ◌≤◌, [], ◌∷◌, ◌++◌, length, refl}
use Rattle.apex_types.specs.declared.limits.TheConstants.{MOST_NOTICES}
use Rattle.apex_history.specs.StoredEntries.{caller_in, call_in}
use Rattle.apex_history.proofs.EntriesOf.{item_of, entries_put, kept_put, length_entries}
use Rattle.apex_history.proofs.histories.Log.push.Goals.{After-push_reserved}
use Rattle.apex_history.proofs.histories.Log.push.Goals as goal

noted : (c : After-push_reserved) → c.put_notices.new.all.items ≡ c.self.inside.notices.items ++ c.args.entry.now.notices
noted c = rw (← c.entry.view_is) c.put_notices.ensures.items

placed : (c : After-push_reserved) → c.push_reserved.new.self.items ≡ c.self.inside.stored.items ++ item_of c.self.inside.notices.items c.put_call-asked.result c.args.entry.now ∷ []
placed c =
    let first_notice : c.len-first_notice.result ≡ length c.self.inside.notices.items = search rules in
    rw (← c.entry.view_is) (rw first_notice at c.push_reserved.ensures.items)

pub invariant_of-self : goal.invariant_of-self
invariant_of-self c =
    let few : length c.args.entry.now.notices ≤ MOST_NOTICES = rw (← c.entry.view_is) c.entry.invariant in
    let room : length c.self.inside.stored.items < c.self.inside.limit = rw (← c.self.view_is, length_entries) at c.requires.room in
    rw (placed c, noted c, c.push_reserved.ensures.capacity, c.put_call-asked.ensures.room)
    (kept_put _ _ _ _ _ _ _ _ _ _ c.args.entry.now c.self.invariant c.put_call-asked.ensures.calls c.put_call-asked.ensures.among room few c.put_notices.ensures.room)

pub returns : goal.returns
returns c =
    let number : c.args.entry.now.number ≡ length c.self.inside.stored.items + 1 = rw (← c.self.view_is, length_entries) at c.requires.number in
    let caller : caller_in c.put_call-asked.result ≡ c.args.entry.now.process = rw (← c.entry.view_is) c.put_call-asked.ensures.caller in
    let call : call_in c.put_call-asked.new.calls.calls c.put_call-asked.result ≡ c.args.entry.now.call = rw (← c.entry.view_is) c.put_call-asked.ensures.call in
    rw (← c.self.view_is, placed c, noted c, entries_put _ _ _ _ _ c.args.entry.now c.put_call-asked.ensures.calls caller call number c.self.invariant.within) refl
