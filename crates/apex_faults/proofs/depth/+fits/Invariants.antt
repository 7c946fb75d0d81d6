use Rattle.std.proofs.Common.{◌≡◌, ◌+◌, ◌*◌, nat_le, drop}
use Rattle.toml.specs.Data.{items_depth, members_depth}
use Rattle.toml.specs.View.{items_view, members_view}
use Rattle.apex_faults.proofs.depth.+fits.Given as goal

abbrev pub decreases-fits : goal.decreases-fits
decreases-fits l = 2 * l.limit

abbrev pub decreases-items_fit : goal.decreases-items_fit
decreases-items_fit l = 2 * l.limit + 1

abbrev pub decreases-members_fit : goal.decreases-members_fit
decreases-members_fit l = 2 * l.limit + 1

-- the answer is that of the values that are left
abbrev pub invariant-items_fit-loop-item : goal.invariant-items_fit-loop-item
invariant-items_fit-loop-item l =
    nat_le (items_depth (items_view (drop l.item-index l.items.items))) l.limit
    ≡ nat_le (items_depth (items_view l.items.items)) l.limit

abbrev pub invariant-members_fit-loop-key : goal.invariant-members_fit-loop-key
invariant-members_fit-loop-key l =
    (goal.iterator-members_fit-loop-key).can_next l._key-iterator
    × (goal.iterator-members_fit-loop-key).is_finite l._key-iterator
    × (nat_le (members_depth (members_view l._key-iterator)) l.limit
    ≡ nat_le (members_depth (members_view l.members.entries)) l.limit)
