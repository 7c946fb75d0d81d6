-- TOML's tree with another value at a key, or at a place of an array.
use Rattle.std.specs.Prelude.{ℕ, zero, suc, if◌then◌else◌, List}
use Rattle.std.specs.Cmp.Lexicographic.{slice_cmp}
use Rattle.std.specs.Ordering.{nat_cmp, match_ordering}
use Rattle.toml.specs.Data.{Data, Items, no_items, item, Members, no_members, member, array, table, same_key}

-- the members with this value at this key; they stay in the order of the bytes of their keys
abbrev pub with_member : List ℕ → Data → Members → Members
with_member k d no_members = member k d no_members
with_member k d (member l e ms) =
    let before = member k d (member l e ms) in
    let here = member l d ms in
    let behind = member l e (with_member k d ms) in
    match_ordering (slice_cmp nat_cmp k l) before here behind

-- the members without the one at this key
abbrev pub without_member : List ℕ → Members → Members
without_member k no_members = no_members
without_member k (member l d ms) =
    if same_key k l then ms else member l d (without_member k ms)

-- the items with this value at place i, if there are more than i
abbrev pub with_item : ℕ → Data → Items → Items
with_item i d no_items = no_items
with_item zero d (item e ds) = item d ds
with_item (suc i) d (item e ds) = item e (with_item i d ds)

-- the first items
abbrev pub first_items : ℕ → Items → Items
first_items zero ds = no_items
first_items (suc n) no_items = no_items
first_items (suc n) (item d ds) = item d (first_items n ds)

-- a table with this value at this key; other data stay
abbrev pub put_member : List ℕ → Data → Data → Data
put_member k d (table ms) = table (with_member k d ms)
put_member k d other = other

-- an array with this value at this place; other data stay
abbrev pub put_item : ℕ → Data → Data → Data
put_item i d (array ds) = array (with_item i d ds)
put_item i d other = other
