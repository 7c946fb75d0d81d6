-- The range of a window, entry by entry.
use Rattle.std.proofs.Common.{◌≡◌, ◌∙◌, ℕ, true, false, List, [], ◌∷◌, ◌++◌, Option, Some, ap, append-nil, refl}
use Rattle.std.specs.List.{filter}
use Rattle.std.proofs.lemmas.List.Elements.{filter-append}
use Rattle.apex_types.specs.declared.entries.Entry.{Entry}
use Rattle.apex_showings.specs.Windows.{entries_in, is_in, last_number, range_in, range_of, widened}
use Rattle.apex_showings.specs.declared.windows.EntryRange.{EntryRange}
use Rattle.apex_showings.specs.declared.windows.Window.{Window}

last_behind : (first : Entry) (others : List Entry) (entry : Entry) → last_number first (others ++ entry ∷ []) ≡ entry.number
last_behind first [] entry = refl
last_behind first (next ∷ others) entry = last_behind next others entry

abbrev ranged : ℕ → ℕ → Option EntryRange
ranged first last = Some (record { first = first; last = last })

range_behind : (entries : List Entry) (entry : Entry) → range_of (entries ++ entry ∷ []) ≡ Some (widened (range_of entries) entry.number)
range_behind [] entry = refl
range_behind (first ∷ others) entry = ap (ranged first.number) (last_behind first others entry)

module _ (window : Window) (before : List Entry) (entry : Entry) where
  parted : entries_in window (before ++ entry ∷ []) ≡ entries_in window before ++ filter (is_in window) (entry ∷ [])
  parted = filter-append (is_in window) before (entry ∷ [])

  -- an entry in the window
  pub range_more : is_in window entry ≡ true → range_in window (before ++ entry ∷ []) ≡ Some (widened (range_in window before) entry.number)
  range_more is =
      let kept : filter (is_in window) (entry ∷ []) ≡ entry ∷ [] = rw is refl in
      ap range_of (parted ∙ ap (λ l. entries_in window before ++ l) kept) ∙ range_behind (entries_in window before) entry

  -- another entry
  pub range_same : is_in window entry ≡ false → range_in window (before ++ entry ∷ []) ≡ range_in window before
  range_same is =
      let left : filter (is_in window) (entry ∷ []) ≡ [] = rw is refl in
      ap range_of (parted ∙ ap (λ l. entries_in window before ++ l) left ∙ append-nil (entries_in window before))
