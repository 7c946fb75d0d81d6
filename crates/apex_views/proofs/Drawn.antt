-- Something is drawn if an entry has a column.
use Rattle.std.proofs.Common.{◌≡◌, ℕ, ◌-◌, ◌<◌, List, [], arith, drop, length, length-drop, length-take, take}
use Rattle.std.proofs.lemmas.List.{nil_from_length}
use Rattle.apex_pictures.specs.Excerpts.{cut}
use Rattle.apex_pictures.specs.declared.Side.{Side}
use Rattle.apex_pictures.specs.declared.Side.TheVariants.{First, Last}
use Rattle.apex_pictures.specs.declared.Timed.{Timed}
use Rattle.apex_pictures.specs.declared.excerpts.TheConstants.{MOST_COLUMNS}

first_none : (n : ℕ) (columns : List Timed) → length (take n (drop 0 columns)) ≡ 0 → 0 < n → length columns ≡ 0
first_none n columns none some = omega (arith, none, some, length-take n (drop 0 columns), length-drop 0 columns)

last_none : (n : ℕ) (columns : List Timed) → length (take n (drop (length columns - n) columns)) ≡ 0 → 0 < n
    → length columns ≡ 0
last_none n columns none some =
    omega (arith, none, some, length-take n (drop (length columns - n) columns), length-drop (length columns - n) columns)

pub drawn_none : (side : Side) (columns : List Timed) → length (cut side columns) ≡ 0 → columns ≡ []
drawn_none First columns none = nil_from_length columns (first_none MOST_COLUMNS columns none (omega arith))
drawn_none Last columns none = nil_from_length columns (last_none MOST_COLUMNS columns none (omega arith))
