-- The lines of a part of a history.
use Rattle.std.proofs.Common.{◌≡◌, ℕ, ◌+◌, ◌<◌, ◌≤◌, List, [], ◌∷◌, ◌++◌, arith, length, length-append, sym, ap, ◌∙◌, append-nil}
use Rattle.std.specs.Prelude.{decimal, flat_map}
use Rattle.std.proofs.lemmas.Fmt.{length-decimal-le}
use Rattle.std.proofs.lemmas.Grind.{flat_map-append}
use Rattle.apex_history.specs.Terms.{Entry}
use Rattle.apex_machine.specs.table.Table.{Table}
use Rattle.apex_calls.specs.Lines.{line_of, lines_of}

-- one entry more
pub lines_more : (table : Table) (entries : List Entry) (entry : Entry) → lines_of table (entries ++ entry ∷ []) ≡ lines_of table entries ++ line_of table entry
lines_more table entries entry =
    let line = line_of table in
    flat_map-append line entries (entry ∷ []) ∙ ap (λ l. flat_map line entries ++ l) (append-nil (line entry))

-- those of the first entries, and then those of the others
pub lines_split : (table : Table) (first others : List Entry) → lines_of table first ++ lines_of table others ≡ lines_of table (first ++ others)
lines_split table first others = sym (flat_map-append (line_of table) first others)

-- a text that was put behind another one is no longer than the growth of the whole
pub length_put : (before line after : List ℕ) (most : ℕ) → after ≡ before ++ line → length after ≤ length before + most → length line ≤ most
length_put before line after most put fits = omega (arith, length-append before line, ap length put, fits)

-- an id has at most three digits
pub id_put : (before after : List ℕ) (i : ℕ) → i < 256 → after ≡ before ++ decimal (i + 1) → length after ≤ length before + 3
id_put before after i small put =
    let few : length (decimal (i + 1)) ≤ 3 = length-decimal-le 3 (i + 1) (omega arith) (omega (arith, small)) (omega (arith, small)) in
    omega (arith, length-append before (decimal (i + 1)), ap length put, few)
