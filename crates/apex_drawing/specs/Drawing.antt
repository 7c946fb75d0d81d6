-- The text of a picture, as it grows, and the ends of its drawing.
use Rattle.std.specs.Prelude.{◌≡◌, ℕ, List, ◌++◌, Result, MatchResult, flat_map}
use Rattle.apex_machine.specs.Machine.{Machine}
use Rattle.apex_machine.specs.table.Table.{Table}
use Rattle.apex_history.specs.Counted.{one_more}
use Rattle.apex_moments.specs.Moments.{Column, picture}
use Rattle.apex_drawing.specs.Pictures.{column_text}
use Rattle.apex_drawing.specs.declared.drawing.DrawFault.{DrawFault}
use Rattle.apex_drawing.specs.declared.drawing.DrawFault.TheVariants.{Memory, Write}
use Rattle.apex_drawing.specs.declared.styles.Style.{Style}

-- the picture has further columns, and their text follows the text
abbrev pub Grows : Style → Table → Machine → Machine → List ℕ → List ℕ → Type 0
Grows style table old new before after =
    (columns : List Column) × (picture table new ≡ picture table old ++ columns)
    × (after ≡ before ++ flat_map (column_text style table) columns)

-- a fault of drawing counts if a write failed, and not if memory was refused
abbrev pub CountsDrawFault : DrawFault → ℕ → ℕ → Type 0
CountsDrawFault Memory old new = new ≡ old
CountsDrawFault Write old new = new ≡ one_more old

-- the same of a drawing's answer
abbrev pub CountsDrawing : {T : Type 0} → Result T DrawFault → ℕ → ℕ → Type 0
CountsDrawing result old new =
    MatchResult result (λ _. new ≡ old) (λ fault. CountsDrawFault fault old new)
