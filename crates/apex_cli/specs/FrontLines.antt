-- The line of the front after a run.
use Rattle.std.specs.Prelude.{ℕ, List, [], ◌++◌, Option, None, Some, codes, decimal, flat_map}
use Rattle.apex_machine.specs.text.Texts.{id_text}
use Rattle.apex_board.specs.Fronts.{Front}

-- the id of the process that a core runs, or `-`, behind a space
abbrev pub running_text : Option ℕ → List ℕ
running_text None = codes " -"
running_text (Some p) = codes " " ++ id_text p

-- `front E T`, and the process of each core
abbrev pub front_line : Front → List ℕ
front_line front =
    codes "front " ++ decimal front.entries ++ codes " " ++ decimal front.now
    ++ flat_map running_text front.chosen ++ codes "\n"

-- the line of a front that was asked for
abbrev pub front_text : Option Front → List ℕ
front_text None = []
front_text (Some front) = front_line front
