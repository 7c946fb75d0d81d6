-- The rows of a picture, by the names of processes.
use Rattle.std.specs.Prelude.{ℕ, List, [], ◌∷◌, Option, None, Some, Result, Ok, Err}
use Rattle.apex_machine.specs.table.Table.{Table}
use Rattle.apex_names.specs.Processes.{place_of}
use Rattle.apex_views.specs.declared.rows.RowsAsked.{RowsAsked}
use Rattle.apex_views.specs.declared.rows.RowsAsked.TheVariants.{All, Lacking, These}

-- the places with this one before them, if there is such a process; or else the name that a table lacks
abbrev pub with_place : List ℕ → Option ℕ → Result (List ℕ) (List ℕ) → Result (List ℕ) (List ℕ)
with_place name None others = Err name
with_place name (Some p) (Ok places) = Ok (p ∷ places)
with_place name (Some p) (Err other) = Err other

-- the places of the processes of these names or numbers, or the first of these that a table lacks
abbrev pub places_named : Table → List (List ℕ) → Result (List ℕ) (List ℕ)
places_named table [] = Ok []
places_named table (name ∷ others) =
    with_place name (place_of table name) (places_named table others)

-- these places, of all that there are
abbrev pub some_of : Result (List ℕ) (List ℕ) → Result (Option (List ℕ)) (List ℕ)
some_of (Ok places) = Ok (Some places)
some_of (Err name) = Err name

-- The places of the processes that have a row, if these names or numbers are asked for; none if all are.
-- Or the first of the names that a table lacks.
abbrev pub rows_for : Table → Option (List (List ℕ)) → Result (Option (List ℕ)) (List ℕ)
rows_for table None = Ok None
rows_for table (Some names) = some_of (places_named table names)

-- the same, of a value of the program
abbrev pub rows_said : RowsAsked → Result (Option (List ℕ)) (List ℕ)
rows_said All = Ok None
rows_said (These processes) = Ok (Some processes.items)
rows_said (Lacking name) = Err name
