-- The rows of a picture: the processes that have one, and the places of the rows and of the cores'
-- headings.
use Rattle.std.specs.Prelude.{◌≡◌, ℕ, zero, suc, ◌+◌, ◌*◌, Bool, true, ◌==◌, ◌&&◌, nat_lt, List, Option, None, Some, count_by, if◌then◌else◌, length, slice_index_or, take}
use Rattle.std.specs.List.{list_any}
use Rattle.apex_machine.specs.table.Table.{Table, call_in}
use Rattle.apex_types.specs.declared.calls.Call.{Call}
use Rattle.apex_types.specs.declared.calls.Call.TheVariants.{Process}
use Rattle.apex_types.specs.declared.calls.ObjectCall.TheVariants.{KindService}
use Rattle.apex_types.specs.declared.calls.ProcessService.TheVariants.{InitializeCoreAffinity}
use Rattle.apex_types.specs.declared.limits.TheConstants.{MOST_INIT_STEPS}
use Rattle.apex_moments.specs.Places.{of_places}
use Rattle.apex_pictures.specs.declared.rows.Rows.{Rows}
use Rattle.apex_pictures.specs.declared.rows.Selection.{Selection}
use Rattle.apex_pictures.specs.declared.rows.TheConstants.{NO_CORE, ROW}

-- process p has a row: it is one of these, or none are named
abbrev pub is_chosen : Option (List ℕ) → ℕ → Bool
is_chosen None p = true
is_chosen (Some only) p = list_any (λ other. other == p) only

-- whether each process of a table has a row
abbrev pub rows_chosen : Table → Option (List ℕ) → List Bool
rows_chosen table only = of_places (is_chosen only) (length table.processes)

-- the number of processes that have a row
abbrev pub many_chosen : List Bool → ℕ
many_chosen rows = count_by (λ row. row) rows

-- how many processes have a row; none if all have one
abbrev pub selection_of : List Bool → Option Selection
selection_of rows =
    if many_chosen rows == length rows then None
    else Some (record { shown = many_chosen rows; all = length rows })

-- the core to which a step binds process p, if it binds it to a core of the table; or else this one
abbrev pub core_by : Table → ℕ → Option Call → ℕ → ℕ
core_by table p (Some (Process (KindService bound (InitializeCoreAffinity core)))) other =
    if bound == p && nat_lt core table.cores then core else other
core_by table p _ other = other

-- the core to which the first n steps of the init list bind process p: the last one, or core 0
abbrev pub core_after : Table → ℕ → ℕ → ℕ
core_after table p zero = 0
core_after table p (suc n) = core_by table p (call_in table.init n) (core_after table p n)

-- the core to which the init list binds process p
unfoldable pub bound_core : Table → ℕ → ℕ
bound_core table p = core_after table p MOST_INIT_STEPS

-- the core in whose part of a picture process p has its row, and `NO_CORE` if it has none
abbrev pub core_of : Table → Option (List ℕ) → ℕ → ℕ
core_of table only p = if is_chosen only p then bound_core table p else NO_CORE

-- the cores of all processes
abbrev pub cores_of : Table → Option (List ℕ) → List ℕ
cores_of table only = of_places (core_of table only) (length table.processes)

-- the number of rows in the parts of the cores before this one
abbrev pub rows_before : List ℕ → ℕ → ℕ
rows_before cores core = count_by (λ other. nat_lt other core) cores

-- the number of rows in the part of this core
abbrev pub rows_of_core : List ℕ → ℕ → ℕ
rows_of_core cores core = count_by (λ other. other == core) cores

-- The place of the heading of a core below `top`, by the cores of the processes: below the parts of the
-- cores before it, each of which has a heading.
abbrev pub heading_at : List ℕ → ℕ → ℕ → ℕ
heading_at cores top core = top + ROW * (rows_before cores core + core)

-- the place of the row of process p: below the heading of its core, and the rows there of the processes
-- before it
abbrev pub row_at : List ℕ → ℕ → ℕ → ℕ
row_at cores top p =
    let core = slice_index_or cores p 0 in
    top + ROW * (rows_before cores core + rows_of_core (take p cores) core + core + 1)

-- the places of the rows of all processes, and of the headings of n cores
abbrev pub rows_at : List ℕ → ℕ → List ℕ
rows_at cores top = of_places (row_at cores top) (length cores)

abbrev pub headings_at : List ℕ → ℕ → ℕ → List ℕ
headings_at cores top n = of_places (heading_at cores top) n

-- the rows of these processes of a table, or of all, with a heading for each core
pub record HasRows (table : Table) (only : Option (List ℕ)) (rows : Rows) : Type 0 where
  pub chosen : rows.chosen.items ≡ rows_chosen table only
  pub places : rows.places.items ≡ rows_at (cores_of table only) rows.top
  pub headings : rows.headings.items ≡ headings_at (cores_of table only) rows.top table.cores
