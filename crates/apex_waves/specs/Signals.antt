-- The signals of a dump.
use Rattle.std.specs.Prelude.{List}
use Rattle.apex_machine.specs.table.Table.{Table}
use Rattle.apex_waves.specs.Kinds.{of_kinds, signals_in}
use Rattle.apex_waves.specs.declared.signals.Signal.{Signal}

-- the signals of a table: those of each kind
abbrev pub signals_of : Table → List Signal
signals_of table = of_kinds (signals_in table)
