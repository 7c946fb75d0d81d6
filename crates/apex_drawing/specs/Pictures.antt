-- The text of a picture of a machine.
use Rattle.std.specs.Prelude.{ℕ, List, ◌++◌, flat_map}
use Rattle.apex_machine.specs.Machine.{Machine, opening}
use Rattle.apex_machine.specs.table.Table.{Table}
use Rattle.apex_moments.specs.Instants.{instant_after, next_instant, time_at}
use Rattle.apex_moments.specs.Moments.{Column, moment_in, picture}
use Rattle.apex_pictures.specs.Svg as svg
use Rattle.apex_traces.specs.Trace as trace
use Rattle.apex_traces.specs.declared.calls.Lasting.{Lasting}
use Rattle.apex_moments.specs.declared.instants.Instant.{Instant}
use Rattle.apex_drawing.specs.declared.styles.Style.{Style}
use Rattle.apex_drawing.specs.declared.styles.Style.TheVariants.{Svg, Trace}

-- what comes before the columns
abbrev pub head_text : Style → Table → List ℕ
head_text (Svg frame) table = svg.head_text frame
head_text (Trace tick) table = trace.head_text table (moment_in table (opening table))

-- the times of two instants on the axis of a trace, for ticks of this length
abbrev pub lasting_of : ℕ → Instant → Instant → Lasting
lasting_of tick begun ended = record { begin = time_at tick begun; end = time_at tick ended }

-- a column
abbrev pub column_text : Style → Table → Column → List ℕ
column_text (Svg frame) table column = svg.column_text table frame column.entry column.after
column_text (Trace tick) table column =
    trace.column_text table (lasting_of tick column.begun column.instant) column.before column.entry
    column.after

-- the end of a trace: the instant that the next moment would have now
abbrev pub end_time : ℕ → Machine → ℕ
end_time tick machine =
    time_at tick (next_instant (instant_after machine.history) machine.roster.now)

-- what comes after the columns
abbrev pub foot_text : Style → Table → Machine → List ℕ
foot_text (Svg frame) table machine = svg.foot_text table frame
foot_text (Trace tick) table machine =
    trace.foot_text table (end_time tick machine) (moment_in table machine)

-- the columns of a machine's picture
abbrev pub columns_text : Style → Table → Machine → List ℕ
columns_text style table machine = flat_map (column_text style table) (picture table machine)

-- the picture of a machine
abbrev pub picture_text : Style → Table → Machine → List ℕ
picture_text style table machine =
    head_text style table ++ columns_text style table machine ++ foot_text style table machine
