-- What the tracks of a drawing show: those of a trace follow the moment, and an SVG has none.
use Rattle.std.specs.Prelude.{◌≡◌, ℕ, length}
use Rattle.apex_machine.specs.table.Table.{Table}
use Rattle.apex_moments.specs.Counts.{HasCounts}
use Rattle.apex_moments.specs.Moments.{Shown}
use Rattle.apex_traces.specs.Tracks.{bare}
use Rattle.apex_drawing.specs.declared.styles.Style.{Style}
use Rattle.apex_drawing.specs.declared.styles.Style.TheVariants.{Svg, Trace}
use Rattle.apex_types.specs.declared.limits.TheConstants.{MOST_CORES}

-- the tracks are those of the moment, if a trace is drawn
abbrev pub Follows : Style → Shown → Shown → Type 0
Follows (Svg frame) tracks shown = Unit {0}
Follows (Trace tick) tracks shown = tracks ≡ bare shown

-- there are n tracks, if a trace is drawn
abbrev pub HasTracks : Style → Shown → ℕ → Type 0
HasTracks (Svg frame) tracks n = Unit {0}
HasTracks (Trace tick) tracks n = length tracks.cells ≡ n

-- there are counts of all objects of a table, and a place for each core that may be, if a trace is drawn
abbrev pub Fits : Style → Shown → Table → Type 0
Fits (Svg frame) tracks table = Unit {0}
Fits (Trace tick) tracks table =
    HasCounts tracks.counts table × (length tracks.running ≡ MOST_CORES)
