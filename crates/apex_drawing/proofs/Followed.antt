-- The tracks of a trace follow the moment.
use Rattle.std.proofs.Common.{◌≡◌, ◌∙◌, ℕ, ap, length, subst, sym}
use Rattle.std.proofs.lemmas.List.{length-map}
use Rattle.apex_machine.specs.table.Table.{Table}
use Rattle.apex_types.specs.declared.limits.TheConstants.{MOST_CORES}
use Rattle.apex_moments.specs.Counts.{HasCounts}
use Rattle.apex_moments.specs.Moments.{Shown}
use Rattle.apex_drawing.specs.Styles.{Fits, Follows, HasTracks}
use Rattle.apex_traces.specs.Tracks.{bare, bare_cell}
use Rattle.apex_drawing.specs.declared.styles.Style.{Style}
use Rattle.apex_drawing.specs.declared.styles.Style.TheVariants.{Svg, Trace}

-- the tracks of the moment follow it
pub follows : (style : Style) (tracks shown : Shown) → tracks ≡ bare shown → Follows style tracks shown
follows (Svg frame) tracks shown is = tt
follows (Trace tick) tracks shown is = is

-- there are as many tracks that follow a moment as it has cells
pub follow_many : (style : Style) (tracks shown : Shown) (n : ℕ) → Follows style tracks shown → length shown.cells ≡ n
    → HasTracks style tracks n
follow_many (Svg frame) tracks shown n follows many = tt
follow_many (Trace tick) tracks shown n follows many =
    ap (λ (s : Shown). length s.cells) follows ∙ length-map shown.cells bare_cell ∙ many

-- tracks that follow a moment have the moment's counts and cores
pub follow_fits : (style : Style) (tracks shown : Shown) (table : Table) → Follows style tracks shown → HasCounts shown.counts table
    → length shown.running ≡ MOST_CORES → Fits style tracks table
follow_fits (Svg frame) tracks shown table follows counts cores = tt
follow_fits (Trace tick) tracks shown table follows counts cores =
    (subst (λ (s : Shown). HasCounts s.counts table) (sym follows) counts, ap (λ (s : Shown). length s.running) follows ∙ cores)
