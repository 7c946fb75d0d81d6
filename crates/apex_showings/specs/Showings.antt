-- How a run is given, and how it is shown.
use Rattle.std.specs.Prelude.{ℕ, Bool, List, Option, option_map}
use Rattle.apex_pace.specs.declared.paces.Pace.{Pace}
use Rattle.apex_scales.specs.declared.Axis.{Axis}
use Rattle.apex_schedules.specs.declared.Item.{Item}
use Rattle.apex_showings.specs.declared.showings.Chart.{Chart as ChartIn}
use Rattle.apex_showings.specs.declared.showings.Listing.{Listing}
use Rattle.apex_showings.specs.declared.showings.Picture.{Picture as PictureIn}
use Rattle.apex_showings.specs.declared.showings.Picture.TheVariants as pictures
use Rattle.apex_showings.specs.declared.showings.RunSource.{RunSource}
use Rattle.apex_showings.specs.declared.showings.RunSource.TheVariants as run
use Rattle.apex_showings.specs.declared.showings.Showing.{Showing as ShowingIn}
use Rattle.apex_showings.specs.declared.showings.View.{View as ViewIn}
use Rattle.apex_showings.specs.declared.showings.View.TheVariants as shown
use Rattle.apex_showings.specs.declared.windows.Window.{Window}

-- how a run is given
pub data Source : Type 0 where
  -- by the items of a schedule, for the table that is read
  schedule : List Item → Source
  -- by the schedule that is read, behind its table
  schedule_read : Source
  -- by the first schedule of a pace up to a time, for the table that is read
  paced : Pace → ℕ → Source
  -- by the history that is read, behind its table
  history : Source

-- how an SVG shows a run: the entries of a window, with their columns along an axis, without those of
-- idle entries if these are folded, and with rows for the processes of these names or numbers, or for all
pub record Chart : Type 0 where
  pub window : Window
  pub axis : Axis
  pub only : Option (List (List ℕ))
  pub fold : Bool

-- how a picture shows a run
pub data Picture : Type 0 where
  -- as SVG
  svg : Chart → Picture
  -- as a trace
  trace : ℕ → Picture

-- how a run is shown
pub data View : Type 0 where
  -- as a picture
  drawn : Picture → View
  -- as a listing
  listed : Listing → View

-- a run that is to be shown
pub record Showing : Type 0 where
  pub source : Source
  pub view : View

-- a run that is given and shown in these ways
abbrev pub showing_with : Source → View → Showing
showing_with source view = record { source = source; view = view }

-- how a run is given, of a value of the program
abbrev pub source_said : RunSource → Source
source_said (run.Schedule items) = schedule items.items
source_said run.ReadSchedule = schedule_read
source_said (run.Pace pace until) = paced pace until
source_said run.History = history

-- how an SVG shows a run, of a value of the program
abbrev pub chart_said : ChartIn → Chart
chart_said chart = record {
  window = chart.window;
  axis = chart.axis;
  only = option_map (λ list. list.items) chart.only;
  fold = chart.fold;
}

-- how a picture shows a run, of a value of the program
abbrev pub picture_said : PictureIn → Picture
picture_said (pictures.Svg chart) = svg (chart_said chart)
picture_said (pictures.Trace tick) = trace tick

-- how a run is shown, of a value of the program
abbrev pub view_said : ViewIn → View
view_said (shown.Picture picture) = drawn (picture_said picture)
view_said (shown.Listing listing) = listed listing

-- a run that is to be shown, of a value of the program
abbrev pub showing_said : ShowingIn → Showing
showing_said showing = showing_with (source_said showing.source) (view_said showing.view)
