-- What a source gives, and the ways in which a showing ends, by what was at fault.
use Rattle.std.proofs.Common.{◌≡◌, ◌∙◌, ◌⊎◌, inl, inr, List, ℕ, Option, None, Some, Ok, ap, refl, subst, sym}
use Rattle.apex_machine.specs.Machine.{Machine}
use Rattle.apex_machine.specs.table.Table as tables
use Rattle.apex_types.specs.declared.entries.Entry.{Entry}
use Rattle.apex_history.specs.Counted.{CountsFault, one_more}
use Rattle.apex_history.specs.declared.ReadFault.{ReadFault}
use Rattle.apex_history.specs.declared.ReadFault.TheVariants as read
use Rattle.apex_incoming.specs.Ahead.{IsAhead}
use Rattle.apex_console.specs.Faults.{fault_of_read}
use Rattle.apex_console.specs.Reports.{Answer, Refuses, refuses, runs_to}
use Rattle.apex_console.specs.declared.CliFault.{CliFault}
use Rattle.apex_console.specs.declared.CliFault.TheVariants.{Memory, Write}
use Rattle.apex_drawing.specs.Drawing.{CountsDrawFault}
use Rattle.apex_drawing.specs.declared.DrawFault.{DrawFault}
use Rattle.apex_drawing.specs.declared.DrawFault.TheVariants as draw
use Rattle.apex_drawing.specs.declared.Style.{Style}
use Rattle.apex_drawing.specs.declared.Style.TheVariants as styles
use Rattle.apex_views.specs.Departures.{Departure}
use Rattle.apex_views.specs.Shows.{Answers, Gives, IsGivenTo, IsRunTo, IsToldBy, Outcome, ShowEnd, Shows, ShowsOutcome, cut_off, cut_short, end_before, end_of, fails, first_fault, no_memory, outcome_in, outcome_of_run, parts, ran, refused, shown, shows, stops, told, unread, unwritten, whole}
use Rattle.apex_views.specs.Plans.{AppendsPrefixOfView, AppendsView, IsStyleOf, excerpt_at, excerpt_shown, excerpt_with, fault_of_drawing}
use Rattle.apex_showings.specs.Showings.{Picture, Source, View, drawn, history, svg, trace}
use Rattle.apex_views.specs.declared.sources.Given.{Given}
use Rattle.apex_views.specs.declared.sources.GivenRun.{GivenRun}
use Rattle.apex_views.specs.declared.sources.GivenRun.TheVariants as run_in
use Rattle.apex_views.specs.declared.departures.Departure.{Departure as DepartureIn}
use Rattle.apex_views.specs.declared.faults.ShowFault.TheVariants.{Common}

-- ---- what a source gives

-- the outcome of an answer
abbrev pub outcome_of : Answer → Outcome
outcome_of (refuses fault) = stops (fails (Common fault))
outcome_of (runs_to table machine fault) = shows table machine fault

-- the outcome of a run that is to be shown
run_is : (answer : Answer) (made : GivenRun) → IsRunTo answer made → outcome_of_run None made ≡ outcome_of answer
run_is answer (run_in.Picture plan) is = sym (ap outcome_of is)
run_is answer (run_in.Listing listing run) is = sym (ap outcome_of is)
run_is answer (run_in.Empty window fold run) is = sym (ap outcome_of is)
run_is answer (run_in.Lacking name run) is = sym (ap outcome_of is)

pub outcome_is : (answer : Answer) (given : Given) → IsGivenTo answer given → outcome_in (Ok given) ≡ outcome_of answer
outcome_is answer given (none, is) = ap (λ (d : Option DepartureIn). outcome_of_run d given.made) none ∙ run_is answer given.made is

module _ {left : Option (List ℕ)} {failed : ℕ} where
  -- memory was refused
  pub gives_no_memory : {source : Source} (after : ℕ) → after ≡ failed → Gives left failed source (stops (fails (Common Memory))) after
  gives_no_memory after same = rw same no_memory

  -- bytes that were not read
  pub gives_unread : {source : Source} (after : ℕ) (fault : ReadFault) → CountsFault fault failed after
      → Gives left failed source (stops (fails (Common (fault_of_read fault)))) after
  gives_unread after read.Memory counts = rw counts no_memory
  gives_unread after read.Read counts = rw counts unread

  -- what a source gives over the bytes that were read, by its answer to them
  module _ {source : Source} (after : ℕ) (bytes : List ℕ) (answer : Answer) (ahead : IsAhead bytes left) (counts : after ≡ failed)
      (answers : Answers source bytes answer) where
    -- bytes that are refused
    pub gives_refused : (fault : CliFault) → Refuses fault answer → Gives left failed source (stops (fails (Common fault))) after
    gives_refused fault (inl memory) = rw (memory, counts) no_memory
    gives_refused fault (inr is) = rw counts (refused bytes ahead (subst (λ (a : Answer). Answers source bytes a) is answers))

    -- events that are made
    pub gives_run : (table : tables.Table) (machine : Machine) (fault : Option CliFault) → answer ≡ runs_to table machine fault
        → Gives left failed source (shows table machine fault) after
    gives_run table machine fault is = rw counts (ran bytes ahead (subst (λ (a : Answer). Answers source bytes a) is answers))

    -- the same of a run that is to be shown
    gives_made : (made : GivenRun) → IsRunTo answer made → Gives left failed source (outcome_of_run None made) after
    gives_made (run_in.Picture plan) is = gives_run _ _ _ is
    gives_made (run_in.Listing listing run) is = gives_run _ _ _ is
    gives_made (run_in.Empty window fold run) is = gives_run _ _ _ is
    gives_made (run_in.Lacking name run) is = gives_run _ _ _ is

    pub gives_given : (given : Given) → IsGivenTo answer given → Gives left failed source (outcome_in (Ok given)) after
    gives_given given (none, is) =
        subst (λ (d : Option DepartureIn). Gives left failed source (outcome_of_run d given.made) after) (sym none) (gives_made given.made is)

  -- the text of a history
  pub gives_told : (after : ℕ) (text : List ℕ) (outcome : Outcome) → IsAhead text left → IsToldBy text outcome → after ≡ failed
      → Gives left failed history outcome after
  gives_told after text outcome ahead is same = rw same (told text ahead is)

  -- a text with a fault, or no memory
  pub gives_untold : (after : ℕ) (text : List ℕ) (fault : CliFault) → IsAhead text left
      → (fault ≡ Memory) ⊎ IsToldBy text (stops (fails (Common fault))) → after ≡ failed
      → Gives left failed history (stops (fails (Common fault))) after
  gives_untold after text fault ahead (inl memory) same = rw (memory, same) no_memory
  gives_untold after text fault ahead (inr is) same = rw same (told text ahead is)

-- ---- a run that is shown

-- a text that was written whole, or not to its end
module _ {view : View} {table : tables.Table} {machine : Machine} {departure : Option Departure} {held after : Option (List ℕ)} {failed failures : ℕ} where
  pub shows_whole : AppendsView held after view table machine departure → failures ≡ failed
      → Shows view table machine departure held failed None after failures
  shows_whole appends same = rw same (whole appends)

  pub shows_prefix : AppendsPrefixOfView held after view table machine departure → failures ≡ one_more failed
      → Shows view table machine departure held failed (Some Write) after failures
  shows_prefix begun same = rw same (unwritten begun)

-- a picture that was not drawn to its end
pub pictures_failed : {picture : Picture} {table : tables.Table} {machine : Machine} {departure : Option Departure} {held after : Option (List ℕ)}
    {failed failures : ℕ} → (fault : DrawFault) → AppendsPrefixOfView held after (drawn picture) table machine departure
    → CountsDrawFault fault failed failures
    → Shows (drawn picture) table machine departure held failed (Some (fault_of_drawing fault)) after failures
pictures_failed draw.Memory begun counts = rw counts (cut_off refl begun)
pictures_failed draw.Write begun counts = rw counts (unwritten begun)

module _ {held after : Option (List ℕ)} {failed failures : ℕ} where
  -- a run that is shown in the view that is asked for
  pub ends_shown : (view asked : View) (table : tables.Table) (machine : Machine) (fault reported : Option CliFault) (ends : ShowEnd)
      → asked ≡ view → ends ≡ end_of (excerpt_shown view machine.history) (first_fault fault reported)
      → Shows view table machine None held failed fault after failures
      → ShowsOutcome asked held failed (shows table machine reported) ends after failures
  ends_shown view asked table machine fault reported ends seen is shows_view =
      rw (is, seen) (shown table machine fault reported shows_view)

  -- a picture that is drawn up to a departure
  pub ends_before : (view : View) (picture : Picture) (table : tables.Table) (machine : Machine) (departure : Departure)
      (fault : Option CliFault) (ends : ShowEnd) → view ≡ drawn picture → ends ≡ end_before departure fault
      → Shows (drawn picture) table machine (Some departure) held failed fault after failures
      → ShowsOutcome view held failed (parts table machine departure) ends after failures
  ends_before view picture table machine departure fault ends seen is shows_view =
      rw (is, seen) (cut_short table machine departure picture fault refl shows_view)

-- what is drawn is what the style says
pub excerpt_is : (picture : Picture) (table : tables.Table) (entries : List Entry) (style : Style) → IsStyleOf picture table entries None style
    → excerpt_shown (drawn picture) entries ≡ excerpt_with style
excerpt_is (svg chart) table entries (styles.Svg frame) is = ap (λ s. excerpt_at chart.fold s entries) is.is ∙ sym is.shows.columns.excerpt
excerpt_is (svg chart) table entries (styles.Trace tick) is = absurd is
excerpt_is (trace asked) table entries (styles.Svg frame) is = absurd is
excerpt_is (trace asked) table entries (styles.Trace tick) is = refl
