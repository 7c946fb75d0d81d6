-- A listing is no picture.
use Rattle.std.proofs.Common.{Option}
use Rattle.apex_showings.specs.Showings.{listed}
use Rattle.apex_showings.specs.declared.Listing.{Listing}
use Rattle.apex_views.specs.Departures.{Departure}
use Rattle.apex_views.specs.Shows.{IsRunFor}
use Rattle.apex_views.specs.declared.GivenRun.{GivenRun}
use Rattle.apex_views.specs.declared.GivenRun.TheVariants as run_in

-- no picture is to be drawn of the run
abbrev pub IsListing : GivenRun → Type 0
IsListing (run_in.Picture plan) = ⊥
IsListing (run_in.Listing listing run) = Unit {0}
IsListing (run_in.Empty window fold run) = ⊥
IsListing (run_in.Lacking name run) = ⊥

-- what is given for a listing is a run of which a listing is to be written
pub is_listing : (listing : Listing) (departure : Option Departure) (made : GivenRun)
    → IsRunFor (listed listing) departure made → IsListing made
is_listing listing departure (run_in.Picture plan) asked = let e = asked.is in cc
is_listing listing departure (run_in.Listing other run) asked = tt
is_listing listing departure (run_in.Empty window fold run) asked = let e = asked.is in cc
is_listing listing departure (run_in.Lacking name run) asked = let e = asked.is in cc
