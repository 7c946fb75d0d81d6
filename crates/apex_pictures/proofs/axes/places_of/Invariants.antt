-- The places of the columns so far.
use Rattle.std.proofs.Common.{◌≡◌, length}
use Rattle.apex_pictures.specs.Axes.{place_of}
use Rattle.apex_moments.specs.Places.{of_places}
use Rattle.apex_pictures.proofs.axes.places_of.Given as goal

abbrev pub invariant-loop-before : goal.invariant-loop-before
invariant-loop-before l = record {
  end : l.before-end ≡ length l.entries;
  items : l.places.items ≡ of_places (place_of l.axis l.entries) l.before;
}
