-- The instants of a line's processes, its first process, and the changes by a new instant.
use Rattle.std.proofs.Common.{◌≡◌, ◌≢◌, ℕ, ◌<◌, true, length, Option, None, Some, refl, ap, ◌∙◌, arith}
use Rattle.std.proofs.lemmas.Grind.{get_or-set_at}
use Rattle.std.proofs.lemmas.List.{get_or-set_other, length-set}
use Rattle.apex_links.specs.Neighbours.{stands_in, IsDistinct}
use Rattle.apex_links.specs.Links.{without}
use Rattle.apex_links.proofs.Places.{stands_placed, stays_without, without_gone}
use Rattle.apex_timeouts.specs.Timeline.{Times, armed, disarmed, instant_on, is_later, IsReset}

-- process p has the instant already
pub same_reset : (times : Times) (p : ℕ) (instant : Option ℕ) → instant_on times p ≡ instant → IsReset times times p instant
same_reset times p instant e = record { here = e; others = λ q apart. refl; count = refl }

-- process p has another instant, or none
module _ (times : Times) (p : ℕ) (known : p < length times.instants) (distinct : IsDistinct times.order) where
  gone : instant_on (disarmed times p) p ≡ None
  gone = rw (without_gone p times.order distinct) refl

  stays : (q : ℕ) → q ≢ p → instant_on (disarmed times p) q ≡ instant_on times q
  stays q apart = rw (stays_without p q times.order apart) refl

  here_armed : (i : ℕ) → instant_on (armed (disarmed times p) p i) p ≡ Some i
  here_armed i =
      let there : stands_in p (armed (disarmed times p) p i).order ≡ true = stands_placed (is_later times.instants p i) p p (without p times.order) ∙ grind arith in
      rw there (ap Some (get_or-set_at times.instants p p i 0 refl known))

  others_armed : (i q : ℕ) → q ≢ p → instant_on (armed (disarmed times p) p i) q ≡ instant_on times q
  others_armed i q apart =
      let there : stands_in q (armed (disarmed times p) p i).order ≡ stands_in q times.order =
      stands_placed (is_later times.instants p i) p q (without p times.order) ∙ grind (arith, apart, stays_without p q times.order apart) in
      rw (there, get_or-set_other times.instants p q i 0 apart) refl

  pub reset_none : IsReset times (disarmed times p) p None
  reset_none = record { here = gone; others = stays; count = refl }

  pub reset_some : (i : ℕ) → IsReset times (armed (disarmed times p) p i) p (Some i)
  reset_some i = record { here = here_armed i; others = others_armed i; count = length-set times.instants p i }
