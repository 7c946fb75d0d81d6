-- The instants of a history, one entry more each time.
use Rattle.std.proofs.Common.{◌≡◌, ◌∙◌, ℕ, ◌+◌, ◌≤◌, Bool, false, true, List, [], ◌∷◌, ◌++◌, ap, arith, length, refl}
use Rattle.std.specs.Prelude.{◌==◌, if◌then◌else◌}
use Rattle.apex_moments.specs.Instants.{instant_after, instant_from, next_instant, opening_instant}
use Rattle.apex_moments.specs.Terms.{Entry}
use Rattle.apex_moments.specs.declared.instants.Instant.{Instant}

-- the instant after one entry more
instant_push : (instant : Instant) (done : List Entry) (entry : Entry)
    → instant_from instant (done ++ entry ∷ []) ≡ next_instant (instant_from instant done) entry.now
instant_push instant [] entry = refl
instant_push instant (e ∷ done) entry = instant_push (next_instant instant e.now) done entry

pub instant_next : (done : List Entry) (entry : Entry)
    → instant_after (done ++ entry ∷ []) ≡ next_instant (instant_after done) entry.now
instant_next done entry = instant_push opening_instant done entry

-- the instant of a time, which is that before or not
abbrev stepped : Bool → Instant → ℕ → Instant
stepped same instant now = if same then record { now = now; place = instant.place + 1 } else record { now = now; place = 0 }

stepped_now : (same : Bool) (instant : Instant) (now : ℕ) → (stepped same instant now).now ≡ now
stepped_now true instant now = refl
stepped_now false instant now = refl

stepped_place : (same : Bool) (instant : Instant) (now : ℕ) → (stepped same instant now).place ≤ instant.place + 1
stepped_place true instant now = omega arith
stepped_place false instant now = omega arith

-- the time of the next instant
pub next_now : (instant : Instant) (now : ℕ) → (next_instant instant now).now ≡ now
next_now instant now = stepped_now (now == instant.now) instant now

-- the place of the next instant is one more at the most
next_place : (instant : Instant) (now : ℕ) → (next_instant instant now).place ≤ instant.place + 1
next_place instant now = stepped_place (now == instant.now) instant now

-- a place is no greater than the number of entries
place_from : (instant : Instant) (done : List Entry) → (instant_from instant done).place ≤ instant.place + length done
place_from instant [] = omega arith
place_from instant (entry ∷ done) =
    omega (arith, place_from (next_instant instant entry.now) done, next_place instant entry.now)

pub place_within : (done : List Entry) → (instant_after done).place ≤ length done
place_within done = omega (arith, place_from opening_instant done)
