-- Thirds of what is on a desk, three for each desk but the last one, and two for that.
use Rattle.std.proofs.Common.{ℕ, ◌+◌, ◌-◌, ◌*◌, ◌/◌, ◌<◌, ◌≤◌, inl, inr, arith}
use Rattle.std.proofs.Math.Nat.{lt-mul-div-succ, mul-le-mul, mul-le-mul_left}
use Rattle.std.proofs.lemmas.Bool.{cases_lt}
use Rattle.apex_jobs.proofs.laying.size_beside.Goals as goal

pub returns : goal.returns
returns c =
    let states = c.args.states in
    let desks = c.args.desks in
    let thirds : ℕ = c.saturating_mul-thirds.result - 1 in
    let size : ℕ = states / thirds + 1 in
    let result = c.saturating_mul.result in
    let some : 0 < thirds = omega (arith, c.saturating_mul-thirds.ensures, c.requires) in
    let few : thirds ≤ 3 * desks = omega (arith, c.saturating_mul-thirds.ensures) in
    let room : thirds * size ≤ 3 * desks * size = mul-le-mul few (omega arith) in
    let below : states < thirds * size = lt-mul-div-succ states some in
    elim (cases_lt result (size * 3)) [
      | inl cut ↦
          let most : result * 1 ≤ result * desks = mul-le-mul_left result (omega (arith, c.requires)) in
          omega (arith, c.saturating_mul.ensures, c.saturating_add.ensures, c.ranges.states.fits, cut, most)
      | inr whole ↦
          let wide : size * 3 * desks ≤ result * desks = mul-le-mul whole (omega arith) in
          omega (arith, room, below, wide)
    ]
