use Rattle.std.proofs.Common.{◌≡◌, ℕ, suc, ◌+◌, ◌<◌, List, length, length-append, ap, arith}
use Rattle.std.proofs.Math.Nat.{mul-le-mul_right, suc-mul}
use Rattle.apex_states.specs.Rows.{Packed}
use Rattle.apex_states.proofs.Packing.{rows_in-length, rows_in-push}
use Rattle.apex_states.proofs.rows.Rows.push.Goals as goal

pub overflow_add-self : goal.overflow_add-self
overflow_add-self c =
    let below : c.self.inside.count < c.self.inside.room = rw (← c.self.view_is, rows_in-length) at c.requires.room in
    omega arith

pub invariant_of-self : goal.invariant_of-self
invariant_of-self c =
    let below : c.self.inside.count < c.self.inside.room = rw (← c.self.view_is, rows_in-length) at c.requires.room in
    let long : length c.args.row.now ≡ c.self.inside.width = rw (← c.self.view_is) at c.requires.width in
    record {
      whole = rw c.in-Ok.ensures.items (omega (arith, length-append c.self.inside.words.items c.args.row.now, c.self.invariant.whole, suc-mul c.self.inside.count c.self.inside.width));
      within = omega arith;
      reserved = omega (arith, c.self.invariant.reserved, c.in-Ok.ensures.capacity);
    }

-- The room that is taken is enough for one row more.
pub unreachable-requires : goal.unreachable-requires
unreachable-requires c =
    let below : c.self.inside.count < c.self.inside.room = rw (← c.self.view_is, rows_in-length) at c.requires.room in
    let long : length c.args.row.now ≡ c.self.inside.width = rw (← c.self.view_is) at c.requires.width in
    omega (arith, c.self.invariant.whole, c.self.invariant.reserved, c.in-Err.ensures.full, suc-mul c.self.inside.count c.self.inside.width, mul-le-mul_right {m = suc c.self.inside.count} {n = c.self.inside.room} c.self.inside.width (omega arith))

pub returns : goal.returns
returns c =
    let long : length c.args.row.now ≡ c.self.inside.width = rw (← c.self.view_is) at c.requires.width in
    let more : suc c.self.inside.count ≡ c.self.inside.count + 1 = omega arith in
    let pushed = rows_in-push c.self.inside.width c.self.inside.count c.self.inside.words.items c.args.row.now c.self.invariant.whole long in
    let seen : List (List ℕ) → Packed = λ rows. record { width = c.self.inside.width; room = c.self.inside.room; rows = rows } in
    rw (← c.self.view_is, c.in-Ok.ensures.items, ← more) (ap seen pushed)
