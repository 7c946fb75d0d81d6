use Rattle.std.proofs.Common.{◌≡◌, ◌∙◌, ◌+◌, ◌-◌, ◌≤◌, List, ℕ, ◌++◌, ap, arith, length, take}
use Rattle.std.specs.List.{slice_range}
use Rattle.apex_incoming.proofs.Windows.{came, grown, moved}
use Rattle.apex_incoming.proofs.pending.Pending.fill.Goals as goal

pub returns-clause-kept : goal.returns-clause-kept
returns-clause-kept g c =
    let w = c.self.inside in
    let n = w.end - w.start in
    let room = c.copy_within.new.self in
    let buf = c.read.new.buf in
    let count = c.in_ok-count.count in
    let within : w.end ≤ length w.room = omega (arith, c.self.invariant.0, c.self.invariant.2) in
    let here : n ≤ length room = omega (arith, c.copy_within.ensures.len, within) in
    let front : slice_range room 0 n ≡ c.args.self.now =
    moved w.room room w.start w.end within c.copy_within.ensures.after ∙ c.self.view_is in
    let more = grown room buf 0 n (n + 16384 - n) count (omega arith) here c.in_ok-count.ensures.bound.0 in
    came _ _ _ _ _ (more ∙ ap (λ (l : List ℕ). l ++ take count buf) front) c.in_ok-count.ensures.bytes.0
