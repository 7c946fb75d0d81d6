use Rattle.std.proofs.Common.{◌≡◌, ◌<◌, ap, length, None, Some, rules}
use Rattle.std.specs.List.{last_or}
use Rattle.apex_calls.specs.Lines.{IsPrintable}
use Rattle.apex_dispatch.specs.Kernel.{KernelState}
use Rattle.apex_check.proofs.MoreLines.{latest_adds, latest_holds, latest_some}
use Rattle.apex_check.proofs.following.compare.Goals as goal

pub returns-in_default-latest-clause-answers : goal.returns-in_default-latest-clause-answers
returns-in_default-latest-clause-answers g c =
    let old = c.args.kernel.now in
    let room : length old.machine.history < old.table.limit = search rules in
    let none : last_or None c.accept.new.self.machine.history ≡ None = search rules in
    absurd (latest_some old.table old.machine c.args.event c.accept.new.self.machine.history room
    (ap (λ (k : KernelState _). k.machine.history) c.accept.ensures.done) none)

pub line-requires : goal.line-requires
line-requires g c =
    let old = c.args.kernel.now in
    let new = c.accept.new.self in
    let room : length old.machine.history < old.table.limit = search rules in
    let is : last_or None new.machine.history ≡ Some c.in-Some.entry = search rules in
    rw c.table.ensures (latest_holds old.table old.machine c.args.event new.machine.history room
    (ap (λ (k : KernelState _). k.machine.history) c.accept.ensures.done) (IsPrintable new.table) c.in-Some.entry is c.holds.ensures.printable)

pub returns-then-eq-clause-answers : goal.returns-then-eq-clause-answers
returns-then-eq-clause-answers g c =
    let old = c.args.kernel.now in
    let new = c.accept.new.self in
    let room : length old.machine.history < old.table.limit = search rules in
    let is : last_or None new.machine.history ≡ Some c.in-Some.entry = search rules in (
      c.in-Some.entry,
      latest_adds old.table old.machine c.args.event new.machine.history room
          (ap (λ (k : KernelState _). k.machine.history) c.accept.ensures.done) c.in-Some.entry is,
      search rules,
    )

pub returns-else-eq-clause-answers : goal.returns-else-eq-clause-answers
returns-else-eq-clause-answers g c =
    let old = c.args.kernel.now in
    let new = c.accept.new.self in
    let room : length old.machine.history < old.table.limit = search rules in
    let is : last_or None new.machine.history ≡ Some c.in-Some.entry = search rules in
    let ran = ap (λ (k : KernelState _). k.machine.history) c.accept.ensures.done in
    (c.in-Some.entry, latest_adds old.table old.machine c.args.event new.machine.history room ran c.in-Some.entry is, search rules)
