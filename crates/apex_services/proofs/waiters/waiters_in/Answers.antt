-- Each one that is found goes behind those before it.
use Rattle.std.proofs.Common.{◌≡◌, ◌-◌, ◌∷◌, [], ◌++◌, length, suc, refl, sym, ap, ◌∙◌, arith, length-append, append_assoc, append-nil}
use Rattle.apex_machine.specs.text.Listing.{waiters, waiters_from}
use Rattle.apex_machine.specs.processes.Waiters.{next_waiter}
use Rattle.apex_laws.proofs.Queued.{first_stands, next_stands, none_behind}
use Rattle.apex_services.proofs.waiters.waiters_in.Goals as goal

pub loop-round-init : goal.loop-round-init
unfolding waiters
loop-round-init g c =
    let roster = g.S.Store.roster c.args.store.now in
    record {
      end = c.process_count-round-end.ensures.value;
      within = omega arith;
      many = ap length c.new-waiting.ensures;
      known = c.first-next.ensures.known;
      stands = first_stands roster c.args.queue.now _ c.first-next.ensures.value;
      rest = λ left e.
          let all : left ≡ length roster.records = omega (arith, e, c.process_count-round-end.ensures.value) in
          rw (c.new-waiting.ensures, all, c.first-next.ensures.value) refl;
    }

pub returns-in-None : goal.returns-in-None
returns-in-None g c =
    let roster = g.S.Store.roster c.args.store.now in
    let waiting = c.loop-round.waiting in
    let left = c.process_count-round-end.result - c.loop-round.round in
    let all = c.loop-round.invariant.rest left (omega (arith, c.loop-round.invariant.within)) in
    sym (append-nil waiting) ∙ ap (λ l. waiting ++ l) (sym (none_behind roster c.args.queue.now left)) ∙ (rw c.in-None.is at all)

pub loop-round-preserved : goal.loop-round-preserved
loop-round-preserved g c =
    let roster = g.S.Store.roster c.args.store.now in
    let waiting = c.loop-round.waiting in
    let process = c.in-Some.process in
    let before = c.loop-round.invariant in
    record {
      end = before.end;
      within = omega (arith, c.loop-round-test.true);
      many = rw (c.push.ensures, length-append) (omega (arith, before.many));
      known = c.next_after-next.ensures.known;
      stands = next_stands roster c.args.queue.now process _ c.next_after-next.ensures.value;
      rest = λ left e.
          let behind = waiters_from roster c.args.queue.now left (next_waiter roster c.args.queue.now process) in
          let all = before.rest (suc left) (omega (arith, e)) in
          rw (c.push.ensures, c.next_after-next.ensures.value)
          (append_assoc waiting (process ∷ []) behind ∙ (rw c.in-Some.is at all));
    }

pub returns : goal.returns
returns g c =
    let waiting = c.loop-round.waiting in
    let all = c.loop-round.invariant.rest 0 (omega (arith, c.loop-round.invariant.within, c.loop-round-test.false)) in
    sym (append-nil waiting) ∙ all
