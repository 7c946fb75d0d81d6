use Rattle.std.proofs.Common.{◌≡◌, ℕ, arith, length, rules, subst}
use Rattle.std.specs.Prelude.{vec_len}
use Rattle.apex_cores.specs.Threads.{HaveWorked}
use Rattle.apex_cores.proofs.Closing.{HasClosed, by_threads}
use Rattle.apex_cores.proofs.Rows.{seated}
use Rattle.apex_cores.proofs.runs.run_to_close.Goals as goal

pub close-closed-requires-clause-seated : goal.close-closed-requires-clause-seated
close-closed-requires-clause-seated g c = seated c.args.run.now.plan.turns 0 c.in_ok-seats.field-0.seats.items c.in_ok-seats.ensures.done.cores

pub returns-clause-ran : goal.returns-clause-ran
returns-clause-ran g c =
    let plan = c.args.run.now.plan in
    let seats = c.in_ok-seats.field-0.seats in
    let ticker = c.in_ok-seats.field-0.ticker in
    let close = c.close-closed.ensures in
    let count : vec_len seats ≡ length seats.items = search rules in
    let closed : HasClosed g.P.Naming.table c.close-closed.result seats.items ticker = record {
      run = close.run;
      room = c.holds.ensures.within;
      others = close.others;
      settled = λ core seat below. close.seats core seat (omega (arith, count, below));
      ticker = close.ticker;
    } in
    by_threads g.P.Naming.table plan c.close-closed.result seats.items ticker closed
    (subst (λ (n : ℕ). HaveWorked plan n seats.items ticker) c.requires.each c.in_ok-seats.ensures.done)
