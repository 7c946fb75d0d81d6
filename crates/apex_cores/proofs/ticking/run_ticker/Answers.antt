use Rattle.std.proofs.Common.{◌≡◌, arith, sym}
use Rattle.apex_cores.proofs.Running.{cut_ticks, no_tick_yet, tick_more, whole_ticks}
use Rattle.apex_cores.proofs.ticking.run_ticker.Goals as goal

pub loop-made-init : goal.loop-made-init
loop-made-init g c = no_tick_yet c.args.ticker

pub returns-in_default : goal.returns-in_default
returns-in_default g c =
    rw c.in_default.ensures.learns (cut_ticks c.args.ticker c.loop-made.ticker c.loop-made.made c.args.ticks c.loop-made-test.true c.loop-made.invariant)

pub loop-made-preserved : goal.loop-made-preserved
loop-made-preserved g c =
    let ok = c.in-Ok.ensures.ok in
    rw ok.0 (tick_more c.args.ticker c.loop-made.ticker c.loop-made.made c.in-Ok._receipt.entry c.in-Ok.ensures.asks c.loop-made.invariant)

pub returns : goal.returns
returns g c =
    let all : c.loop-made.made ≡ c.args.ticks = omega arith in
    rw (sym all) (whole_ticks c.args.ticker c.loop-made.ticker c.loop-made.made c.loop-made.invariant)
