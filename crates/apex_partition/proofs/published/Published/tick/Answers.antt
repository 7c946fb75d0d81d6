use Rattle.std.proofs.Common.{◌≡◌, ◌+◌, [], ◌∷◌, ap, ◌∙◌, arith, length, length-append}
use Rattle.std.specs.Prelude.{List}
use Rattle.apex_partition.specs.Headline.{PartitionState}
use Rattle.apex_types.specs.declared.entries.Entry.{Entry}
use Rattle.apex_types.specs.declared.entries.Who.TheVariants.{Ticker}
use Rattle.apex_receipts.specs.Receipts.{Spoken}
use Rattle.apex_partition.specs.Seats.{IsLatest, asked_ticks, ticks_asked}
use Rattle.apex_partition.proofs.Latest.{tick_adds, tick_asks, tick_entry, ticks_added}
use Rattle.apex_partition.proofs.published.Published.tick.Given.{Over}
use Rattle.apex_partition.proofs.published.Published.tick.Goals.{After-record_latest-receipt}
use Rattle.apex_partition.proofs.published.Published.tick.Goals as goal

-- the entry that was written down asks for these ticks
asked : (g : Over) (c : After-record_latest-receipt g) → asked_ticks c.record_latest-receipt.result.entry ≡ c.args.n
asked g c =
    let old = c.self.inside.partition in
    let e = c.record_latest-receipt.result.entry in
    let history = ap (λ (k : PartitionState). k.machine.history) c.in_default.ensures.done in
    let latest : IsLatest old.machine.history Ticker e c.tick.new.self.machine.history =
    rw (← c.self.invariant.1, ← c.ticker.invariant.0) c.record_latest-receipt.ensures.latest in
    tick_asks old.table old.machine c.args.n e (rw (← history) latest)

pub record_latest-receipt-requires-clause-latest : goal.record_latest-receipt-requires-clause-latest
record_latest-receipt-requires-clause-latest g c =
    let old = c.self.inside.partition in
    let added = ap (λ (k : PartitionState). k.machine.history) c.in_default.ensures.done in (
      tick_entry old.table old.machine c.args.n,
      rw (c.self.invariant.1, c.ticker.invariant.0, added) (tick_adds old.table old.machine c.args.n),
    )

pub invariant_of-ticker-2 : goal.invariant_of-ticker-2
invariant_of-ticker-2 g c =
    let made = c.record_latest-receipt.ensures in
    let e = c.record_latest-receipt.result.entry in
    let asks = asked g (goal.at.invariant_of-ticker-2 g c).After-record_latest-receipt in
    let own = ap (λ (s : Spoken). s.own) made.voice in
    let sum : ticks_asked c.record_latest-receipt.new.voice.own ≡ ticks_asked c.ticker.inside.voice.own + asked_ticks e =
    ap ticks_asked own ∙ ticks_added c.ticker.inside.voice.own e in
    let many : length c.record_latest-receipt.new.voice.own ≡ length c.ticker.inside.voice.own + 1 =
    ap (λ (l : List Entry). length l) own ∙ length-append c.ticker.inside.voice.own (e ∷ []) in
    let from = c.from.ensures in (
      ap (λ (s : Spoken). s.who) made.voice ∙ c.ticker.invariant.0,
      omega (arith, sum, asks, c.ticker.invariant.1, from),
      omega (arith, many, c.ticker.invariant.2, from, c.requires.range.1),
    )

pub returns-clause-asks : goal.returns-clause-asks
returns-clause-asks g c = asked g (goal.at.returns-clause-asks g c).After-record_latest-receipt
