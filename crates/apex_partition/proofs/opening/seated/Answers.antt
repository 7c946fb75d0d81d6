use Rattle.apex_types.specs.declared.entries.Who.TheVariants.{Core}
use Rattle.std.proofs.Common.{◌≡◌, ℕ, ◌<◌, ◌++◌, ap, sym, ◌∙◌, arith, rules, length}
use Rattle.std.specs.Prelude.{List}
use Rattle.std.specs.Vec.Iter.{into_iter_items}
use Rattle.apex_receipts.specs.Receipts.{Spoken}
use Rattle.std.proofs.lemmas.Grind.{common_steps}
use Rattle.apex_partition.proofs.Seated.{unspoken_at}
use Rattle.apex_partition.proofs.opening.seated.Given.{Over}
use Rattle.apex_partition.proofs.opening.seated.Goals.{After-len}
use Rattle.apex_partition.proofs.opening.seated.Goals as goal

-- the voice is that of the core whose number is the number of the seats so far
next_core : (g : Over) (c : After-len g) → (c.in-Some.voice.who ≡ Core c.len.result) × (c.len.result < g.P.Naming.table.cores)
next_core g c =
    let there = unspoken_at 0 _ c.loop-voice.seats.items c.in-Some.voice (into_iter_items c.next.new.self)
    (ap (λ (rest : List Spoken). c.loop-voice.seats.items ++ rest) (sym c.in-Some.ensures.steps.0) ∙ c.loop-voice.invariant) in
    let count : c.len.result ≡ length c.loop-voice.seats.items = search rules in
    (there.0 ∙ ap (λ (core : ℕ). Core core) (omega (arith, count)), omega (arith, there.1, count))

pub overflow_cast-len : goal.overflow_cast-len
overflow_cast-len g c = omega (arith, (next_core g (goal.at.overflow_cast-len g c).After-len).1, c.requires.few_cores)

pub new-core-requires : goal.new-core-requires
new-core-requires g c = omega (arith, (next_core g (goal.at.new-core-requires g c).After-len).1, c.requires.few_cores)

pub new-requires-clause-who : goal.new-requires-clause-who
new-requires-clause-who g c =
    (next_core g (goal.at.new-requires-clause-who g c).After-len).0 ∙ ap (λ (core : ℕ). Core core) (omega (arith, c.new-core.ensures))

pub new-requires-clause-core : goal.new-requires-clause-core
new-requires-clause-core g c =
    omega (arith, (next_core g (goal.at.new-requires-clause-core g c).After-len).1, c.new-core.ensures)

pub loop-voice-preserved : goal.loop-voice-preserved
loop-voice-preserved g c = grind (arith, common_steps)

pub returns : goal.returns
returns g c = grind (arith, common_steps)
