use Rattle.std.proofs.Common.{◌≡◌, ◌<◌, ◌≤◌, ℕ, All, List, [], ◌∷◌, ◌++◌, Option, IfSome, length, ap, sym, subst, ◌∙◌, arith, rules}
use Rattle.std.proofs.lemmas.List.FromFn.{length-map-range_with_len, map-range_with_len_more}
use Rattle.apex_types.specs.declared.limits.TheConstants.{MOST_ENTRIES, MOST_PROCESSES}
use Rattle.apex_machine.specs.processes.Running.{chosen}
use Rattle.apex_machine.proofs.BothProfiles.{lawful_count}
use Rattle.apex_partition.specs.Headline.{PartitionState}
use Rattle.apex_board.specs.Fronts.{IsSmallId}
use Rattle.apex_partition.proofs.Fronts.{all_more, small_choice}
use Rattle.apex_partition.proofs.partitions.Partition.front.Goals as goal

pub push-requires : goal.push-requires
push-requires c =
    let many : length c.loop-core.chosen.items ≡ c.loop-core.core =
    ap (λ (l : List (Option ℕ)). length l) c.loop-core.invariant.chosen ∙ length-map-range_with_len _ 0 c.loop-core.core in
    let more : c.loop-core.core < c.cores-core-end.result = search rules in
    let room : length c.loop-core.chosen.items < 8 = omega (arith, many, more, c.cores-core-end.ensures.range) in
    (search rules, room)

pub loop-core-preserved : goal.loop-core-preserved
loop-core-preserved c =
    let roster = c.args.self.now.machine.roster in
    let running = c.chosen.result in
    let core = c.loop-core.core in
    let next : running ≡ chosen roster core = c.chosen.ensures.value ∙ ap (λ (k : ℕ). chosen roster k) c.new.ensures in
    let kernel = c.self.inside.kernel in
    let is : c.args.self.now ≡ kernel = search rules in
    let count = (lawful_count _ c.holds.ensures.lawful).1 in
    let few : length roster.records ≤ MOST_PROCESSES =
    subst (λ (k : PartitionState). length k.machine.roster.records ≤ MOST_PROCESSES) (sym is) (omega (arith, c.holds.ensures.records, count)) in
    let small = λ (choice : Option ℕ). IfSome choice IsSmallId in
    record {
      chosen =
          c.push.ensures.items
          ∙ (λ i. c.loop-core.invariant.chosen i ++ next i ∷ [])
          ∙ sym (map-range_with_len_more (chosen roster) 0 core core (omega arith));
      small = subst (λ (l : List (Option ℕ)). All small l) (sym c.push.ensures.items)
          (all_more small c.loop-core.chosen.items running c.loop-core.invariant.small (small_choice (length roster.records) running c.chosen.ensures.known few));
    }

pub returns-clause-fits : goal.returns-clause-fits
returns-clause-fits c =
    let many : length c.loop-core.chosen.items ≡ c.loop-core.core =
    ap (λ (l : List (Option ℕ)). length l) c.loop-core.invariant.chosen ∙ length-map-range_with_len _ 0 c.loop-core.core in
    let done : c.loop-core.core ≤ c.cores-core-end.result = search rules in
    let kernel = c.self.inside.kernel in
    let is : c.args.self.now ≡ kernel = search rules in
    let within : length c.args.self.now.machine.history ≤ MOST_ENTRIES =
    subst (λ (k : PartitionState). length k.machine.history ≤ MOST_ENTRIES) (sym is) (omega (arith, c.holds.ensures.within, c.holds.ensures.lawful.limit.1)) in
    let count : c.len.result ≡ length c.args.self.now.machine.history = search rules in
    record {
      entries = omega (arith, count, within);
      cores = omega (arith, many, done, c.cores-core-end.ensures.range);
      ids = c.loop-core.invariant.small;
    }
