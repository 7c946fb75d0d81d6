use Rattle.std.proofs.Common.{◌≡◌, ℕ, nat_lt, option_map, if◌then◌else◌}
use Rattle.apex_machine.specs.Works.{watched}
use Rattle.apex_dispatch.specs.Works.{work_at}
use Rattle.apex_dispatch.proofs.works.Works.watch_cores.Given as goal

abbrev pub invariant-loop-core : goal.invariant-loop-core
invariant-loop-core g l = (c : ℕ) → work_at l.self c
    ≡ (if nat_lt c l.core then option_map (watched (g.S.Store.roster l.store) c) (work_at l.fn.self c) else work_at l.fn.self c)
