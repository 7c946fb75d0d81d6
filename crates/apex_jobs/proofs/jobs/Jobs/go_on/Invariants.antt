use Rattle.std.proofs.Common.{◌≡◌, ◌+◌, ◌-◌, ◌<◌, length}
use Rattle.apex_explore.specs.Desks.{IsDesk}
use Rattle.apex_explore.specs.Searches.{IsOver, IsUnderWay, room_of}
use Rattle.apex_explore.specs.Systems.{step_within}
use Rattle.apex_states.specs.Lists.{AllAre}
use Rattle.apex_jobs.proofs.jobs.Jobs.go_on.Given as goal

abbrev pub invariant-loop-desks : goal.invariant-loop-desks
invariant-loop-desks g l = record {
  over : IsOver (g.S.System.word_count l.system) (g.S.System.is_state l.system) (g.S.System.is_workspace l.system) l.search;
  searched : IsUnderWay (step_within (g.S.System.choice_count l.system) (g.S.System.step l.system)) (g.S.System.start l.system) l.search;
  desks : AllAre (IsDesk (g.S.System.word_count l.system) (g.S.System.is_workspace l.system)) l.desks;
  some : 0 < length l.desks;
  room : room_of l.search ≡ room_of l.initial.search;
}

abbrev pub decreases-loop-desks : goal.decreases-loop-desks
decreases-loop-desks g l = l.search.states.room + 1 - l.search.front.at
