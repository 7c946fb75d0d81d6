use Rattle.std.proofs.Common.{◌≡◌, ◌+◌, ◌-◌, ◌<◌, ◌≤◌, length}
use Rattle.apex_explore.specs.Desks.{IsDesk}
use Rattle.apex_explore.specs.Searches.{IsOver, IsUnderWay, room_of}
use Rattle.apex_explore.specs.Systems.{step_within}
use Rattle.apex_states.specs.Lists.{AllAre}
use Rattle.apex_jobs.specs.Rounds.{AreExpansions}
use Rattle.apex_jobs.proofs.jobs.Jobs.go_on_at_once.Given as goal

abbrev pub invariant-loop-search : goal.invariant-loop-search
invariant-loop-search g l = record {
  over : IsOver (g.S.System.word_count l.system) (g.S.System.is_state l.system) (g.S.System.is_workspace l.system) l.search;
  searched : IsUnderWay (step_within (g.S.System.choice_count l.system) (g.S.System.step l.system)) (g.S.System.start l.system) l.search;
  desks : AllAre (IsDesk (g.S.System.word_count l.system) (g.S.System.is_workspace l.system)) l.desks;
  some : 0 < length l.desks;
  expansions : AreExpansions (step_within (g.S.System.choice_count l.system) (g.S.System.step l.system)) (g.S.System.is_state l.system) l.search.states l.search.front.at l.end l.expansions.items;
  further : l.fn.search.front.at ≤ l.search.front.at;
  before : l.search.front.at < l.end;
  within : l.end ≤ l.limit;
  level : l.search.front.level_end ≡ l.limit;
  room : room_of l.search ≡ room_of l.fn.search;
}

abbrev pub decreases-loop-search : goal.decreases-loop-search
decreases-loop-search g l = l.search.states.room + 1 - l.search.front.at
