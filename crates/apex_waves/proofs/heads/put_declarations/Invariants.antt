-- The declarations so far follow the text.
use Rattle.std.proofs.Common.{◌≡◌, ◌+◌, ◌*◌, ◌≤◌, ◌++◌, length}
use Rattle.std.specs.Prelude.{flat_map}
use Rattle.apex_types.specs.declared.limits.TheConstants.{MOST_PROCESSES}
use Rattle.apex_waves.specs.Heads.{declaration_text}
use Rattle.apex_waves.specs.Kinds.{count_of, signal_at}
use Rattle.apex_moments.specs.Places.{of_places}
use Rattle.apex_waves.specs.declared.heads.TheConstants.{DECLARATION_ROOM}
use Rattle.apex_waves.proofs.heads.put_declarations.Given as goal

abbrev pub invariant-loop-place : goal.invariant-loop-place
invariant-loop-place l = record {
  end : l.place-end ≡ count_of l.table l.kind;
  few : l.place-end ≤ MOST_PROCESSES;
  text : l.sheet ≡ l.fn.sheet ++ flat_map (declaration_text l.table) (of_places (signal_at l.kind) l.place);
  short : length l.sheet ≤ length l.fn.sheet + DECLARATION_ROOM * l.place;
}
