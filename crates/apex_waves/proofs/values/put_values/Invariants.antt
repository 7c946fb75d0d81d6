-- The values so far follow the text, and their levels are given.
use Rattle.std.proofs.Common.{◌≡◌, ◌+◌, ◌*◌, ◌≤◌, ◌++◌, length, take}
use Rattle.std.specs.Prelude.{flat_map, map}
use Rattle.arrayvec.specs.ArrayVec.{array_vec_len}
use Rattle.apex_waves.specs.Levels.{level_of}
use Rattle.apex_waves.specs.Snapshots.{snapshot_in}
use Rattle.apex_waves.specs.Values.{value_in}
use Rattle.apex_waves.specs.declared.values.TheConstants.{VALUE_ROOM}
use Rattle.apex_waves.proofs.values.put_values.Given as goal

abbrev pub invariant-loop-signal : goal.invariant-loop-signal
invariant-loop-signal g l =
    let table = l.kernel.table in
    let moment = snapshot_in table l.kernel.machine in
    record {
      many : array_vec_len l.levels ≡ l.signal-index;
      text : l.sheet ≡ l.fn.sheet ++ flat_map (value_in table moment) (take l.signal-index l.signals);
      levels : l.levels.items ≡ map (level_of moment) (take l.signal-index l.signals);
      short : length l.sheet ≤ length l.fn.sheet + VALUE_ROOM * l.signal-index;
    }
