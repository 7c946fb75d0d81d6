-- The changes so far follow the text, and the levels so far are given.
use Rattle.std.proofs.Common.{◌≡◌, ◌+◌, ◌*◌, ◌≤◌, ◌++◌, length, take}
use Rattle.std.specs.Prelude.{flat_map, map}
use Rattle.arrayvec.specs.ArrayVec.{array_vec_len}
use Rattle.apex_waves.specs.Levels.{level_of}
use Rattle.apex_waves.specs.Snapshots.{Snapshot, snapshot_in}
use Rattle.apex_waves.specs.Values.{change_in}
use Rattle.apex_waves.specs.declared.values.TheConstants.{VALUE_ROOM}
use Rattle.apex_waves.proofs.values.put_changes.Given as goal

abbrev pub invariant-loop-place : goal.invariant-loop-place
invariant-loop-place g l =
    let table = l.kernel.table in
    let moment = snapshot_in table l.kernel.machine in
    record {
      end : l.place-end ≡ length l.signals;
      many : array_vec_len l.after ≡ l.place;
      text : (old : Snapshot) → l.before ≡ map (level_of old) l.signals
          → l.sheet ≡ l.fn.sheet ++ flat_map (change_in table old moment) (take l.place l.signals);
      levels : l.after.items ≡ map (level_of moment) (take l.place l.signals);
      short : length l.sheet ≤ length l.fn.sheet + VALUE_ROOM * l.place;
    }
