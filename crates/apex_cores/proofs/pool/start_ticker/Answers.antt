use denote.Param.Send.{sendable}
use Rattle.apex_cores.proofs.Crossing.{crosses}
use Rattle.apex_cores.proofs.pool.start_ticker.Goals as goal

pub spawn_with-requires-send-F : goal.spawn_with-requires-send-F
spawn_with-requires-send-F g c κs within = search (sendable, crosses) depth 20

pub spawn_with-requires-send-T : goal.spawn_with-requires-send-T
spawn_with-requires-send-T g c κs within = search (sendable, crosses) depth 20
