use denote.Param.Send.{sendable}
use Rattle.apex_cores.proofs.Crossing.{crosses, report_send}
use Rattle.apex_cores_trials.proofs.cores.crews.Crew.TheSendSync as crew
use Rattle.apex_cores_trials.proofs.cores.crews.run_cores.Goals as goal

pub map_vec-reports-requires-send-J : goal.map_vec-reports-requires-send-J
map_vec-reports-requires-send-J g c κs within = search (sendable, crosses) depth 20

pub map_vec-reports-requires-send-X : goal.map_vec-reports-requires-send-X
map_vec-reports-requires-send-X g c κs within = search (sendable, report_send) depth 20

pub map_vec-reports-requires-sync-F : goal.map_vec-reports-requires-sync-F
map_vec-reports-requires-sync-F g c κs within = search (sendable, crosses, crew.the_sync) depth 20
