use denote.Param.Send.{sendable}
use Rattle.apex_cores.proofs.Crossing.{crosses}
use Rattle.apex_cores_trials.proofs.Crossing.{option_send}
use Rattle.apex_cores_trials.proofs.cores.crews.Crew.TheSendSync as crew
use Rattle.apex_cores_trials.proofs.cores.crews.run_workers.Goals as goal

pub join-requires-send-F : goal.join-requires-send-F
join-requires-send-F g c κs within = search (sendable, crosses, option_send, crew.the_sync) depth 20
