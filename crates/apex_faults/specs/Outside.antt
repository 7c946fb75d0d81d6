-- The services of ARINC 653 Part 1 that this profile leaves out.
use Rattle.std.specs.Prelude.{codes, ℕ, List, [], ◌∷◌, Option, Some, None, option_map}
use Rattle.std.specs.List.{find}
use Rattle.std.specs.Str.{bytes_eq}
use Rattle.apex_faults.specs.declared.outside.LeftOut as declared

-- such a service, and the service that this profile has in its place, if it has one
pub record LeftOut : Type 0 where
  pub word : List ℕ
  pub instead : Option (List ℕ)

-- one of the code, as a call sees it
abbrev pub view : declared.LeftOut → LeftOut
view given = record { word = given.word.now; instead = option_map (λ w. w.now) given.instead }

abbrev pub replaced : List ℕ → List ℕ → LeftOut
replaced word instead = record { word = word; instead = Some instead }

abbrev pub without : List ℕ → LeftOut
without word = record { word = word; instead = None }

-- all of them: preemption, indices of processes, mutexes, sampling ports, queuing ports, and health monitoring
abbrev pub left_out : List LeftOut
left_out =
    replaced (codes "LOCK_PREEMPTION") (codes "ACQUIRE_MUTEX")
    ∷ replaced (codes "UNLOCK_PREEMPTION") (codes "RELEASE_MUTEX")
    ∷ replaced (codes "GET_MY_INDEX") (codes "GET_MY_ID")
    ∷ without (codes "RESET_MUTEX")
    ∷ replaced (codes "GET_PROCESS_MUTEX_STATE") (codes "GET_MUTEX_STATUS")
    ∷ replaced (codes "CREATE_SAMPLING_PORT") (codes "CREATE_BLACKBOARD")
    ∷ replaced (codes "WRITE_SAMPLING_MESSAGE") (codes "DISPLAY_BLACKBOARD")
    ∷ replaced (codes "READ_SAMPLING_MESSAGE") (codes "READ_BLACKBOARD")
    ∷ replaced (codes "GET_SAMPLING_PORT_ID") (codes "GET_BLACKBOARD_ID")
    ∷ replaced (codes "GET_SAMPLING_PORT_STATUS") (codes "GET_BLACKBOARD_STATUS")
    ∷ replaced (codes "CREATE_QUEUING_PORT") (codes "CREATE_BUFFER")
    ∷ replaced (codes "SEND_QUEUING_MESSAGE") (codes "SEND_BUFFER")
    ∷ replaced (codes "RECEIVE_QUEUING_MESSAGE") (codes "RECEIVE_BUFFER")
    ∷ replaced (codes "GET_QUEUING_PORT_ID") (codes "GET_BUFFER_ID")
    ∷ replaced (codes "GET_QUEUING_PORT_STATUS") (codes "GET_BUFFER_STATUS")
    ∷ without (codes "CLEAR_QUEUING_PORT")
    ∷ without (codes "REPORT_APPLICATION_MESSAGE")
    ∷ without (codes "CREATE_ERROR_HANDLER")
    ∷ without (codes "CONFIGURE_ERROR_HANDLER")
    ∷ without (codes "GET_ERROR_STATUS")
    ∷ without (codes "RAISE_APPLICATION_ERROR") ∷ []

-- the one of this word
abbrev pub left_out_in : List LeftOut → List ℕ → Option LeftOut
left_out_in rows word = find (λ (row : LeftOut). bytes_eq row.word word) rows
