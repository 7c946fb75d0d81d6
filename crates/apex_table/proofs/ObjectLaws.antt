-- The objects that are read are lawful, kind by kind.
use Rattle.std.proofs.Common.{IfOk}
use Rattle.std.proofs.lemmas.Result.{IfOk-at_ok}
use Rattle.toml.specs.Data.{Members}
use Rattle.apex_machine.specs.table.Table.{IsLawfulSemaphore, IsLawfulBuffer, IsLawfulBlackboard, IsLawfulEventFlag, IsLawfulMutex}
use Rattle.apex_table.specs.Sections.{section}
use Rattle.apex_table.specs.Semaphores.{semaphores}
use Rattle.apex_table.specs.Buffers.{buffers}
use Rattle.apex_table.specs.Blackboards.{blackboards}
use Rattle.apex_table.specs.EventFlags.{event_flags}
use Rattle.apex_table.specs.Mutexes.{mutexes}
use Rattle.apex_configs.specs.Objects.{Objects}
use Rattle.apex_table.specs.Objects.{objects}
use Rattle.apex_table.proofs.Results.{ok_then}
use Rattle.apex_table.proofs.SectionLaws.{IsSection, section_law}
use Rattle.apex_table.proofs.SemaphoreLaws.{semaphore_law}
use Rattle.apex_table.proofs.BufferLaws.{buffer_law}
use Rattle.apex_table.proofs.BlackboardLaws.{blackboard_law}
use Rattle.apex_table.proofs.EventFlagLaws.{event_flag_law}
use Rattle.apex_table.proofs.MutexLaws.{mutex_law}

-- the facts about the objects that are read
pub record AreLawful (things : Objects) : Type 0 where
  pub semaphores : IsSection semaphores IsLawfulSemaphore things.semaphores
  pub buffers : IsSection buffers IsLawfulBuffer things.buffers
  pub blackboards : IsSection blackboards IsLawfulBlackboard things.blackboards
  pub event_flags : IsSection event_flags IsLawfulEventFlag things.event_flags
  pub mutexes : IsSection mutexes IsLawfulMutex things.mutexes

pub objects_law : (top : Members) → IfOk (objects top) AreLawful
unfolding objects
objects_law top =
    ok_then (section semaphores top) _ AreLawful (λ sems es.
    ok_then (section buffers top) _ AreLawful (λ bufs eb.
    ok_then (section blackboards top) _ AreLawful (λ boards ed.
    ok_then (section event_flags top) _ AreLawful (λ evs ee.
    ok_then (section mutexes top) _ AreLawful (λ locks em. record {
      semaphores = IfOk-at_ok (IsSection semaphores IsLawfulSemaphore) es (section_law semaphores IsLawfulSemaphore semaphore_law top);
      buffers = IfOk-at_ok (IsSection buffers IsLawfulBuffer) eb (section_law buffers IsLawfulBuffer buffer_law top);
      blackboards = IfOk-at_ok (IsSection blackboards IsLawfulBlackboard) ed (section_law blackboards IsLawfulBlackboard blackboard_law top);
      event_flags = IfOk-at_ok (IsSection event_flags IsLawfulEventFlag) ee (section_law event_flags IsLawfulEventFlag event_flag_law top);
      mutexes = IfOk-at_ok (IsSection mutexes IsLawfulMutex) em (section_law mutexes IsLawfulMutex mutex_law top);
    })))))
