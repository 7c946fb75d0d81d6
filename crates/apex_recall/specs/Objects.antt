-- The objects of words.
use Rattle.std.specs.Prelude.{ℕ, ◌%◌, ◌^◌, Bool, List, drop, filter_map, slice_index}
use Rattle.apex_machine.specs.services.BlackboardServices.{BlackboardObject}
use Rattle.apex_machine.specs.services.BufferServices.{BufferObject}
use Rattle.apex_machine.specs.services.EventFlagServices.{EventFlagObject}
use Rattle.apex_machine.specs.services.MutexServices.{MutexObject}
use Rattle.apex_machine.specs.services.ProcessServices.{ProcessObject}
use Rattle.apex_machine.specs.services.SemaphoreServices.{SemaphoreObject}
use Rattle.apex_recall.specs.Terms.{Message}
use Rattle.apex_recall.specs.Values.{is_set, message_in}

-- the messages of these words
abbrev pub messages_in : List ℕ → List Message
messages_in words = filter_map message_in words

-- the semaphore: created or not, and its value
abbrev pub semaphore_from : SemaphoreObject → List ℕ → SemaphoreObject
semaphore_from semaphore words = record semaphore {
  created = is_set (slice_index words 0);
  value = slice_index words 1 % 2 ^ 16;
}

-- the buffer: created or not, and its messages
abbrev pub buffer_from : BufferObject → List ℕ → BufferObject
buffer_from buffer words = record buffer {
  created = is_set (slice_index words 0);
  messages = messages_in (drop 1 words);
}

-- the blackboard: created or not, and its message
abbrev pub blackboard_from : BlackboardObject → List ℕ → BlackboardObject
blackboard_from blackboard words = record blackboard {
  created = is_set (slice_index words 0);
  message = message_in (slice_index words 1);
}

-- the event flag: created or not, and up or not
abbrev pub event_flag_from : List ℕ → EventFlagObject
event_flag_from words =
    record { created = is_set (slice_index words 0); up = is_set (slice_index words 1) }

-- the mutex: created or not
abbrev pub mutex_from : List ℕ → MutexObject
mutex_from words = record { created = is_set (slice_index words 0) }

-- a process, as its services see it besides its record: created or not
abbrev pub process_from : Bool → ProcessObject
process_from created = record { created = created }
