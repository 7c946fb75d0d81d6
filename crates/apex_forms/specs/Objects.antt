-- The words of the objects.
use Rattle.std.specs.Prelude.{ℕ, zero, suc, List, [], ◌∷◌, ◌++◌, slice_get}
use Rattle.apex_machine.specs.services.BlackboardServices.{BlackboardObject}
use Rattle.apex_machine.specs.services.BufferServices.{BufferObject}
use Rattle.apex_machine.specs.services.EventFlagServices.{EventFlagObject}
use Rattle.apex_machine.specs.services.MutexServices.{MutexObject}
use Rattle.apex_machine.specs.services.SemaphoreServices.{SemaphoreObject}
use Rattle.apex_forms.specs.Codes.{flag_word, message_word}
use Rattle.apex_forms.specs.Terms.{Message}
use Rattle.apex_types.specs.declared.limits.TheConstants.{MOST_MESSAGES}

-- the words of the first n messages of a buffer; the word of a place past the end is that of none
abbrev pub messages_words : List Message → ℕ → List ℕ
messages_words messages zero = []
messages_words messages (suc n) =
    messages_words messages n ++ message_word (slice_get messages n) ∷ []

-- a semaphore: created or not, and its value
abbrev pub semaphore_words : SemaphoreObject → List ℕ
semaphore_words semaphore = flag_word semaphore.created ∷ semaphore.value ∷ []

-- a buffer: created or not, and its messages
abbrev pub buffer_words : BufferObject → List ℕ
buffer_words buffer = flag_word buffer.created ∷ messages_words buffer.messages MOST_MESSAGES

-- a blackboard: created or not, and its message
abbrev pub blackboard_words : BlackboardObject → List ℕ
blackboard_words blackboard =
    flag_word blackboard.created ∷ message_word blackboard.message ∷ []

-- an event flag: created or not, and up or not
abbrev pub event_flag_words : EventFlagObject → List ℕ
event_flag_words event_flag = flag_word event_flag.created ∷ flag_word event_flag.up ∷ []

-- a mutex: created or not
abbrev pub mutex_words : MutexObject → List ℕ
mutex_words mutex = flag_word mutex.created ∷ []
