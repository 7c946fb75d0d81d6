-- The name is that of the object.
use Rattle.apex_traces.proofs.beings.add_object_wait.Goals as goal

pub returns-in-Semaphore-clause-text : goal.returns-in-Semaphore-clause-text
returns-in-Semaphore-clause-text c = rw c.in-Semaphore.is (rw c.semaphore_name.ensures.value at c.add_named.ensures.text)

pub returns-in-Buffer-clause-text : goal.returns-in-Buffer-clause-text
returns-in-Buffer-clause-text c = rw c.in-Buffer.is (rw c.buffer_name.ensures.value at c.add_named-in-Buffer.ensures.text)

pub returns-in-Blackboard-clause-text : goal.returns-in-Blackboard-clause-text
returns-in-Blackboard-clause-text c = rw c.in-Blackboard.is (rw c.blackboard_name.ensures.value at c.add_named-in-Blackboard.ensures.text)

pub returns-in-EventFlag-clause-text : goal.returns-in-EventFlag-clause-text
returns-in-EventFlag-clause-text c = rw c.in-EventFlag.is (rw c.event_flag_name.ensures.value at c.add_named-in-EventFlag.ensures.text)

pub returns-in-Mutex-clause-text : goal.returns-in-Mutex-clause-text
returns-in-Mutex-clause-text c = rw c.in-Mutex.is (rw c.mutex_name.ensures.value at c.add_named-in-Mutex.ensures.text)
