pub mod WaitQueues
