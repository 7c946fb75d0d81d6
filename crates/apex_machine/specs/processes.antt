-- The records of processes, and what a store answers of them: choices, waiters, owners and instants.
pub mod Held
pub mod Queues
pub mod Roster
pub mod Choice
pub mod Running
pub mod Owners
pub mod Waiters
pub mod Dues
pub mod Periods
pub mod Stamps
pub mod Distinct
