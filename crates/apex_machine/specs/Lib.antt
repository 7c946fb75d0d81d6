-- The machine: read it from Machine down. A history is made by turns and ticks, which carry out
-- services, which change the records of processes.
pub mod Machine
pub mod Situations
pub mod Deeds
pub mod Events
pub mod Ticks
pub mod Works
pub mod History
pub mod services
pub mod processes
pub mod table
pub mod text
pub mod Terms
