-- The laws of the machine, over every lawful table.
pub mod Terms
pub mod Delivery
pub mod Laws
pub mod States
pub mod Unbroken
pub mod AskedWaits
pub mod Premises
pub mod Worked
pub mod GoesOn
