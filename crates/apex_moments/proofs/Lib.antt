pub mod Places
pub mod ReadBack
pub mod NextInstants
pub mod Pictured
pub mod Order
pub mod Counted
pub mod Columns
pub mod EventsOf
