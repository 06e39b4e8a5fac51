pub mod Freeing
pub mod Claiming
pub mod Noting
pub mod MendingLoop
pub mod Renewing
pub mod Restored
pub mod Doing
