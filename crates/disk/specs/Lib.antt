pub mod Addresses
pub mod Labels
pub mod Refusals
pub mod Media
pub mod Sizes
