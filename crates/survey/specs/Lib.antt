pub mod Chains
pub mod Verdicts
pub mod Laws
pub mod Moves
pub mod Steps
