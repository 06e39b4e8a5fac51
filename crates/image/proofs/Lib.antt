pub mod Tables
pub mod Changes
pub mod Rules
pub mod Pairs
