pub mod Runs
pub mod Marks
pub mod Tables
pub mod Searches
