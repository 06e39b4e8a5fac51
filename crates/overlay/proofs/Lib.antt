pub mod Keeping
pub mod Laying
pub mod Writing
