pub mod Answered
pub mod AtFirst
pub mod Ends
pub mod Raising
pub mod Reversed
pub mod Steps
