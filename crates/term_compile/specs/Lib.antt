-- Read Stands first, and then Given.
pub mod Given
pub mod Marks
pub mod Stands
