pub mod BodyParts
pub mod BracketDepths
pub mod Depths
pub mod ExprParts
pub mod NameParts
pub mod Rooms
pub mod Statements
pub mod ValueParts
