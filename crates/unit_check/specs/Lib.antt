-- Read Follow, Declaring and Scopes first: which file declares the ports that a name stands for, and what the rules of a file may name. TypeFaults and Connection say what is wrong with a library. Modules whose names end in Laws hold lemmas.
pub mod Connection
pub mod Constraints
pub mod Declaring
pub mod Follow
pub mod Following
pub mod Held
pub mod Marks
pub mod Named
pub mod PortLaws
pub mod RefersLaws
pub mod RuleLaws
pub mod Rules
pub mod Scopes
pub mod Told
pub mod TypeFaults
