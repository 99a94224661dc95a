mod RuleLemmas
mod ScopeLemmas
pub mod DeclaringLemmas
pub mod FollowLemmas
pub mod KnownExprLemmas
pub mod KnownTypeLemmas
pub mod MarkLemmas
pub mod NetLemmas
pub mod NetTypeLemmas
pub mod PlaceLemmas
pub mod TypedLemmas
pub mod UnknownLemmas
