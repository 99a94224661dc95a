-- Read the contracts in src first. HoldsMonotone, Settled, Acyclic and Cycles have the definitions that they cite
-- beside those of design_model. Modules whose names end in Laws hold lemmas.
pub mod Acyclic
pub mod Cycles
pub mod FeasibleRoundsLaws
pub mod GatheredLaws
pub mod HoldsMonotone
pub mod HoldsMonotoneLaws
pub mod NetLaws
pub mod ReadingLaws
pub mod RoundsMonotoneLaws
pub mod SatisfiedLaws
pub mod Settled
pub mod SettledLaws
pub mod SignalLaws
pub mod StateLaws
pub mod SteadyLaws
pub mod StepLaws
