-- Read Wiring, ValueOf, Holds and Feasible first: what a design allows. Then Typed; Evaluation, Cuts, Step, Steady
-- and Rounds: how a net is solved in rounds; Met, Shown and Heights: what rounds show. Modules whose names end in
-- Laws hold lemmas.
pub mod Above
pub mod Cuts
pub mod DesignInductionLaws
pub mod Evaluation
pub mod EvaluationLaws
pub mod ExprKinds
pub mod ExprLaws
pub mod ExprRisesLaws
pub mod Feasible
pub mod Heights
pub mod HeightsLaws
pub mod Holds
pub mod HoldsCaseLaws
pub mod HoldsLaws
pub mod KindFoldLaws
pub mod Met
pub mod NumberLaws
pub mod Parts
pub mod PartsLaws
pub mod Reading
pub mod Rounds
pub mod RoundsLaws
pub mod Rows
pub mod Shown
pub mod ShownLaws
pub mod Steady
pub mod SteadyLaws
pub mod Step
pub mod StepLaws
pub mod Typed
pub mod TypedLaws
pub mod ValueOf
pub mod ValuesInOrder
pub mod ValuesInOrderLaws
pub mod Wiring
