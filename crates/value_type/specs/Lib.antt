-- Read Fits and Leq first: the values of a type and their order. Then Ports, PrintOrder and Scale. Modules whose
-- names end in Laws hold lemmas.
pub mod Fits
pub mod Forms
pub mod KindBoundLaws
pub mod KindLaws
pub mod KindOrderLaws
pub mod KindOrders
pub mod KindOrdersLaws
pub mod Leq
pub mod PortKinds
pub mod Ports
pub mod PrintLaws
pub mod PrintOrder
pub mod RowLaws
pub mod SameForm
pub mod SameFormLaws
pub mod Scale
pub mod ScaleLaws
pub mod Types
