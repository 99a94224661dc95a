pub mod MinimaLaws
pub mod MinimaOf
pub mod NumberRows
pub mod Rising
