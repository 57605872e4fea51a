pub mod Row
pub mod PairRow
pub mod MoveRow
