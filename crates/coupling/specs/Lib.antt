pub mod Face
pub mod Cell
pub mod Grid
