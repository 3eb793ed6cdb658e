pub mod Lent
pub mod Ring
pub mod Building
pub mod Cell
pub mod Stencil
pub mod Checks
pub mod Bundles
