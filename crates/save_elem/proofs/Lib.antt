pub mod Each
pub mod ElemLaws
pub mod Fitting
pub mod Items
pub mod Orders
pub mod Rows
