-- What only this crate's own functions say, and the laws that its forms owe to their traits.
pub mod Laws
pub mod Stepping
