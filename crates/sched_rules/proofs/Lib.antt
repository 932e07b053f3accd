pub mod Members
pub mod RuleLaws
pub mod Placing
pub mod Combining
