pub mod Parts
pub mod RuleLines
pub mod Inside
