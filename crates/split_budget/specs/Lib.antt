pub mod Budgets
pub mod Kept
pub mod Answers
pub mod Missed
pub mod OwnWrites
