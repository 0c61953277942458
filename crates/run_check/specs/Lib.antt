pub mod Expanded
pub mod Causes
pub mod Verdicts
pub mod VerdictText
pub mod Checking
pub mod Keeping
