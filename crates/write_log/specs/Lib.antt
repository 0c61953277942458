pub mod OneLog
pub mod Logs
