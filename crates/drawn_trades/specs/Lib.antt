pub mod DrawnTrades
pub mod Tallies
