pub mod ConitSums
