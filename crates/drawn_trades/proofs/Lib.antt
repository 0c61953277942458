pub mod TradeLemmas
pub mod TallyLemmas
pub mod SoldLemmas
