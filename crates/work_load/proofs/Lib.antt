pub mod ValueLemmas
pub mod Filling
pub mod EntryLemmas
pub mod Texts
pub mod SetupOf
pub mod AttemptLemmas
