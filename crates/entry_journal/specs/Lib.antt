pub mod EntryJournals
