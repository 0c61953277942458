pub mod DrawsLemmas
pub mod SentLemmas
pub mod DrawnLemmas
pub mod StepLemmas
