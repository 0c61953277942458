pub mod NewSet
pub mod OneReplica
pub mod SentMessages
pub mod StandingRuns
