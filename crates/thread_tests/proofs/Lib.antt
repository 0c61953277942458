pub mod RestartLemmas
