pub mod ImageLemmas
pub mod LateLemmas
