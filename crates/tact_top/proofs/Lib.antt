mod ByteFaults
mod CommandWords
mod Played
mod DrillLemmas
mod DefaultLemmas
mod TriesLemmas
mod Unwritten
