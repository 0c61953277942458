pub mod Faults
pub mod Source
pub mod Sink
pub mod Memory
pub mod Edge
pub mod Journals
pub mod Reaches
pub mod Shelves
