pub mod Loops
pub mod PartReaders
pub mod WriteReaders
pub mod MessageParts
pub mod MessageReader
pub mod InRange
