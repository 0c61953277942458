pub mod Pieces
pub mod PieceAt
pub mod StepFaults
pub mod Recovery
pub mod Steps
