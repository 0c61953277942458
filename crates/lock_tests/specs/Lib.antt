pub mod Boxes
pub mod Nodes
