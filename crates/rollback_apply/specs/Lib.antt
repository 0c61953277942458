pub mod Current
pub mod Image
pub mod Keys
pub mod Lagging
pub mod Layers
pub mod Values
