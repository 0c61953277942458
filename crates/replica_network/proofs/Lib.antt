pub mod FilteredMaps
pub mod Longer
pub mod SentOnes
pub mod SendPlaces
pub mod Going
