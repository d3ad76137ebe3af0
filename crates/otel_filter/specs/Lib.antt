pub mod FilteredStore
pub mod Filtering
