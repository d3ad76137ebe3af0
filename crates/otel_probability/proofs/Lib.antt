pub mod Digits
pub mod Growing
pub mod Members
pub mod Sampled
pub mod Splits
pub mod States
pub mod SubKeys
