pub mod Answers
pub mod Entry
pub mod Hops
pub mod Joining
pub mod Numbers
