pub mod Cart
pub mod Primes
pub mod Routes
pub mod Serving
pub mod Statuses
pub mod Texts
