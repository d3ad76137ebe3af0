pub mod Encodings
pub mod Framed
pub mod NamedRequest
pub mod NamedSpan
pub mod NamedValues
pub mod Said
