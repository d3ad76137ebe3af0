mod FirstByte
pub mod HexBytesLemmas
pub mod LineLemmas
