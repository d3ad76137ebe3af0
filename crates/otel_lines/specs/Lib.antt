pub mod Form
pub mod HexBytes
pub mod LineExporter
pub mod LineStream
