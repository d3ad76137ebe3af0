pub mod AttributesString
pub mod DetectedResource
pub mod Resource
pub mod ResourceCode
pub mod SameResource
