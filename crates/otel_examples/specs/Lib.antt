pub mod ServerSampler
