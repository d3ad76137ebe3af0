pub mod QueueLines
