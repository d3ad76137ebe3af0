pub mod BaggageEdits
