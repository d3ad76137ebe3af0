pub mod SpanText
