pub mod Cuts
pub mod FieldLemmas
pub mod KindLemmas
pub mod JoinedLines
pub mod JoinedTexts
pub mod Numerals
pub mod OneReading
pub mod Spelled
