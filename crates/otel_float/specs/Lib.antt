pub mod FloatText
pub mod Leading
pub mod Limbs
