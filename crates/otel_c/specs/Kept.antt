-- What a struct for C owns that keeps a box. Assumes nothing: this is a definition.
use mir.Syntax.{Ty}
use base.Fml.{Fml, ftrue}
use denote.RattleType.{RattleType}
use denote.RawPtr.{Ptr}
use Rattle.std.specs.Box.Ownership.{box_owns}
use Rattle.std.specs.declared.option.Option.{Option}
use Rattle.std.specs.declared.option.Option.TheVariants.{None, Some}

-- a box of the value at the pointer, or nothing where there is no value
abbrev pub keeps : (Ty → Ptr → Fml) → (R : RattleType) → Ptr → Option R.Denot → Fml
keeps token R at None = ftrue
keeps token R at (Some value) = box_owns token R at value
