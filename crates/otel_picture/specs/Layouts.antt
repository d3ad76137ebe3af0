-- The rooms of a row.
use Rattle.std.specs.Prelude.{ℕ, ◌-◌, ◌*◌, ◌/◌, Bool, true, false, if◌then◌else◌, max, min, nat_le}
use Rattle.otel_picture.specs.declared.layout.Layout.{Layout}

-- the rooms of a row of so many columns, of which 20 at least and 400 at most count
abbrev pub layout_of : ℕ → Layout
layout_of given =
    let columns : ℕ = max 20 (min 400 given) in
    let has_numbers : Bool = nat_le 48 columns in
    let has_self_time : Bool = nat_le 96 columns in
    let rest : ℕ = columns - (if has_numbers then 18 else 0) - (if has_self_time then 9 else 0) in
    record {
      columns = columns;
      name = rest * 2 / 5;
      bar = rest - rest * 2 / 5 - 1;
      has_numbers = has_numbers;
      has_self_time = has_self_time;
      has_attributes = false;
    }

-- the same, with attributes under the rows or without
abbrev pub layout_with : ℕ → Bool → Layout
layout_with given attributes = record (layout_of given) { has_attributes = attributes }

-- the rooms of the SVG form: names have 40 columns of text, bars 460 units
abbrev pub svg_layout : Layout
svg_layout = record {
  columns = 120;
  name = 40;
  bar = 460;
  has_numbers = true;
  has_self_time = false;
  has_attributes = false;
}
