-- Where moments stand in a picture, and how long a span was by itself.
use Rattle.std.specs.Prelude.{◌≡◌, ◌<◌, ◌≤◌, ◌-◌, ◌+◌, ◌*◌, ◌/◌, ◌==◌, ℕ, suc, List, [], ◌∷◌, drop, get_or, length}
use Rattle.std.specs.Prelude.{max, min, nat_le, if◌then◌else◌}
use Rattle.otel_picture.specs.Orders.{mark_at}
use Rattle.otel_picture.specs.declared.bar.Sweep.{Sweep}
use Rattle.otel_picture.specs.declared.rows.Mark.{Mark}
use Rattle.otel_picture.specs.declared.rows.Row.{Row}

-- the column of a moment, on a scale from a first moment to a last one, in a room of so many columns
abbrev pub column : (first last columns moment : ℕ) → ℕ
column first last columns moment =
    if first == last then 0 else min (columns - 1) ((moment - first) * columns / (last - first))

-- the earlier of two starts, of which zero says that there is none
abbrev pub earlier : ℕ → ℕ → ℕ
earlier moment start = if start == 0 then moment else (if moment == 0 then start else min moment start)

-- the earliest of a start and those of marks
abbrev pub earliest : ℕ → List Mark → ℕ
earliest moment [] = moment
earliest moment (mark ∷ marks) = earliest (earlier moment mark.start) marks

-- the latest of a moment and the starts and ends of marks
abbrev pub latest : ℕ → List Mark → ℕ
latest moment [] = moment
latest moment (mark ∷ marks) = latest (max (max moment mark.start) mark.end) marks

-- the last moment of a trace
abbrev pub last_of : List Mark → ℕ
last_of marks = latest 0 marks

-- the first: the earliest start. Where no span has one, it is the last
abbrev pub first_of : List Mark → ℕ
first_of marks = if earliest 0 marks == 0 then last_of marks else earliest 0 marks

-- how long a span was
abbrev pub length_of : Mark → ℕ
length_of mark = mark.end - mark.start

-- a sweep over a span's time goes on over a child
abbrev pub sweep_over : ℕ → Sweep → Mark → Sweep
sweep_over end sweep child =
    let begin : ℕ = max sweep.until (min end child.start) in
    record { until = max begin (min end child.end); free = sweep.free + (begin - sweep.until) }

-- a sweep goes on over the children of a row of a level: the rows after it, up to the first that is not under it, that
-- stand one level below
abbrev pub sweep_rows : List Mark → (level end : ℕ) → Sweep → List Row → Sweep
sweep_rows marks level end sweep [] = sweep
sweep_rows marks level end sweep (row ∷ rows) =
    if nat_le row.level level then sweep
    else sweep_rows marks level end
    (if row.level == suc level then sweep_over end sweep (mark_at marks row.span) else sweep) rows

-- how long none of its children ran while a span did, by the rows after its own
abbrev pub self_time : List Mark → Row → List Row → ℕ
self_time marks row rest =
    let mark : Mark = mark_at marks row.span in
    let end : ℕ = max mark.start mark.end in
    let swept : Sweep = sweep_rows marks row.level end (record { until = mark.start; free = 0 }) rest in
    swept.free + (end - swept.until)

-- the rows under a row end: those before the end are of a greater level, and that at the end is not
pub record EndsAt (rows : List Row) (at end : ℕ) : Type 0 where
  pub after : at < end
  pub within : end ≤ length rows
  pub under : (row : ℕ) (d e : Row) → at < row → row < end → (get_or rows at d).level < (get_or rows row e).level
  pub stops : (d e : Row) → end < length rows → (get_or rows end e).level ≤ (get_or rows at d).level

pub record AreEnds (rows : List Row) (ends : List ℕ) : Type 0 where
  pub alike : length ends ≡ length rows
  pub each : (at : ℕ) → at < length rows → EndsAt rows at (get_or ends at 0)

-- how long none of the children ran, of each row
pub record AreSelfTimes (marks : List Mark) (rows : List Row) (times : List ℕ) : Type 0 where
  pub alike : length times ≡ length rows
  pub each : (at : ℕ) (row : Row) → at < length rows
      → get_or times at 0 ≡ self_time marks (get_or rows at row) (drop (at + 1) rows)
