-- The axis over bars: ticks at round durations after the first moment of a trace, and the last moment at its end.
use Rattle.std.specs.Prelude.{ℕ, zero, suc, ◌+◌, ◌-◌, ◌*◌, ◌/◌, List, [], ◌++◌, codes, if◌then◌else◌, length, max, min}
use Rattle.std.specs.Prelude.{nat_le, nat_lt}
use Rattle.otel_picture.specs.Bars.{column}
use Rattle.otel_picture.specs.Durations.{duration_text}
use Rattle.otel_picture.specs.SvgParts.{down, end_label_svg, label_svg, line_svg}
use Rattle.otel_picture.specs.Texts.{in_room}
use Rattle.otel_picture.specs.declared.axis.Axis.{Axis}

-- the first of 1, 2, 5, 10, 20 and so on that is greater than a number, 1,000 at most
abbrev pub round_count : ℕ → ℕ
round_count n =
    if nat_lt n 1 then 1 else
    (if nat_lt n 2 then 2 else
    (if nat_lt n 5 then 5 else
    (if nat_lt n 10 then 10 else
    (if nat_lt n 20 then 20 else
    (if nat_lt n 50 then 50 else
    (if nat_lt n 100 then 100 else
    (if nat_lt n 200 then 200 else
    (if nat_lt n 500 then 500 else 1000))))))))

-- the same of seconds and minutes, and of hours
abbrev pub round_sixtieths : ℕ → ℕ
round_sixtieths n = if nat_lt n 20 then round_count n else (if nat_lt n 30 then 30 else 60)

abbrev pub round_hours : ℕ → ℕ
round_hours n = if nat_lt n 2 then round_count n else (if nat_lt n 6 then 6 else (if nat_lt n 12 then 12 else 24))

-- the first round duration that is longer than one, 500 years at most
abbrev pub round_duration : ℕ → ℕ
round_duration n =
    if nat_lt n 1000 then round_count n else
    (if nat_lt n 1000000 then 1000 * round_count (n / 1000) else
    (if nat_lt n 1000000000 then 1000000 * round_count (n / 1000000) else
    (if nat_lt n 60000000000 then 1000000000 * round_sixtieths (n / 1000000000) else
    (if nat_lt n 3600000000000 then 60000000000 * round_sixtieths (n / 60000000000) else
    (if nat_lt n 86400000000000 then 3600000000000 * round_hours (n / 3600000000000) else
    (if nat_lt n 31536000000000000 then 86400000000000 * round_count (n / 86400000000000) else
    31536000000000000 * min 500 (round_count (n / 31536000000000000))))))))

-- how many steps an axis of so many columns has at most, whose ticks have labels of so many
abbrev pub most_steps : (columns label : ℕ) → ℕ
most_steps columns label = max 1 (min 8 (columns / (label + 1)))

-- the axis of a duration: its ticks are a round step apart, up to the last one whose label has room before that of the
-- end
abbrev pub axis_of : (duration columns label end : ℕ) → Axis
axis_of duration columns label end =
    let step : ℕ = round_duration (duration / most_steps columns label) in
    record {
      duration = duration;
      columns = columns;
      step = step;
      last = duration * (columns - label - end) / columns / step;
    }

-- in which column a tick stands
abbrev pub place_of : Axis → ℕ → ℕ
place_of axis tick = column 0 axis.duration axis.columns (tick * axis.step)

-- a tick of the text form in its cell, and the moment where it stands, if there is room
abbrev pub tick_text : (cell moment : ℕ) → List ℕ
tick_text cell moment = in_room cell (if nat_le 9 cell then codes "|" ++ duration_text moment else codes "|")

-- so many ticks, each in the cell up to the next one
abbrev pub ticks_text : Axis → ℕ → List ℕ
ticks_text axis zero = []
ticks_text axis (suc tick) =
    ticks_text axis tick
    ++ tick_text (place_of axis (tick + 1) - place_of axis tick) (tick * axis.step)

-- the last tick in its cell, up to the label of the end
abbrev pub last_tick_text : Axis → (end : ℕ) → List ℕ
last_tick_text axis end = tick_text (axis.columns - end - place_of axis axis.last) (axis.last * axis.step)

abbrev pub end_text : (duration : ℕ) → List ℕ
end_text duration = duration_text duration ++ codes "|"

-- an axis of the text form, and what its end says
unfoldable pub ended_text : Axis → (end : List ℕ) → List ℕ
ended_text axis end = ticks_text axis axis.last ++ (last_tick_text axis (length end) ++ end)

-- the axis of a duration in the text form
unfoldable pub axis_text : (duration columns : ℕ) → List ℕ
axis_text duration columns =
    ended_text (axis_of duration columns 9 (length (end_text duration))) (end_text duration)

-- a tick of the SVG form: a line over all rows, and the moment where it stands
abbrev pub tick_svg : Axis → (line end : ℕ) → ℕ → List ℕ
tick_svg axis line end tick =
    line_svg (310 + place_of axis tick) (down line 6) (down end 0)
    ++ label_svg (313 + place_of axis tick) (down line 15) (duration_text (tick * axis.step))

abbrev pub ticks_svg : Axis → (line end : ℕ) → ℕ → List ℕ
ticks_svg axis line end zero = []
ticks_svg axis line end (suc tick) = ticks_svg axis line end tick ++ tick_svg axis line end tick

-- the same of the end
abbrev pub end_svg : (duration line end : ℕ) → List ℕ
end_svg duration line end =
    line_svg 770 (down line 6) (down end 0) ++ end_label_svg 767 (down line 15) (duration_text duration)

-- an axis of the SVG form, on a line, down to the line that ends the rows
unfoldable pub ended_svg : Axis → (line end : ℕ) → List ℕ
ended_svg axis line end =
    ticks_svg axis line end axis.last
    ++ (tick_svg axis line end axis.last ++ (end_svg axis.duration line end ++ codes "\n"))

-- the axis of a duration in the SVG form
unfoldable pub axis_svg : (duration line end : ℕ) → List ℕ
axis_svg duration line end = ended_svg (axis_of duration 460 66 66) line end
