-- The moment stands after its tick where there is room.
use Rattle.std.proofs.Common.{◌≡◌, ◌++◌, ◌∙◌, List, ℕ, ap, arith, codes, false, nat_le, true}
use Rattle.otel_picture.specs.Durations.{duration_text}
use Rattle.otel_picture.proofs.axis.push_tick.Goals as goal

pub returns-then-cell-lt-LABEL_COLUMNS : goal.returns-then-cell-lt-LABEL_COLUMNS
unfolding lib.Utf8.encode
returns-then-cell-lt-LABEL_COLUMNS c =
    let narrow : nat_le 9 c.args.cell ≡ false = grind (arith, c.if-cell-lt-LABEL_COLUMNS.true) in
    rw narrow c.push_in_room.ensures

pub returns : goal.returns
unfolding lib.Utf8.encode
returns c =
    let wide : nat_le 9 c.args.cell ≡ true = grind (arith, c.if-cell-lt-LABEL_COLUMNS.false) in
    let tick : c.as_str.result.now ≡ codes "|" ++ duration_text c.args.moment =
    c.as_str.ensures.value ∙ c.in_ok-push_duration.ensures
    ∙ ap (λ (t : List ℕ). t ++ duration_text c.args.moment) c.in_ok-tick.ensures.ok in
    rw wide (rw (← tick) c.push_in_room-2.ensures)
