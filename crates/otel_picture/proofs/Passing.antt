-- The rows under a child are passed over.
use Rattle.std.proofs.Common.{◌≡◌, ◌<◌, ◌≤◌, ℕ, zero, suc, Bool, List, ◌∷◌, ◌+◌, ◌-◌, ◌==◌, ◌∙◌}
use Rattle.std.proofs.Common.{ap, arith, drop, get_or, if◌then◌else◌, length, refl}
use Rattle.std.proofs.lemmas.Bool.{lt-leb, ne_eqb}
use Rattle.std.proofs.lemmas.List.{drop_more}
use Rattle.otel_picture.specs.Bars.{EndsAt, sweep_over, sweep_rows}
use Rattle.otel_picture.specs.Orders.{mark_at}
use Rattle.otel_picture.specs.declared.bar.Sweep.{Sweep}
use Rattle.otel_picture.specs.declared.rows.Mark.{Mark}
use Rattle.otel_picture.specs.declared.rows.Row.{Row}

-- a row of a greater level is gone over
pub one_over : (marks : List Mark) (level end : ℕ) (sweep : Sweep) (row : Row) (rest : List Row) → level < row.level
    → sweep_rows marks level end sweep (row ∷ rest) ≡ sweep_rows marks level end
    (if row.level == suc level then sweep_over end sweep (mark_at marks row.span) else sweep) rest
one_over marks level end sweep row rest low = rw (lt-leb row.level level low) refl

-- rows further down are passed over
passed : (marks : List Mark) (level end : ℕ) (sweep : Sweep) (rows : List Row) (d : Row) (count from : ℕ)
    → from + count ≤ length rows
    → ((row : ℕ) → from ≤ row → row < from + count → suc level < (get_or rows row d).level)
    → sweep_rows marks level end sweep (drop from rows) ≡ sweep_rows marks level end sweep (drop (from + count) rows)
passed marks level end sweep rows d zero from within deep =
    let same : from ≡ from + 0 = omega arith in ap (λ n. sweep_rows marks level end sweep (drop n rows)) same
passed marks level end sweep rows d (suc count) from within deep =
    let row : Row = get_or rows from d in
    let here : suc level < row.level = deep from (omega arith) (omega arith) in
    let same : from + 1 + count ≡ from + suc count = omega arith in
    ap (sweep_rows marks level end sweep) (drop_more rows from d (omega (arith, within)))
    ∙ one_over marks level end sweep row (drop (from + 1) rows) (omega (arith, here))
    ∙ ap (λ (b : Bool). sweep_rows marks level end (if b then sweep_over end sweep (mark_at marks row.span) else sweep)
    (drop (from + 1) rows)) (ne_eqb row.level (suc level) (omega (arith, here)))
    ∙ passed marks level end sweep rows d count (from + 1) (omega (arith, within))
    (λ k l m. deep k (omega (arith, l)) (omega (arith, m)))
    ∙ ap (λ n. sweep_rows marks level end sweep (drop n rows)) same

-- what comes of a row and those under it
pub child_passed : (marks : List Mark) (level end : ℕ) (sweep : Sweep) (rows : List Row) (d : Row) (at stop : ℕ)
    → at < length rows → level < (get_or rows at d).level → EndsAt rows at stop
    → sweep_rows marks level end sweep (drop at rows) ≡ sweep_rows marks level end
    (if (get_or rows at d).level == suc level then sweep_over end sweep (mark_at marks (get_or rows at d).span) else sweep)
    (drop stop rows)
child_passed marks level end sweep rows d at stop there low ends =
    let row : Row = get_or rows at d in
    let next : Sweep = if row.level == suc level then sweep_over end sweep (mark_at marks row.span) else sweep in
    let count : ℕ = stop - (at + 1) in
    let same : at + 1 + count ≡ stop = omega (arith, ends.after) in
    ap (sweep_rows marks level end sweep) (drop_more rows at d there)
    ∙ one_over marks level end sweep row (drop (at + 1) rows) low
    ∙ passed marks level end next rows d count (at + 1) (omega (arith, ends.within, ends.after))
    (λ k l m. omega (arith, low, ends.under k d d (omega (arith, l)) (omega (arith, m, ends.after))))
    ∙ ap (λ n. sweep_rows marks level end next (drop n rows)) same
