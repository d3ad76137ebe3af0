-- A row more, and those under it, which change nothing.
use Rattle.std.proofs.Common.{◌≡◌, ◌<◌, ◌∙◌, ◌==◌, Bool, false, true, add-one, ap, arith, drop, get_or, if◌then◌else◌, length, suc, sym}
use Rattle.std.proofs.lemmas.Bool.{eq-eqb, ne_eqb}
use Rattle.std.proofs.lemmas.List.{get_or_read}
use Rattle.otel_picture.specs.Bars.{sweep_over, sweep_rows}
use Rattle.otel_picture.specs.Orders.{mark_at, no_mark}
use Rattle.otel_picture.specs.declared.bar.Sweep.{Sweep}
use Rattle.otel_picture.specs.declared.rows.Row.{Row}
use Rattle.otel_picture.proofs.Passing.{child_passed}
use Rattle.otel_picture.proofs.bar.sweep_rows.Goals as goal
use Rattle.otel_picture.proofs.bar.sweep_rows.Goals.{then-rows-at-2, else-rows-at-2}

pub loop-at-preserved : goal.loop-at-preserved
loop-at-preserved c =
    let marks = c.args.marks.now in
    let level = c.args.level in
    let end = c.args.end in
    let at = c.loop-at.at in
    let stop = get_or c.args.ends.now at 0 in
    let none : Row = record { span = 0; level = 0 } in
    let row : Row = get_or c.args.rows.now at none in
    let over : Sweep = sweep_over end c.loop-at.sweep (mark_at marks row.span) in
    let there : at < length c.args.rows.now = omega (arith, c.loop-at-test.true) in
    let all = child_passed marks level end c.loop-at.sweep c.args.rows.now none at stop there c.if-rows-at.true
    (c.requires.ends.each at there) in
    elim c.if-rows-at-2.branch [
      | then-rows-at-2 w ↦
          let child : (row.level == suc level) ≡ true =
          eq-eqb row.level (suc level) (w.if-rows-at-2.true ∙ add-one level) in
          let read = get_or_read marks row.span w.index-marks-rows.result (c.requires.there at none there)
          w.index-marks-rows.is no_mark in
          rw w.sweep-is (record {
            is = ap (λ s. sweep_rows marks level end s (drop stop c.args.rows.now))
                (w.sweep_over-sweep.ensures.is ∙ ap (λ m. sweep_over end c.loop-at.sweep m) read)
                ∙ ap (λ (b : Bool). sweep_rows marks level end (if b then over else c.loop-at.sweep)
                (drop stop c.args.rows.now)) (sym child)
                ∙ sym all ∙ c.loop-at.invariant.is;
            within = w.sweep_over-sweep.ensures.within;
            fits = w.sweep_over-sweep.ensures.fits;
          })
      | else-rows-at-2 w ↦
          let other : (row.level == suc level) ≡ false =
          ne_eqb row.level (suc level) (λ e. w.if-rows-at-2.false (e ∙ sym (add-one level))) in
          rw w.sweep-is (record {
            is = ap (λ (b : Bool). sweep_rows marks level end (if b then over else c.loop-at.sweep)
                (drop stop c.args.rows.now)) (sym other)
                ∙ sym all ∙ c.loop-at.invariant.is;
            within = c.loop-at.invariant.within;
            fits = c.loop-at.invariant.fits;
          })
    ]
