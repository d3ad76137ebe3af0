-- One column more.
use Rattle.std.proofs.Common.{◌≡◌, ◌++◌, ◌∙◌, ℕ, List, add-one, ap, append-nil, arith, string_bytes, subst, sym}
use Rattle.otel_picture.specs.RowTexts.{cell_text, cells_text}
use Rattle.otel_picture.specs.Sheets.{plain_sheet}
use Rattle.otel_picture.proofs.Joined.{then_more}
use Rattle.otel_picture.proofs.sheet.Sheet.push_cells.Goals as goal

pub loop-column-init : goal.loop-column-init
loop-column-init c = sym (append-nil (string_bytes c.args.text.now))

pub loop-column-preserved : goal.loop-column-preserved
loop-column-preserved c =
    let sheet = plain_sheet c.args.self.now in
    let column = c.loop-column.column in
    let text = string_bytes c.loop-column.text in
    rw (add-one column)
    (then_more (string_bytes c.args.text.now) text (string_bytes c.push.new.self)
    (cells_text sheet c.args.span.now column) (cell_text sheet c.args.span.now column) c.loop-column.invariant
    (c.in_ok-push.ensures.bytes ∙ ap (λ (t : List ℕ). text ++ t) c.cell_of.ensures))

pub returns : goal.returns
returns c =
    let same : c.loop-column.column ≡ c.args.self.now.layout.bar = omega (arith, c.loop-column-test.false, c.loop-column.auto.column-end) in
    subst (λ (n : ℕ). string_bytes c.loop-column.text ≡ string_bytes c.args.text.now ++ cells_text (plain_sheet c.args.self.now) c.args.span.now n)
    same c.loop-column.invariant
