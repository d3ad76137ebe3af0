-- One row more, which those after it go with.
use Rattle.std.proofs.Common.{◌<◌, ◌∙◌, All, ap, length, subst, sym}
use Rattle.std.proofs.lemmas.List.Elements.{All-head, All-rest}
use Rattle.otel_picture.specs.Sheets.{plain_sheet}
use Rattle.otel_picture.specs.SvgNotes.{line_after_rows}
use Rattle.otel_picture.specs.declared.rows.Row.{Row}
use Rattle.otel_picture.proofs.sheet.Sheet.line_after_rows.Goals as goal

pub line_after_row-line-requires : goal.line_after_row-line-requires
line_after_row-line-requires c =
    All-head (λ (row : Row). row.span < length c.args.self.now.trace.now.family.marks.items) c.in-Some.row.now
    c.in-Some.rest.now
    (subst (All (λ (row : Row). row.span < length c.args.self.now.trace.now.family.marks.items))
    c.in-Some.ensures.cases.0 c.loop-row.invariant.there)

pub loop-row-preserved : goal.loop-row-preserved
loop-row-preserved c =
    let sheet = plain_sheet c.args.self.now in
    let cut = c.in-Some.ensures.cases.0 in
    record {
      line = ap (λ n. line_after_rows sheet n c.in-Some.rest.now) c.line_after_row-line.ensures
          ∙ sym (ap (line_after_rows sheet c.loop-row.line) cut) ∙ c.loop-row.invariant.line;
      there = All-rest (λ (row : Row). row.span < length c.args.self.now.trace.now.family.marks.items)
          c.in-Some.row.now c.in-Some.rest.now c.loop-row.left.now cut c.loop-row.invariant.there;
    }
