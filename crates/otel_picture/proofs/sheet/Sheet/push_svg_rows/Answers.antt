-- One row more, which those after it go with.
use Rattle.std.proofs.Common.{◌<◌, ◌++◌, ◌∙◌, All, ap, length, string_bytes, subst}
use Rattle.std.proofs.lemmas.List.Elements.{All-head, All-rest}
use Rattle.otel_picture.specs.Sheets.{plain_sheet}
use Rattle.otel_picture.specs.SvgNotes.{line_after_row}
use Rattle.otel_picture.specs.SvgTexts.{svg_row, svg_rows}
use Rattle.otel_picture.specs.declared.rows.Row.{Row}
use Rattle.otel_picture.proofs.Joined.{taken}
use Rattle.otel_picture.proofs.sheet.Sheet.push_svg_rows.Goals as goal

pub push_svg_row-requires : goal.push_svg_row-requires
push_svg_row-requires c =
    All-head (λ (row : Row). row.span < length c.args.self.now.trace.now.family.marks.items) c.in-Some.row.now
    c.in-Some.rest.now
    (subst (All (λ (row : Row). row.span < length c.args.self.now.trace.now.family.marks.items))
    c.in-Some.ensures.cases.0 c.loop-row.invariant.there)

pub line_after_row-line-requires : goal.line_after_row-line-requires
line_after_row-line-requires c =
    All-head (λ (row : Row). row.span < length c.args.self.now.trace.now.family.marks.items) c.in-Some.row.now
    c.in-Some.rest.now
    (subst (All (λ (row : Row). row.span < length c.args.self.now.trace.now.family.marks.items))
    c.in-Some.ensures.cases.0 c.loop-row.invariant.there)

pub loop-row-preserved : goal.loop-row-preserved
loop-row-preserved c =
    let sheet = plain_sheet c.args.self.now in
    let cut = c.in-Some.ensures.cases.0 in
    record {
      text = ap (λ n. string_bytes c.push_svg_row.new.out ++ svg_rows sheet n c.in-Some.rest.now) c.line_after_row-line.ensures
          ∙ taken (string_bytes c.loop-row.out) (string_bytes c.push_svg_row.new.out)
          (svg_row sheet c.loop-row.line c.in-Some.row.now)
          (svg_rows sheet (line_after_row sheet c.loop-row.line c.in-Some.row.now) c.in-Some.rest.now)
          (svg_rows sheet c.loop-row.line c.loop-row.left.now) _ c.in_ok-push_svg_row.ensures
          (ap (svg_rows sheet c.loop-row.line) cut) c.loop-row.invariant.text;
      there = All-rest (λ (row : Row). row.span < length c.args.self.now.trace.now.family.marks.items)
          c.in-Some.row.now c.in-Some.rest.now c.loop-row.left.now cut c.loop-row.invariant.there;
    }
