-- The first span of the id is the one of the map.
use Rattle.std.proofs.Common.{◌∙◌, ap, get_or, nat_lt, unwrap_or}
use Rattle.std.proofs.lemmas.List.{get_or_default}
use Rattle.otel_picture.specs.Families.{first_with}
use Rattle.otel_picture.specs.Orders.{no_mark}
use Rattle.otel_picture.specs.declared.rows.Mark.{Mark}
use Rattle.otel_picture.proofs.families.comes_again.Goals as goal

pub returns : goal.returns
returns c =
    let marks = c.args.marks.now in
    let span = c.args.span in
    let mark = c.index-marks-span.result in
    ap (λ n. nat_lt n span) (c.unwrap_or.ensures ∙ ap (λ o. unwrap_or o span)
    (c.found_in-first.ensures ∙ c.requires.first (get_or marks span mark).id
    ∙ ap (λ (m : Mark). first_with marks m.id) (get_or_default marks span mark no_mark c.requires.here)))
