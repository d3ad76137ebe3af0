-- One group of members after another.
use Rattle.std.proofs.Common.{◌∙◌, ◌++◌, ap}
use Rattle.otel_shown.specs.Shown.{PlainShownSpan}
use Rattle.otel_picture.specs.HtmlRows.{status_members}
use Rattle.otel_picture.proofs.Tokens.{and_then}
use Rattle.otel_picture.proofs.html_data.push_row_members.Goals as goal

pub returns-clause-written : goal.returns-clause-written
returns-clause-written c =
    let status =
    ap (λ (span : PlainShownSpan). c.push_span_time.new.out.tokens ++ status_members span.status) c.span.view_is in
    and_then c.args.out.now.tokens _ _ _ _ _ c.in_ok-push_place.ensures.written
    (and_then c.push_place.new.out.tokens _ _ _ _ _ c.in_ok-push_name.ensures.written
    (and_then c.push_name.new.out.tokens _ _ _ _ _ c.in_ok-push_span_time.ensures.written
    (and_then c.push_span_time.new.out.tokens _ _ _ _ _ (c.in_ok-push_status.ensures.written ∙ status)
    (and_then c.push_status.new.out.tokens _ _ _ _ _ c.in_ok-push_recorded.ensures.written
    c.push_resource.ensures.written))))
