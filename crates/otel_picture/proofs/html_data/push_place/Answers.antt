-- One member after another.
use Rattle.otel_picture.proofs.Tokens.{and_then}
use Rattle.otel_picture.proofs.html_data.push_place.Goals as goal

pub returns-clause-written : goal.returns-clause-written
returns-clause-written c =
    rw (← c.span.view_is)
    (and_then c.args.out.now.tokens _ _ _ _ _ c.in_ok-push_number.ensures.written
    (and_then c.push_number.new.out.tokens _ _ _ _ _ c.in_ok-push_span_id.ensures.written
    c.push_parent.ensures.written))
