-- One member after another.
use Rattle.otel_picture.proofs.Tokens.{and_then}
use Rattle.otel_picture.proofs.html_data.push_span_time.Goals as goal

pub returns-clause-written : goal.returns-clause-written
returns-clause-written c =
    rw (← c.span.view_is)
    (and_then c.args.out.now.tokens _ _ _ _ _ c.in_ok-push_moment.ensures.written c.push_moment-2.ensures.written)
