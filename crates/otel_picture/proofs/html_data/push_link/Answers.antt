-- One member after another, between brackets.
use Rattle.otel_picture.proofs.Tokens.{and_then}
use Rattle.otel_picture.proofs.html_data.push_link.Goals as goal

pub returns-clause-written : goal.returns-clause-written
returns-clause-written c =
    rw (← c.link.view_is, ← c.as_str.ensures.value)
    (and_then c.args.out.now.tokens _ _ _ _ _ c.in_ok-begin_object.ensures.ok
    (and_then c.begin_object.new.self.tokens _ _ _ _ _ c.in_ok-push_trace_id.ensures.written
    (and_then c.push_trace_id.new.out.tokens _ _ _ _ _ c.in_ok-push_span_id.ensures.written
    (and_then c.push_span_id.new.out.tokens _ _ _ _ _ c.in_ok-push_text.ensures.written c.end_object.ensures.ok))))
