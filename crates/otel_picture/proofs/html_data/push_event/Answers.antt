-- One member after another, between brackets.
use Rattle.otel_picture.proofs.Tokens.{and_then}
use Rattle.otel_picture.proofs.html_data.push_event.Goals as goal

pub returns-clause-written : goal.returns-clause-written
returns-clause-written c =
    rw (← c.event.view_is, ← c.as_str.ensures.value, ← c.as_str-2.ensures.value)
    (and_then c.args.out.now.tokens _ _ _ _ _ c.in_ok-begin_object.ensures.ok
    (and_then c.begin_object.new.self.tokens _ _ _ _ _ c.in_ok-push_moment.ensures.written
    (and_then c.push_moment.new.out.tokens _ _ _ _ _ c.in_ok-push_text.ensures.written
    (and_then c.push_text.new.out.tokens _ _ _ _ _ c.in_ok-push_text-2.ensures.written c.end_object.ensures.ok))))
