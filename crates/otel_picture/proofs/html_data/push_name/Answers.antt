-- One member after another.
use Rattle.otel_picture.proofs.Tokens.{and_then}
use Rattle.otel_picture.proofs.html_data.push_name.Goals as goal

pub returns-clause-written : goal.returns-clause-written
returns-clause-written c =
    rw (← c.span.view_is, ← c.as_str.ensures.value, ← c.service.ensures, ← c.kind_word.ensures)
    (and_then c.args.out.now.tokens _ _ _ _ _ c.in_ok-push_text.ensures.written
    (and_then c.push_text.new.out.tokens _ _ _ _ _ c.in_ok-push_text-2.ensures.written c.push_text-3.ensures.written))
