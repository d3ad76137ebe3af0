-- One member after another.
use Rattle.otel_picture.proofs.Tokens.{and_then}
use Rattle.otel_picture.proofs.html_data.push_status.Goals as goal

pub returns-clause-written : goal.returns-clause-written
returns-clause-written c =
    rw (← c.status_word.ensures, ← c.description_of.ensures)
    (and_then c.args.out.now.tokens _ _ _ _ _ c.in_ok-push_text.ensures.written c.push_text-2.ensures.written)
