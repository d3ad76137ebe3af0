-- Only a body that runs until the stream ends has ended.
use Rattle.std.proofs.Common.{◌∙◌, ap, sym, Ok}
use Rattle.otel_http_post.proofs.BodyLemmas.{closes_body, closes_client}
use Rattle.otel_http_post.proofs.body.end_of_stream.Goals as goal

pub returns-in-Ok-End-clause-until_close : goal.returns-in-Ok-End-clause-until_close
returns-in-Ok-End-clause-until_close c =
    closes_body c.args.inbox.now.client c.in-Ok-End.field-0-0
    (sym c.read_eof.ensures.answer ∙ c.in-Ok-End.is ∙ ap Ok c.in-Ok-End.field-0-is)

pub returns-in-Ok-End-clause-closes : goal.returns-in-Ok-End-clause-closes
returns-in-Ok-End-clause-closes c =
    c.read_eof.ensures.after ∙ closes_client c.args.inbox.now.client c.in-Ok-End.field-0-0
    (sym c.read_eof.ensures.answer ∙ c.in-Ok-End.is ∙ ap Ok c.in-Ok-End.field-0-is)
