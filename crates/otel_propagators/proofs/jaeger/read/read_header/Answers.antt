use Rattle.std.proofs.Common.{true}
use Rattle.opentelemetry.proofs.HeaderLemmas.{match_weaker}
use Rattle.otel_propagators.proofs.JaegerLemmas.{neither}
use Rattle.otel_propagators.proofs.jaeger.read.read_header.Goals as goal

pub returns-in-None : goal.returns-in-None
returns-in-None c =
    match_weaker c.read_context-in-None.result
    (λ none context says. neither c.args.text.now context (λ plain. c.in-None.ensures context plain) (λ escaped. none context escaped) says)
    (λ context is. (true, is))
    c.read_context-in-None.ensures
