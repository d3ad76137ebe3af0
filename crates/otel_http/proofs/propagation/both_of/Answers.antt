use Rattle.std.proofs.Common.{refl}
use Rattle.opentelemetry.specs.PlainContexts.{root_cx}
use Rattle.otel_http.proofs.LawLemmas.{both_found}
use Rattle.otel_http.proofs.propagation.both_of.Goals as goal

pub returns : goal.returns
returns g c =
    both_found c.extract_with_context.result (g.X.Extractor.reads c.args.extractor.now) root_cx c.in_ok-traced.traced
    refl c.in_ok-traced.ensures c.extract_with_context.ensures.gives
