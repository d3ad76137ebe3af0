use Rattle.otel_trace_session.specs.Calls.{calls_of}
use Rattle.otel_trace_session.proofs.ShownLemmas.{closes_rest}
use Rattle.otel_trace_session.proofs.laws.closes_show_the_rest.Goals as goal

pub returns : goal.returns
returns g c =
    closes_rest (calls_of g.P.SpanProcessor g.P.Timed g.P.CountsLeftSpans g.P.KeepsBatches g.S.ShouldSample g.G.GivesIds)
    g.met.P.KeepsBatches.appends
