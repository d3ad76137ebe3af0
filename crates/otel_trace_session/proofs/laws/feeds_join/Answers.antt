use Rattle.otel_trace_session.specs.Calls.{calls_of}
use Rattle.otel_trace_session.proofs.Streaming.{feeds_join}
use Rattle.otel_trace_session.proofs.laws.feeds_join.Goals as goal

pub returns : goal.returns
returns g c = feeds_join (calls_of g.P.SpanProcessor g.P.Timed g.P.CountsLeftSpans g.P.KeepsBatches g.S.ShouldSample g.G.GivesIds)
