use Rattle.otel_trace_session.specs.Calls.{calls_of}
use Rattle.otel_trace_session.proofs.RunLemmas.{runs_join}
use Rattle.otel_trace_session.proofs.laws.runs_join.Goals as goal

pub returns : goal.returns
returns g c = λ old middle new first rest shown then_shown one two.
    runs_join (calls_of g.P.SpanProcessor g.P.Timed g.P.CountsLeftSpans g.P.KeepsBatches g.S.ShouldSample g.G.GivesIds) old middle new first rest shown then_shown one two
