use Rattle.otel_trace_session.specs.Calls.{calls_of}
use Rattle.otel_trace_session.proofs.ShownLemmas.{all_shown}
use Rattle.otel_trace_session.proofs.laws.runs_show_each_span_once.Goals as goal

pub returns : goal.returns
returns g c = λ old new histories commands replies took.
    all_shown (calls_of g.P.SpanProcessor g.P.Timed g.P.CountsLeftSpans g.P.KeepsBatches g.S.ShouldSample g.G.GivesIds) old new histories took.after commands took.turns replies took.replied_to took.are_turns
