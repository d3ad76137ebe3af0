use Rattle.otel_trace_session.specs.Calls.{calls_of}
use Rattle.otel_trace_session.specs.Turns.{course_of}
use Rattle.otel_trace_session.proofs.TraceLemmas.{children_agree}
use Rattle.otel_trace_session.proofs.laws.runs_keep_traces_whole.Goals as goal

pub returns : goal.returns
returns g c = λ old new histories commands replies took.
    children_agree (calls_of g.P.SpanProcessor g.P.Timed g.P.CountsLeftSpans g.P.KeepsBatches g.S.ShouldSample g.G.GivesIds) old.scope (course_of old histories) (course_of new took.after) commands took.turns replies new.spans took.describes took.replied_to took.are_turns
