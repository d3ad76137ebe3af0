use Rattle.otel_trace_session.specs.Calls.{calls_of}
use Rattle.otel_trace_session.specs.Turns.{course_of}
use Rattle.otel_trace_session.proofs.PersistLemmas.{contexts_kept}
use Rattle.otel_trace_session.proofs.laws.runs_keep_contexts.Goals as goal

pub returns : goal.returns
returns g c = λ old new histories commands replies describes took.
    contexts_kept (calls_of g.P.SpanProcessor g.P.Timed g.P.CountsLeftSpans g.P.KeepsBatches g.S.ShouldSample g.G.GivesIds) old.scope (course_of old histories) (course_of new took.after) commands took.turns replies old.spans new.spans describes took.describes took.replied_to took.are_turns
