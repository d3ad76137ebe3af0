use Rattle.otel_trace_session.specs.Calls.{calls_of}
use Rattle.otel_trace_session.specs.Turns.{course_of}
use Rattle.otel_trace_session.proofs.HeardLemmas.{all_follow, all_heard}
use Rattle.otel_trace_session.proofs.laws.runs_are_heard.Goals as goal

pub returns-clause-follows : goal.returns-clause-follows
returns-clause-follows g c = λ old new histories commands replies took.
    all_follow (calls_of g.P.SpanProcessor g.P.Timed g.P.CountsLeftSpans g.P.KeepsBatches g.S.ShouldSample g.G.GivesIds) old.scope (course_of old histories) (course_of new took.after) commands took.turns took.are_turns

pub returns-clause-heard : goal.returns-clause-heard
returns-clause-heard g c = λ old new histories commands replies took.
    all_heard (calls_of g.P.SpanProcessor g.P.Timed g.P.CountsLeftSpans g.P.KeepsBatches g.S.ShouldSample g.G.GivesIds) old.scope (course_of old histories) (course_of new took.after) commands took.turns took.are_turns
