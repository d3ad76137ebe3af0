-- The replies so far are written, in the form that it had.
use Rattle.std.proofs.Common.{◌≡◌}
use Rattle.std.specs.VecDeque.{deque_len}
use Rattle.otel_trace_session.specs.Calls.{calls_of}
use Rattle.otel_trace_session.specs.Fed.{Writes}
use Rattle.otel_trace_session.proofs.RunLemmas.{Ran}
use Rattle.otel_trace_session.proofs.session.Session.run_and_write.Given as goal

abbrev pub invariant-loop-command : goal.invariant-loop-command
invariant-loop-command g l = (g.F.ReplyForm.form l.form ≡ g.F.ReplyForm.form l.fn.form)
    × Writes (g.F.ReplyForm.form l.fn.form) l.fn.output.items l.output.items
    (λ replies. Ran (calls_of g.P.SpanProcessor g.P.Timed g.P.CountsLeftSpans g.P.KeepsBatches g.S.ShouldSample g.G.GivesIds) l.fn.self l.fn.commands.items l.queue.items replies l.self)

abbrev pub decreases-loop-command : goal.decreases-loop-command
decreases-loop-command g l = deque_len l.queue
