use Rattle.std.proofs.Common.{◌≡◌, ◌++◌, List}
use Rattle.std.specs.VecDeque.{deque_len}
use Rattle.otel_trace_lines.specs.PlainReply.{PlainReply}
use Rattle.otel_trace_session.specs.Calls.{calls_of}
use Rattle.otel_trace_session.proofs.RunLemmas.{Ran}
use Rattle.otel_trace_session.proofs.session.Session.run.Given as goal

abbrev pub invariant-loop-command : goal.invariant-loop-command
invariant-loop-command g l = (replies : List PlainReply) × (l.replies.items ≡ l.fn.replies.items ++ replies)
    × Ran (calls_of g.P.SpanProcessor g.P.Timed g.P.CountsLeftSpans g.P.KeepsBatches g.S.ShouldSample g.G.GivesIds) l.fn.self l.fn.commands.items l.queue.items replies l.self

abbrev pub decreases-loop-command : goal.decreases-loop-command
decreases-loop-command g l = deque_len l.queue
