-- No head but those of responses that only inform was read.
use Rattle.std.proofs.Common.{ℕ, List, ◌++◌}
use Rattle.std.specs.Io.KnownBytes.{Consumes}
use Rattle.otel_http_post.specs.Following.{HasInformed, IsWaiting}
use Rattle.otel_http_post.proofs.head.read_head.Given as goal

abbrev pub invariant-heads : goal.invariant-heads
invariant-heads g l =
    (received : List ℕ) × Consumes (g.R.Read.remaining l.fn.reader) (g.R.Read.remaining l.reader) received
    × (IsWaiting l.fn.inbox.client
    → HasInformed l.fn.inbox.client (l.fn.inbox.input.items ++ received) l.inbox.client l.inbox.input.items)
