-- The body so far.
use Rattle.std.proofs.Common.{◌≡◌, true, ℕ, ◌≤◌, List, length, ◌++◌}
use Rattle.std.specs.Io.KnownBytes.{Consumes}
use Rattle.http1.specs.declared.decode.Decoder.{Decoder}
use Rattle.otel_http_post.specs.Following.{HasKept, IsInBody, is_nothing}
use Rattle.otel_http_post.proofs.body.read_body.Given as goal

abbrev pub invariant-pieces : goal.invariant-pieces
invariant-pieces g l =
    ((received : List ℕ) × Consumes (g.R.Read.remaining l.fn.reader) (g.R.Read.remaining l.reader) received
    × ((first : Decoder) → IsInBody l.fn.inbox.client first
    → HasKept l.fn.inbox.client first (l.fn.inbox.input.items ++ received) l.inbox.client l.inbox.input.items
    l.body.items × (is_nothing first ≡ true → l.counter ≡ 0)))
    × (length l.body.items ≤ l.limit)
