-- Nothing came yet.
use Rattle.std.proofs.Common.{◌≡◌, ◌<◌}
use Rattle.std.specs.Io.KnownBytes.{Keeps}
use Rattle.otel_http_post.proofs.inbox.Inbox.fill.Given as goal

abbrev pub invariant-loop : goal.invariant-loop
invariant-loop g l = record {
  items : l.self.input.items ≡ l.fn.self.input.items;
  room : 0 < l.self.input.spare;
  client : l.self.client ≡ l.fn.self.client;
  kept : Keeps (g.R.Read.remaining l.fn.reader) (g.R.Read.remaining l.reader);
}
