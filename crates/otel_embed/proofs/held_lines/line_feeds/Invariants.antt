-- Those that were counted, and those that are left.
use Rattle.std.proofs.Common.{◌≡◌, ◌≤◌, ◌+◌, count_by, length}
use Rattle.otel_embed.specs.HeldLines.{is_line_feed}
use Rattle.otel_embed.proofs.held_lines.line_feeds.Given as goal

abbrev pub invariant-loop-feed : goal.invariant-loop-feed
invariant-loop-feed l = record {
  all : l.count + length l.feeds ≡ count_by is_line_feed l.bytes;
  fits : l.count + length l.feeds ≤ length l.bytes;
}

abbrev pub decreases-loop-feed : goal.decreases-loop-feed
decreases-loop-feed l = length l.feeds
