use Rattle.std.proofs.Common.{List, ℕ, ◌∙◌, ap, arith, length, zero-add}
use Rattle.memchr.proofs.lemmas.CallerLemmas.{length-places}
use Rattle.otel_embed.specs.HeldLines.{is_line_feed}
use Rattle.otel_embed.proofs.held_lines.line_feeds.Goals as goal

pub loop-feed-init : goal.loop-feed-init
loop-feed-init c = record {
  all = zero-add (length c.memchr_iter-feeds.result) ∙ ap (λ (feeds : List ℕ). length feeds) c.memchr_iter-feeds.ensures.value ∙ length-places is_line_feed c.args.bytes.now;
  fits = omega arith;
}
