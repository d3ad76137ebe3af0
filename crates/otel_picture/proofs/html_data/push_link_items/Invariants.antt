-- The links so far.
use Rattle.std.proofs.Common.{◌≡◌, ◌++◌, flat_map, take}
use Rattle.otel_picture.specs.HtmlRows.{link_tokens}
use Rattle.otel_picture.proofs.html_data.push_link_items.Given as goal

abbrev pub invariant-loop-link : goal.invariant-loop-link
invariant-loop-link l = record {
  before : l.out.before ≡ l.fn.out.before;
  written : l.out.tokens ≡ l.fn.out.tokens ++ flat_map link_tokens (take l.link-index l.links);
}
