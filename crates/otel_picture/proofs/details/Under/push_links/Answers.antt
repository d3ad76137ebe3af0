-- One link more.
use Rattle.std.proofs.Common.{string_bytes}
use Rattle.otel_picture.specs.Details.{link_lines}
use Rattle.otel_picture.proofs.Joined.{one_item}
use Rattle.otel_picture.proofs.details.Under.push_links.Goals as goal

pub loop-link-preserved : goal.loop-link-preserved
loop-link-preserved c =
    one_item (link_lines c.args.self) (string_bytes c.args.text.now) (string_bytes c.loop-link.text)
    (string_bytes c.push_link.new.text) c.args.links.now c.loop-link.link-index c.link-item.result
    c.loop-link-test.true c.link-item.is c.loop-link.invariant c.in_ok-push_link.ensures
