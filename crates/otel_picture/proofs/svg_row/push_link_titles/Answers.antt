-- One link more.
use Rattle.std.proofs.Common.{string_bytes}
use Rattle.otel_picture.specs.SvgTexts.{link_title}
use Rattle.otel_picture.proofs.Joined.{one_item}
use Rattle.otel_picture.proofs.svg_row.push_link_titles.Goals as goal

pub loop-link-preserved : goal.loop-link-preserved
loop-link-preserved c =
    one_item link_title (string_bytes c.args.out.now) (string_bytes c.loop-link.out)
    (string_bytes c.push_link_title.new.out) c.args.links.now c.loop-link.link-index c.link-item.result
    c.loop-link-test.true c.link-item.is c.loop-link.invariant c.in_ok-push_link_title.ensures
