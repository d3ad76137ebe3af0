use Rattle.otel_lines.proofs.FirstByte.{first_is_position}
use Rattle.otel_lines.proofs.line_feed.first_line_feed.Goals as goal

pub returns : goal.returns
returns c = first_is_position 10 c.args.text.now c.memchr.result c.memchr.ensures
