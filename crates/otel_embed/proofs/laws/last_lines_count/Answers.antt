use Rattle.otel_embed.proofs.LastLines.{last_lines}
use Rattle.otel_embed.proofs.laws.last_lines_count.Goals as goal

pub returns : goal.returns
returns c = last_lines
