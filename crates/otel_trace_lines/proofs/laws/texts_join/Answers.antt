use Rattle.otel_trace_lines.proofs.JoinedTexts.{bad_text_joined, texts_joined}
use Rattle.otel_trace_lines.proofs.laws.texts_join.Goals as goal

pub returns : goal.returns
returns c = record { joined = λ dialect first second ends commands more bad_line. texts_joined dialect first second commands more bad_line ends; bad = bad_text_joined }
