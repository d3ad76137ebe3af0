use Rattle.std.proofs.Common.{string_bytes, arith}
use Rattle.std.proofs.lemmas.Str.{IsUtf8-string_bytes}
use Rattle.std.proofs.lemmas.Bool.Decides.{nat_tests}
use Rattle.otel_pipeline.proofs.FirstChars.{short_stays}
use Rattle.otel_pipeline.proofs.trace.value_length.cut_text.Goals as goal

pub returns-else-len-count : goal.returns-else-len-count
returns-else-len-count c = short_stays (string_bytes c.args.text.now) c.args.count (IsUtf8-string_bytes c.args.text.now) (grind (arith, nat_tests))
