use Rattle.std.proofs.Common.{string_bytes}
use Rattle.otel_sampling.specs.Ratio.{IsRatioText, all_traces}
use Rattle.otel_sampling.proofs.ConfigLemmas.{configured_by}
use Rattle.otel_sampling.proofs.trace.config.configured_ratio.Goals as goal

pub returns-in-Some : goal.returns-in-Some
returns-in-Some c =
    rw (c.in-Some.is, c.unwrap_or.ensures)
    (configured_by IsRatioText (string_bytes c.in-Some.text) all_traces c.from_text.result (rw c.as_str.ensures.value at c.from_text.ensures))
