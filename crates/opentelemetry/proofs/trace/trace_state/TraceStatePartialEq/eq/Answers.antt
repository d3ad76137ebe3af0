use Rattle.std.proofs.Common.{◌∙◌, sym, ap, map}
use Rattle.std.proofs.Common.{string_bytes}
use Rattle.opentelemetry.specs.Same.{same_pairs, same_pair, pointwise_map}
use Rattle.opentelemetry.proofs.trace.trace_state.TraceStatePartialEq.eq.Goals as goal

pub returns : goal.returns
returns c =
    c.eq.ensures ∙ sym (pointwise_map (λ p. (string_bytes p.0, string_bytes p.1)) same_pair c.entries.result.now c.entries-2.result.now)
    ∙ ap (λ l. same_pairs l (map (λ p. (string_bytes p.0, string_bytes p.1)) c.entries-2.result.now)) c.entries.ensures.value
    ∙ ap (λ l. same_pairs c.args.self.now l) c.entries-2.ensures.value
