use Rattle.std.proofs.Common.{◌∙◌, sym, string_bytes}
use Rattle.opentelemetry.specs.Same.{same_text, pointwise_map}
use Rattle.opentelemetry.proofs.common.ArrayPartialEq.eq.Goals as goal

pub returns-in-String-String : goal.returns-in-String-String
returns-in-String-String c =
    rw (c.in-String-String.is-0, c.in-String-String.is-1) (c.eq-in-String-String.ensures ∙ sym (pointwise_map (λ t. string_bytes t) same_text c.in-String-String.these.items c.in-String-String.those.items))
