use Rattle.std.proofs.Common.{◌∙◌, sym, ap, reverse}
use Rattle.std.proofs.lemmas.List.{reverse-reverse}
use Rattle.opentelemetry.specs.Tracestate.{trim_front}
use Rattle.opentelemetry.proofs.propagation.blanks.trim_blanks.Goals as goal

pub returns : goal.returns
returns c =
    let front = sym c.in_default.ensures ∙ c.front.invariant.same in
    let back = sym c.in_default-without_last_blank.ensures ∙ c.back.invariant.same in
    sym (reverse-reverse c.back.back.now) ∙ ap reverse (back ∙ ap (λ t. trim_front (reverse t)) front)
