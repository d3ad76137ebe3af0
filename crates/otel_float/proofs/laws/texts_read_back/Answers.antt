use Rattle.std.proofs.Common.{T, sym, subst}
use Rattle.otel_float.proofs.Texts.{reads}
use Rattle.otel_float.proofs.laws.texts_read_back.Goals as goal

pub returns : goal.returns
returns c = λ x fits.
    let r = reads x (subst (λ b. T b) (sym fits) tt) in
    (r.parses, r.plain)
