-- A text that is UTF-8, and one that is not.
use Rattle.std.proofs.Common.{IsTrue, IsSome, List, ℕ, subst}
use Rattle.std.specs.Prelude.{◌↔◌}
use Rattle.std.proofs.lemmas.Result.{IfOk-weaker}
use Rattle.json.specs.Json.{document}
use Rattle.otel_otlp_read.proofs.Documents.{no_text, valid_is}
use Rattle.otel_otlp_read.proofs.input.is_json.Goals as goal

pub returns-in-Ok : goal.returns-in-Ok
returns-in-Ok c =
    let is = c.in-Ok.ensures.cases in
    IfOk-weaker c.is_valid.result _ _
    (λ valid h. valid_is c.args.text.now valid is.1 (subst (λ (t : List ℕ). IsTrue valid ↔ IsSome (document t)) is.0 h))
    c.is_valid.ensures.ok

pub returns-in-Err : goal.returns-in-Err
returns-in-Err c = no_text c.args.text.now c.in-Err.ensures.cases.0
