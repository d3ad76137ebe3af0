-- Where all was written, it is read back.
use Rattle.std.proofs.Common.{◌≡◌, ◌++◌, ◌∙◌, List, OnOk, Result, Ok, Err, ap, subst}
use Rattle.json.specs.Lex.{tokens}
use Rattle.json.specs.Print.{print}
use Rattle.json.specs.Token.{Token}
use Rattle.json.specs.Tree.{json_tokens}
use Rattle.otel_otlp.specs.Otlp.{request}
use Rattle.otel_otlp.proofs.ReadsBack.{reads_request}
use Rattle.otel_otlp.proofs.request.write_request.Goals as goal
use Rattle.otel_otlp.proofs.request.write_request.Goals.{in-Ok, in-Err}

-- what holds, holds where all went well
always_ok : {T E P : Type 0} (r : Result T E) → P → OnOk r P
always_ok (Ok x) h = h
always_ok (Err e) h = tt

pub returns-else-is_err-clause-reads_back : goal.returns-else-is_err-clause-reads_back
returns-else-is_err-clause-reads_back c = elim c.match-written.branch [
  | in-Ok w ↦
      let json = request c.args.resource.now c.args.batch.now in
      let all : c.request-written.new.self.tokens ≡ json_tokens json =
      w.in-Ok.ensures.written ∙ ap (λ begun. begun.tokens ++ json_tokens json) c.new-writer.ensures in
      let lexed = subst (λ (ts : List Token). tokens (print ts) ≡ ts) all c.into_bytes.ensures.reads_back in
      always_ok c.match-written.ended (reads_request c.args.resource.now c.args.batch.now lexed)
  | in-Err w ↦ rw w.ended-is tt
]
