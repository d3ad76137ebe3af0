-- One pair more.
use Rattle.std.proofs.Common.{◌≡◌, ◌++◌, ◌∙◌, ℕ, List, subst}
use Rattle.std.specs.FinMap.{entries}
use Rattle.opentelemetry.specs.Plain.{PlainValue}
use Rattle.opentelemetry.specs.PlainValues.{plain_value}
use Rattle.otel_otlp.specs.Fields.{list_tokens}
use Rattle.otel_otlp.specs.OtlpValues.{pair_json}
use Rattle.otel_otlp.proofs.Adding.{first_written}
use Rattle.otel_otlp.proofs.tokens.RequestWriter.pairs.Goals as goal

pub loop-key-preserved : goal.loop-key-preserved
loop-key-preserved c =
    let pair : List ℕ × PlainValue = (c.in-Some.key.now, plain_value c.in-Some.value.now) in
    let whole = c.args.self.now.tokens ++ list_tokens pair_json (entries c.args.resource.now.attributes) in
    record {
      before = c.in_ok-pair.ensures.before ∙ c.loop-key.invariant.before;
      written =
          let left =
          subst (λ (pairs : List (List ℕ × PlainValue)). c.loop-key.self.tokens ++ list_tokens pair_json pairs ≡ whole)
          c.in-Some.ensures.steps c.loop-key.invariant.written in
          first_written pair_json pair c.next.new.self whole left c.in_ok-pair.ensures;
    }
