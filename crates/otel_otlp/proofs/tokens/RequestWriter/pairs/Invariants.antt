-- What is left of the pairs is still to be written.
use Rattle.std.proofs.Common.{◌≡◌, ◌++◌, length}
use Rattle.std.specs.FinMap.{entries}
use Rattle.otel_otlp.specs.Fields.{list_tokens}
use Rattle.otel_otlp.specs.OtlpValues.{pair_json}
use Rattle.otel_otlp.proofs.tokens.RequestWriter.pairs.Given as goal

abbrev pub invariant-loop-key : goal.invariant-loop-key
invariant-loop-key l = record {
  before : l.self.before ≡ l.fn.self.before;
  written : l.self.tokens ++ list_tokens pair_json l.key-iterator
      ≡ l.fn.self.tokens ++ list_tokens pair_json (entries l.fn.resource.attributes);
}

abbrev pub decreases-loop-key : goal.decreases-loop-key
decreases-loop-key l = length l.key-iterator
