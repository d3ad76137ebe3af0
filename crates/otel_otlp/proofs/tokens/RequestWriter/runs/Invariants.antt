-- What is left of the runs is still to be written.
use Rattle.std.proofs.Common.{◌≡◌, ◌++◌, length}
use Rattle.otel_otlp.specs.Fields.{list_tokens}
use Rattle.otel_otlp.specs.Otlp.{run_json}
use Rattle.otel_otlp.specs.ScopeRuns.{scope_runs}
use Rattle.otel_otlp.proofs.tokens.RequestWriter.runs.Given as goal

abbrev pub invariant-loop-first : goal.invariant-loop-first
invariant-loop-first l = record {
  before : l.self.before ≡ l.fn.self.before;
  written : l.self.tokens ++ list_tokens run_json (scope_runs l.rest)
      ≡ l.fn.self.tokens ++ list_tokens run_json (scope_runs l.fn.spans);
}

abbrev pub decreases-loop-first : goal.decreases-loop-first
decreases-loop-first l = length l.rest
