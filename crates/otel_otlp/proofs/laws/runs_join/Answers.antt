use Rattle.otel_otlp.proofs.RunLaws.{runs_are_runs, runs_apart, runs_joined}
use Rattle.otel_otlp.proofs.laws.runs_join.Goals as goal

pub returns-clause-joined : goal.returns-clause-joined
returns-clause-joined c = runs_joined

pub returns-clause-runs : goal.returns-clause-runs
returns-clause-runs c = runs_are_runs

pub returns-clause-apart : goal.returns-clause-apart
returns-clause-apart c = runs_apart
