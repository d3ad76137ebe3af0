use Rattle.otel_trace_steps.proofs.JoinedSteps.{answers_joined, bad_answers_joined, begins_joined}
use Rattle.otel_trace_steps.proofs.laws.answers_join.Goals as goal

pub returns : goal.returns
returns c = record { joined = λ first second ends m middle after bad_line answers more. answers_joined m middle after first second bad_line answers more ends; bad = bad_answers_joined; begun = begins_joined }
