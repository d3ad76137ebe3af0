-- Each outcome has its text.
use Rattle.std.proofs.Common.{codes, string_bytes, rules}
use Rattle.otel_trace_steps.proofs.StepTexts.{grown_if_ok}
use Rattle.otel_trace_steps.proofs.steps.step_texts.push_outcome.Goals as goal

pub returns-in-HandedOver : goal.returns-in-HandedOver
returns-in-HandedOver c = rw c.in-HandedOver.is (search rules)

pub returns-in-NotEnabled : goal.returns-in-NotEnabled
returns-in-NotEnabled c =
    rw c.in-NotEnabled.is (grown_if_ok c.push_str-in-NotEnabled.result (string_bytes c.args.text.now) (codes "not enabled") (string_bytes c.push_str-in-NotEnabled.new.self) c.push_str-in-NotEnabled.ensures.bytes)
