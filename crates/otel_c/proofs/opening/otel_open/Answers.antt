use Rattle.std.proofs.Common.{rules}
use Rattle.otel_c.proofs.Turning.{holds_none, put_holds}
use Rattle.otel_c.proofs.opening.otel_open.Goals as goal

pub returns-in-Ok-new-clause-ok : goal.returns-in-Ok-new-clause-ok
returns-in-Ok-new-clause-ok c = λ _. (
  holds_none _ _ c.args.handle.now.holds (search rules),
  put_holds _ _ c.in-Ok.pipeline c.in-Ok-new.pipeline.value c.put.ensures.1 c.in-Ok-new.ensures.ok c.in-Ok.ensures.opens,
)

pub returns-in-Ok-new-clause-settings : goal.returns-in-Ok-new-clause-settings
returns-in-Ok-new-clause-settings c = λ _.
    put_holds _ _ c.in-Ok.pipeline c.in-Ok-new.pipeline.value c.put.ensures.1 c.in-Ok-new.ensures.ok c.in-Ok.ensures.settings
