-- Each setting adds its fault, or none.
use Rattle.std.proofs.Common.{ap, ◌∙◌}
use Rattle.std.proofs.lemmas.List.{drop_all}
use Rattle.otel_sampling.specs.ConfigFaults.{all_settings}
use Rattle.otel_sampling.specs.declared.trace.config.faults.Setting.TheVariants.{ScheduleDelay}
use Rattle.otel_sampling.proofs.FaultLemmas.{nothing_found, one_more, none_more, all_found}
use Rattle.otel_sampling.proofs.trace.config.ConfigStrings.faults.Goals as goal
use Rattle.otel_sampling.proofs.trace.config.ConfigStrings.faults.Goals.{then-ignores+in_ok-push, else-ignores}

pub loop-setting-init : goal.loop-setting-init
loop-setting-init c =
    nothing_found c.args.self.now c.configured_limits-limits.result all_settings c.new-faults.result.items
    c.new-faults.ensures.items

pub loop-setting-preserved : goal.loop-setting-preserved
loop-setting-preserved c =
    elim c.if-ignores.branch [
      | then-ignores+in_ok-push w ↦
          one_more c.args.self.now c.configured_limits-limits.result all_settings c.loop-setting.setting-index ScheduleDelay
          c.loop-setting.faults.items c.if-ignores.faults.items _ c.ignores.result w.replacement.result
          c.loop-setting.invariant c.loop-setting-test.true c.string.ensures c.ignores.ensures w.if-ignores.true
          w.replacement.ensures (ap (λ faults. faults.items) w.faults-is ∙ w.in_ok-push.ensures.items)
      | else-ignores w ↦
          none_more c.args.self.now c.configured_limits-limits.result all_settings c.loop-setting.setting-index ScheduleDelay
          c.loop-setting.faults.items c.if-ignores.faults.items _ c.ignores.result
          c.loop-setting.invariant c.loop-setting-test.true c.string.ensures c.ignores.ensures w.if-ignores.false
          (ap (λ faults. faults.items) w.faults-is)
    ]

pub returns : goal.returns
returns c = (
  c.configured_limits-limits.result,
  c.configured_limits-limits.ensures,
  all_found c.args.self.now c.configured_limits-limits.result all_settings _ c.loop-setting.faults.items
      c.loop-setting.invariant (drop_all c.loop-setting.setting-index all_settings c.loop-setting-test.false),
)
