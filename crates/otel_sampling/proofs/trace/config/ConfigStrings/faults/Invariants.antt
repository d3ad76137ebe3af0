-- What the settings that are left find completes what was found.
use Rattle.std.proofs.Common.{drop}
use Rattle.otel_sampling.specs.ConfigFaults.{all_settings}
use Rattle.otel_sampling.proofs.FaultLemmas.{Completes}
use Rattle.otel_sampling.proofs.trace.config.ConfigStrings.faults.Given as goal

abbrev pub invariant-loop-setting : goal.invariant-loop-setting
invariant-loop-setting l = Completes l.self l.limits all_settings (drop l.setting-index all_settings) l.faults.items
