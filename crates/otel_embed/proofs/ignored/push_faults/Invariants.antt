-- The names of the faults so far.
use Rattle.std.proofs.Common.{◌≡◌, ◌++◌, map, string_bytes, take}
use Rattle.otel_sampling.specs.ConfigFaults.{setting_name}
use Rattle.otel_embed.specs.IgnoredSettings.{name_lines}
use Rattle.otel_embed.proofs.ignored.push_faults.Given as goal

abbrev pub invariant-loop-fault : goal.invariant-loop-fault
invariant-loop-fault l =
    string_bytes l.names ≡ string_bytes l.initial.names ++ name_lines (map (λ fault. setting_name fault.setting) (take l.fault-index l.faults))
