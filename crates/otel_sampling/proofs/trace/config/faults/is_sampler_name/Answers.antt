-- Each of the six names is one.
use Rattle.std.proofs.Common.{inl, inr, refl}
use Rattle.otel_sampling.specs.Ratio.{all_traces}
use Rattle.otel_sampling.proofs.FaultLemmas.{named}
use Rattle.otel_sampling.proofs.trace.config.faults.is_sampler_name.Goals as goal

pub returns-in-always_on : goal.returns-in-always_on
returns-in-always_on c = named _ all_traces _ (inl (c.in-always_on.is-always_on, refl))

pub returns-in-always_on-2 : goal.returns-in-always_on-2
returns-in-always_on-2 c = named _ all_traces _ (inr (inl (c.in-always_on.is-always_off, refl)))

pub returns-in-always_on-3 : goal.returns-in-always_on-3
returns-in-always_on-3 c = named _ all_traces _ (inr (inr (inl (c.in-always_on.is-traceidratio, refl))))

pub returns-in-parentbased_always_on : goal.returns-in-parentbased_always_on
returns-in-parentbased_always_on c =
    named _ all_traces _ (inr (inr (inr (inl (c.in-parentbased_always_on.is-parentbased_always_on, refl)))))

pub returns-in-parentbased_always_on-2 : goal.returns-in-parentbased_always_on-2
returns-in-parentbased_always_on-2 c =
    named _ all_traces _ (inr (inr (inr (inr (inl (c.in-parentbased_always_on.is-parentbased_always_off, refl))))))

pub returns-in-parentbased_always_on-3 : goal.returns-in-parentbased_always_on-3
returns-in-parentbased_always_on-3 c =
    named _ all_traces _ (inr (inr (inr (inr (inr (inl (c.in-parentbased_always_on.is-parentbased_traceidratio, refl)))))))
