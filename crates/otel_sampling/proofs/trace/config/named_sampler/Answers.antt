-- A name that stands for no other sampler.
use Rattle.otel_sampling.proofs.ConfigLemmas.{configured_default}
use Rattle.otel_sampling.proofs.trace.config.named_sampler.Goals as goal

pub returns-in_default : goal.returns-in_default
returns-in_default g c =
    configured_default c.args.name.now c.args.ratio c.parent_based-in_default.result
    (record {
      always_on = c.in_default.not-always_on;
      always_off = c.in_default.not-always_off;
      ratio = c.in_default.not-traceidratio;
      parent_off = c.in_default.not-parentbased_always_off;
      parent_ratio = c.in_default.not-parentbased_traceidratio;
    })
    c.parent_based-in_default.ensures
