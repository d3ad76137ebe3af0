use Rattle.std.proofs.Common.{rules}
use Rattle.otel_sampling.proofs.trace.config.configured.Goals as goal

pub returns : goal.returns
returns g c = record {
  sampler = c.in_ok-configured_sampler.ensures;
  id_generator = search rules;
  span_limits = c.configured_limits.ensures;
  resource = c.in_ok-configured_resource.ensures;
}
