use Rattle.otel_sampling.specs.ParentBased.{delegates_of}
use Rattle.otel_pipeline.proofs.DelegateLemmas.{follows_parent}
use Rattle.otel_pipeline.proofs.laws.parent_based_with_delegates_goes_by_parents.Goals as goal

pub returns : goal.returns
returns g c = λ sampler. follows_parent g.S.ShouldSample.answer (delegates_of sampler)
