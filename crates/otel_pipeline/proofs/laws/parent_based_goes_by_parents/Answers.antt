use Rattle.otel_sampling.specs.Sampler.{plan}
use Rattle.otel_pipeline.proofs.AgreementLemmas.{goes_by_parents}
use Rattle.otel_pipeline.proofs.laws.parent_based_goes_by_parents.Goals as goal

pub returns : goal.returns
returns g c = λ sampler delegate based question parent active.
    goes_by_parents g.C.ShouldSample.answer (plan sampler) delegate question parent based active
