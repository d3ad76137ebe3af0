use Rattle.otel_pipeline.proofs.AgreementLemmas.{hops_agree}
use Rattle.otel_pipeline.proofs.laws.hops_keep_agreement.Goals as goal

pub returns : goal.returns
returns c = hops_agree
