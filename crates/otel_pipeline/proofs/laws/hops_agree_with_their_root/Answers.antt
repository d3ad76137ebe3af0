use Rattle.std.proofs.Common.{refl}
use Rattle.otel_pipeline.proofs.AgreementLemmas.{hops_agree}
use Rattle.otel_pipeline.proofs.laws.hops_agree_with_their_root.Goals as goal

pub returns : goal.returns
returns c = λ root hops are. hops_agree root root hops (record { trace_id = refl; sampled = refl; trace_state = refl }) are
