use Rattle.otel_pipeline.proofs.AgreementLemmas.{child_under, hop_under}
use Rattle.otel_pipeline.proofs.laws.starts_under_valid_parents_make_hops.Goals as goal

pub returns : goal.returns
returns g c = record {
  child = λ old new request history parent below by_valid valid.
      child_under g.P.SpanProcessor g.S.ShouldSample g.G.GivesIds old new request history parent below (by_valid parent valid);
  hop = λ old new request history parent below by_valid valid.
      hop_under g.P.SpanProcessor g.S.ShouldSample g.G.GivesIds old new request history parent below (by_valid parent valid);
}
