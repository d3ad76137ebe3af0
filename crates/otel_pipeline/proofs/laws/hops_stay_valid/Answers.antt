use Rattle.std.proofs.Common.{refl}
use Rattle.otel_propagation.specs.Traceparent.{IsSpanContext}
use Rattle.otel_pipeline.proofs.AgreementLemmas.{good_hops, hops_agree}
use Rattle.otel_pipeline.proofs.laws.hops_stay_valid.Goals as goal

pub returns : goal.returns
returns c =
    let root = c.args.root.now in
    let fits : IsSpanContext root = record {
      trace_id = c.span_contexts_fit.ensures.trace_id;
      span_id = c.span_contexts_fit.ensures.span_id;
      trace_state = c.span_contexts_fit.ensures.trace_state;
    } in
    record {
      valid = λ hops valid are. (good_hops root hops fits valid are).1;
      fit = λ hops valid are. (good_hops root hops fits valid are).0;
      hops = λ hops valid are. (good_hops root hops fits valid are).2;
      agree = λ hops valid are. hops_agree root root hops (record { trace_id = refl; sampled = refl; trace_state = refl }) (good_hops root hops fits valid are).2;
    }
