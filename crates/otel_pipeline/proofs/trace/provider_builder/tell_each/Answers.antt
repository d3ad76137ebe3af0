use Rattle.std.proofs.Common.{◌≡◌, arith, ◌∙◌, sym, rules}
use Rattle.otel_pipeline.proofs.EachLemmas.{asked_next, rest_more, err_answer, ok_answer, with_answer}
use Rattle.otel_pipeline.proofs.trace.provider_builder.tell_each.Goals as goal
use Rattle.otel_pipeline.proofs.trace.provider_builder.tell_each.Goals.{then-is_err, else-is_err}

pub loop-processor-preserved : goal.loop-processor-preserved
loop-processor-preserved g c =
    let counted : with_answer c.set_resource.result c.loop-processor.refused ≡ c.if-is_err.refused = elim c.if-is_err.branch [
      | then-is_err w ↦ err_answer _ _ (sym c.is_err.ensures.value ∙ w.if-is_err.true) ∙ sym w.refused-is
      | else-is_err w ↦ ok_answer _ _ (sym c.is_err.ensures.value ∙ w.if-is_err.false) ∙ sym w.refused-is
    ] in
    record {
      told = asked_next _ _ _ _ _ _ c.processor-item.result _ _ (omega arith) (search rules) c.loop-processor.invariant.rest c.loop-processor.invariant.told (record { gives = c.set_resource.ensures.gives; told = c.set_resource.ensures.told }) counted;
      rest = rest_more c.args.processors.now c.loop-processor.processors c.loop-processor.processor-index c.set_resource.new.self c.loop-processor.invariant.rest;
      few = elim c.if-is_err.branch [ then-is_err w ↦ omega arith | else-is_err w ↦ omega arith ];
    }
