use Rattle.std.proofs.Common.{◌≡◌, arith, ◌∙◌, sym, rules}
use Rattle.otel_pipeline.proofs.EachLemmas.{asked_next, rest_more, err_answer, ok_answer, with_answer}
use Rattle.otel_pipeline.proofs.trace.each_processor.shutdown_each.Goals as goal
use Rattle.otel_pipeline.proofs.trace.each_processor.shutdown_each.Goals.{then-is_err, else-is_err}

pub loop-processor-preserved : goal.loop-processor-preserved
loop-processor-preserved g c =
    let counted : with_answer c.shutdown_with_timeout.result c.loop-processor.failed ≡ c.if-is_err.failed = elim c.if-is_err.branch [
      | then-is_err w ↦ err_answer _ _ (sym c.is_err.ensures.value ∙ w.if-is_err.true) ∙ sym w.failed-is
      | else-is_err w ↦ ok_answer _ _ (sym c.is_err.ensures.value ∙ w.if-is_err.false) ∙ sym w.failed-is
    ] in
    record {
      asked = asked_next _ _ _ _ _ _ c.processor-item.result _ _ (omega arith) (search rules) c.loop-processor.invariant.rest c.loop-processor.invariant.asked (record { gives = c.shutdown_with_timeout.ensures.gives; told = c.shutdown_with_timeout.ensures.told; emptied = c.shutdown_with_timeout.ensures.emptied }) counted;
      rest = rest_more c.args.processors.now c.loop-processor.processors c.loop-processor.processor-index c.shutdown_with_timeout.new.self c.loop-processor.invariant.rest;
      few = elim c.if-is_err.branch [ then-is_err w ↦ omega arith | else-is_err w ↦ omega arith ];
    }
