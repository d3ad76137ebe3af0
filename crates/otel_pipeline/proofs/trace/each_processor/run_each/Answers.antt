use Rattle.std.proofs.Common.{◌≡◌, arith, ◌∙◌, sym, rules}
use Rattle.otel_pipeline.proofs.EachLemmas.{asked_next, rest_more, err_answer, ok_answer, with_answer}
use Rattle.otel_pipeline.proofs.trace.each_processor.run_each.Goals as goal
use Rattle.otel_pipeline.proofs.trace.each_processor.run_each.Goals.{then-is_err, else-is_err}

pub loop-processor-preserved : goal.loop-processor-preserved
loop-processor-preserved g c =
    let counted : with_answer c.drain_due.result c.loop-processor.failed ≡ c.if-is_err.failed = elim c.if-is_err.branch [
      | then-is_err w ↦ err_answer _ _ (sym c.is_err.ensures.value ∙ w.if-is_err.true) ∙ sym w.failed-is
      | else-is_err w ↦ ok_answer _ _ (sym c.is_err.ensures.value ∙ w.if-is_err.false) ∙ sym w.failed-is
    ] in
    record {
      asked = asked_next _ _ _ _ _ _ c.processor-item.result _ _ (omega arith) (search rules) c.loop-processor.invariant.rest c.loop-processor.invariant.asked (record { gives = c.drain_due.ensures.gives; told = c.drain_due.ensures.told; is_open = c.drain_due.ensures.is_open }) counted;
      rest = rest_more c.args.processors.now c.loop-processor.processors c.loop-processor.processor-index c.drain_due.new.self c.loop-processor.invariant.rest;
      few = elim c.if-is_err.branch [ then-is_err w ↦ omega arith | else-is_err w ↦ omega arith ];
    }
