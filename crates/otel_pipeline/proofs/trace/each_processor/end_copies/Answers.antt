use Rattle.std.proofs.Common.{◌≡◌, ℕ, suc, ◌-◌, ◌+◌, [], ◌∷◌, ◌++◌, length, replicate, arith, ◌∙◌, sym, rules, ap, subst, get_or}
use Rattle.otel_export.specs.PlainSpanData.{PlainSpanData}
use Rattle.otel_pipeline.specs.Ending.{TakesAndTells}
use Rattle.otel_pipeline.proofs.EachLemmas.{asked_next, rest_more, err_answer, ok_answer, with_answer, last_copy}
use Rattle.otel_pipeline.proofs.trace.each_processor.end_copies.Goals as goal
use Rattle.otel_pipeline.proofs.trace.each_processor.end_copies.Goals.{then-is_err, else-is_err}

pub loop-processor-preserved : goal.loop-processor-preserved
loop-processor-preserved g c =
    let counted : with_answer c.on_end.result c.loop-processor.refused ≡ c.if-is_err.refused = elim c.if-is_err.branch [
      | then-is_err w ↦ err_answer _ _ (sym c.is_err.ensures.value ∙ w.if-is_err.true) ∙ sym w.refused-is
      | else-is_err w ↦ ok_answer _ _ (sym c.is_err.ensures.value ∙ w.if-is_err.false) ∙ sym w.refused-is
    ] in
    let left : ℕ = length c.args.processors.now - (c.loop-processor.processor-index + 1) in
    let fewer : length c.args.processors.now - c.loop-processor.processor-index ≡ suc left = omega arith in
    record {
      asked = λ d h.
          let one : c.pop.new.self.items ++ c.unwrap-copy.result ∷ [] ≡ replicate (suc left) d =
          sym (rw c.unwrap-copy.ensures at c.pop.ensures.items) ∙ (c.loop-processor.invariant.asked d h).1 ∙ ap (λ n. replicate n d) fewer in
          let last = last_copy left d c.pop.new.self.items c.unwrap-copy.result one in
          let done : TakesAndTells g.P.SpanProcessor d (get_or c.loop-processor.processors c.loop-processor.processor-index c.processor-item.result) c.on_end.result c.on_end.new.self =
          subst (λ (e : PlainSpanData). TakesAndTells g.P.SpanProcessor e (get_or c.loop-processor.processors c.loop-processor.processor-index c.processor-item.result) c.on_end.result c.on_end.new.self) last.1 (record { gives = c.on_end.ensures.gives; told = c.on_end.ensures.told }) in
          (asked_next _ _ _ _ _ _ c.processor-item.result _ _ (omega arith) (search rules) c.loop-processor.invariant.rest (c.loop-processor.invariant.asked d h).0 done counted, last.0);
      rest = rest_more c.args.processors.now c.loop-processor.processors c.loop-processor.processor-index c.on_end.new.self c.loop-processor.invariant.rest;
      room = omega (arith, rw c.unwrap-copy.ensures at c.pop.ensures.len);
      few = elim c.if-is_err.branch [ then-is_err w ↦ omega arith | else-is_err w ↦ omega arith ];
    }
