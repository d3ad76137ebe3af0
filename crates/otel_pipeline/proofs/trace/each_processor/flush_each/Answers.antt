use Rattle.std.proofs.Common.{[], refl, arith, rules}
use Rattle.otel_pipeline.proofs.EachLemmas.{first_next, rest_more}
use Rattle.otel_pipeline.proofs.trace.each_processor.flush_each.Goals as goal

pub loop-processor-init : goal.loop-processor-init
loop-processor-init g c = record { asked = ([], refl, tt); rest = refl }

pub loop-processor-preserved : goal.loop-processor-preserved
loop-processor-preserved g c = record {
  asked = first_next _ _ _ _ c.processor-item.result _ _ _ _ (omega arith) (search rules) c.loop-processor.invariant.rest c.loop-processor.invariant.asked
      (record { gives = c.force_flush-flushed.ensures.gives; told = c.force_flush-flushed.ensures.told; is_open = c.force_flush-flushed.ensures.is_open; emptied = c.force_flush-flushed.ensures.emptied }) c.and-answer.ensures;
  rest = rest_more c.args.processors.now c.loop-processor.processors c.loop-processor.processor-index c.force_flush-flushed.new.self c.loop-processor.invariant.rest;
}
