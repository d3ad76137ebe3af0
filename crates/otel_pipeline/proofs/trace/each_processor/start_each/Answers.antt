use Rattle.std.proofs.Common.{◌∙◌, [], refl, rules, arith}
use Rattle.otel_pipeline.proofs.SpanLaws.{edited_again}
use Rattle.otel_pipeline.proofs.EachLemmas.{map_kept, passes_next, rest_more}
use Rattle.otel_pipeline.proofs.trace.each_processor.start_each.Goals as goal

pub loop-processor-init : goal.loop-processor-init
loop-processor-init g c = record { edits = ([], refl); told = refl; passed = refl; rest = refl }

pub loop-processor-preserved : goal.loop-processor-preserved
loop-processor-preserved g c = record {
  edits = edited_again _ _ _ c.loop-processor.invariant.edits c.on_start.ensures.edits;
  told = map_kept g.P.SpanProcessor.told c.loop-processor.processors c.loop-processor.processor-index c.processor-item.result c.on_start.new.self (omega arith) c.on_start.ensures.told ∙ c.loop-processor.invariant.told;
  passed = passes_next g.P.SpanProcessor _ _ _ _ _ c.processor-item.result _ _ _ (omega arith) (search rules) c.loop-processor.invariant.rest c.loop-processor.invariant.passed
      (record { gives = c.on_start.ensures.gives; edits = c.on_start.ensures.edits; told = c.on_start.ensures.told });
  rest = rest_more c.args.processors.now c.loop-processor.processors c.loop-processor.processor-index c.on_start.new.self c.loop-processor.invariant.rest;
}
