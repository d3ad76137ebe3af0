use Rattle.std.proofs.Common.{◌≡◌, take, drop, map, string_bytes}
use Rattle.otel_pipeline.specs.ValueLength.{first_chars}
use Rattle.otel_pipeline.proofs.trace.value_length.cut_each_text.Given as goal

abbrev pub invariant-loop-text : goal.invariant-loop-text
invariant-loop-text l = record {
  changed : map (λ t. string_bytes t) (take l.text-index l.texts) ≡ map (λ t. first_chars l.count (string_bytes t)) (take l.text-index l.fn.texts);
  rest : drop l.text-index l.texts ≡ drop l.text-index l.fn.texts;
}
