use Rattle.std.proofs.Common.{◌≡◌, ◌∙◌, take, map, sym, ap, rules, arith, string_bytes}
use Rattle.std.proofs.lemmas.List.{take_all}
use Rattle.std.proofs.lemmas.Simd.{map-map}
use Rattle.otel_pipeline.specs.ValueLength.{first_chars}
use Rattle.otel_pipeline.proofs.Cutting.{shown_next}
use Rattle.otel_pipeline.proofs.EachLemmas.{rest_more}
use Rattle.otel_pipeline.proofs.trace.value_length.cut_each_text.Goals as goal

pub loop-text-preserved : goal.loop-text-preserved
loop-text-preserved c = record {
  changed = shown_next (λ t. string_bytes t) (λ t. first_chars c.args.count (string_bytes t)) c.args.texts.now c.loop-text.texts c.loop-text.text-index c.text-item.result _ (omega arith) (search rules) c.loop-text.invariant.rest c.loop-text.invariant.changed (search rules);
  rest = rest_more c.args.texts.now c.loop-text.texts c.loop-text.text-index _ c.loop-text.invariant.rest;
}

pub returns : goal.returns
returns c =
    let now : take c.loop-text.text-index c.loop-text.texts ≡ c.loop-text.texts = take_all _ _ (omega arith) in
    let old : take c.loop-text.text-index c.args.texts.now ≡ c.args.texts.now = take_all _ _ (omega arith) in
    ap (map (λ t. string_bytes t)) (sym now) ∙ c.loop-text.invariant.changed ∙ ap (map (λ t. first_chars c.args.count (string_bytes t))) old
    ∙ sym (map-map (first_chars c.args.count) (λ t. string_bytes t) c.args.texts.now)
