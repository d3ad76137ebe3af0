-- The spans of batches are those of their items. Where batches have no span, none of them has one.
use Rattle.std.proofs.Common.{◌≡◌, ◌<◌, ◌++◌, ◌∙◌, ℕ, List, [], ap, get_or, length, string_bytes, subst, sym, arith}
use Rattle.std.proofs.lemmas.Grind.{common_steps}
use Rattle.std.proofs.lemmas.List.{nil_from_length}
use Rattle.std.proofs.lemmas.List.Folds.{flat_map-map, length-flat_map-take}
use Rattle.std.specs.List.{flat_map}
use Rattle.opentelemetry.proofs.Clauses.{fails_on_err}
use Rattle.otel_export.specs.PlainSpanData.{PlainSpanData}
use Rattle.otel_console.specs.SpanText.{span_lines}
use Rattle.otel_trace_lines.proofs.reply_text.push_batches.Goals as goal

-- where lists that are joined have nothing, none of them has
none_among : {X Y : Type 0} (list_of : X → List Y) (xs : List X) (i : ℕ) (x : X) → i < length xs → x ≡ get_or xs i x → flat_map list_of xs ≡ [] → list_of x ≡ []
none_among list_of xs i x within is none =
    let short = length-flat_map-take list_of xs i x within in
    let empty : length (list_of (get_or xs i x)) ≡ 0 = omega (arith, short, ap length none) in
    ap list_of is ∙ nil_from_length (list_of (get_or xs i x)) empty

pub returns-clause-grown : goal.returns-clause-grown
returns-clause-grown c =
    let batches = c.args.batches.now in
    let now = string_bytes c.loop-batch.text in
    let before = string_bytes c.args.text.now in
    let whole : now ≡ before ++ span_lines (flat_map (λ batch. batch.items) batches) = grind (arith, common_steps) in
    subst (λ (spans : List PlainSpanData). now ≡ before ++ span_lines spans)
    (sym (flat_map-map (λ b. b) (λ batch. batch.items) batches)) whole

pub returns-in_err-push_spans-clause-free : goal.returns-in_err-push_spans-clause-free
returns-in_err-push_spans-clause-free c = λ none.
    let batches = c.args.batches.now in
    let here = sym (flat_map-map (λ b. b) (λ batch. batch.items) batches) ∙ none in
    absurd (fails_on_err c.in_err-push_spans.ensures.free
    (c.deref.ensures.value
    ∙ none_among (λ batch. batch.items) batches c.loop-batch.batch-index c.batch-item.result (omega arith)
    c.batch-item.is here))
