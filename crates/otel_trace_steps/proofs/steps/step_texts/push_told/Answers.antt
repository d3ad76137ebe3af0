-- All batches are written, and there are some.
use Rattle.std.proofs.Common.{◌≡◌, ◌<◌, ◌∷◌, ◌++◌, length, map, take, string_bytes, ap, sym, ◌∙◌, arith, rules}
use Rattle.std.proofs.Math.Seq.{take-length}
use Rattle.std.proofs.lemmas.List.{length-map}
use Rattle.std.specs.List.{flat_map}
use Rattle.otel_trace_steps.specs.StepTexts.{names_text}
use Rattle.otel_trace_steps.proofs.StepTexts.{told_of}
use Rattle.otel_trace_steps.proofs.steps.step_texts.push_told.Goals as goal

pub returns : goal.returns
returns c =
    let at_end : c.loop-batch.batch-index ≡ length c.args.batches.now = omega (arith, c.loop-batch.auto.batch-index-end, c.loop-batch-test.false) in
    let all : take c.loop-batch.batch-index c.args.batches.now ≡ c.args.batches.now = ap (λ n. take n c.args.batches.now) at_end ∙ take-length c.args.batches.now in
    let filled : 0 < length c.args.batches.now = search rules in
    let some : 0 < length (map (λ batch. batch.items) c.args.batches.now) = omega (arith, length-map c.args.batches.now (λ batch. batch.items)) in
    c.loop-batch.invariant ∙ ap (λ t. string_bytes c.args.text.now ++ t) (ap (λ bs. flat_map (λ batch. 32 ∷ names_text batch.items) bs) all ∙ sym (told_of (λ batch. batch.items) c.args.batches.now some))
