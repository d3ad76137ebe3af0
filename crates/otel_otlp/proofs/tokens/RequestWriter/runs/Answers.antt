-- One run more.
use Rattle.std.proofs.Common.{◌≡◌, ◌++◌, ◌+◌, ◌∷◌, ℕ, List, ◌∙◌, add-one, ap, drop, subst, sym, take}
use Rattle.std.proofs.lemmas.List.{take_rest}
use Rattle.json.specs.Tree.{json_tokens}
use Rattle.otel_export.specs.PlainSpanData.{PlainSpanData}
use Rattle.otel_otlp.specs.Fields.{list_tokens}
use Rattle.otel_otlp.specs.Otlp.{run_json}
use Rattle.otel_otlp.specs.ScopeRuns.{scope_runs}
use Rattle.otel_otlp.proofs.Adding.{as_tokens, first_written}
use Rattle.otel_otlp.proofs.tokens.RequestWriter.runs.Goals as goal

-- the first spans, and so many after the first one
take_first : (rest after : List PlainSpanData) (first : PlainSpanData) (count : ℕ) → rest ≡ first ∷ after
    → take (count + 1) rest ≡ first ∷ take count after
take_first rest after first count e = ap (take (count + 1)) e ∙ ap (λ n. take n (first ∷ after)) (add-one count)

pub loop-first-preserved : goal.loop-first-preserved
loop-first-preserved c =
    let rest = c.loop-first.rest.now in
    let first = c.in-Some.first.now in
    let after = c.in-Some.after.now in
    let count = c.run_length-count.result in
    let cut : rest ≡ first ∷ after = c.in-Some.ensures.cases.0 in
    let runs : scope_runs rest ≡ (first ∷ take count after) ∷ scope_runs (drop count after) =
    ap scope_runs cut ∙ c.run_length-count.ensures.run in
    let whole = c.args.self.now.tokens ++ list_tokens run_json (scope_runs c.args.spans.now) in
    let left =
    subst (λ (all : List (List PlainSpanData)). c.loop-first.self.tokens ++ list_tokens run_json all ≡ whole)
    runs c.loop-first.invariant.written in
    let written = ap (λ run. json_tokens (run_json run)) (take_first rest after first count cut) in
    let so_far = c.run.new.self.tokens in
    record {
      before = c.in_ok-run.ensures.before ∙ c.loop-first.invariant.before;
      written =
          subst (λ (spans : List PlainSpanData). so_far ++ list_tokens run_json (scope_runs spans) ≡ whole)
          (sym (take_rest after count))
          (first_written run_json (first ∷ take count after) (scope_runs (drop count after)) whole left
          (as_tokens written c.in_ok-run.ensures));
    }
