-- One run more.
use Rattle.std.proofs.Common.{◌≡◌, [], ◌∷◌, ◌++◌, List, ◌∙◌, ap, drop, sym, take}
use Rattle.std.proofs.lemmas.List.{drop-append-le, take-append-le}
use Rattle.otel_export.specs.PlainSpanData.{PlainSpanData}
use Rattle.otel_otlp.specs.ScopeRuns.{run_scope, scope_runs}
use Rattle.otel_otlp_protobuf.proofs.Steps.{none_left}
use Rattle.otel_otlp_protobuf.specs.NamedRequest.{run_members, scope_spans_members}
use Rattle.otel_otlp_protobuf.specs.Said.{message_fields}
use Rattle.otel_protobuf.proofs.Taking.{and_fields, as_fields, last_message, nothing}
use Rattle.otel_protobuf.specs.Wire.{Field, nested, repeated}
use Rattle.otel_otlp_protobuf.proofs.request.runs.Goals as goal

-- the fields of a run
abbrev run_fields : List PlainSpanData → List Field
run_fields run = message_fields (run_members run)

pub loop-last-preserved : goal.loop-last-preserved
loop-last-preserved c =
    λ new h.
    let rest = c.loop-last.rest.now in
    let last = c.in-Some.last.now in
    let before = c.in-Some.before.now in
    let begin = c.last_run.result in
    let cut : rest ≡ before ++ last ∷ [] = c.in-Some.ensures.cases.0 in
    let others : take begin rest ≡ take begin before =
    ap (take begin) cut ∙ take-append-le begin before (last ∷ []) c.last_run.ensures.within in
    let run : drop begin rest ≡ drop begin before ++ last ∷ [] =
    ap (drop begin) cut ∙ drop-append-le begin before (last ∷ []) c.last_run.ensures.within in
    let runs : scope_runs rest ≡ scope_runs (take begin before) ++ (drop begin before ++ last ∷ []) ∷ [] =
    ap scope_runs cut ∙ c.last_run.ensures.run in
    c.loop-last.invariant new
    (as_fields (last_message 2 run_fields (scope_runs (take begin before)) (drop begin before ++ last ∷ [])
    ∙ ap (repeated 2 run_fields) (sym runs))
    (and_fields (repeated 2 run_fields (scope_runs (take begin before)))
    (nested 2 (run_fields (drop begin before ++ last ∷ [])))
    (as_fields (ap (λ spans. repeated 2 run_fields (scope_runs spans)) (c.split_at.ensures.front ∙ others)) h)
    (as_fields
    (ap (λ scope. nested 2 (message_fields (scope_spans_members scope c.split_at.result.1.now)))
    (ap (λ span. span.instrumentation_scope) c.last.view_is ∙ sym c.last_run.ensures.scope)
    ∙ ap (λ spans. nested 2 (message_fields
    (scope_spans_members (run_scope (drop begin before ++ last ∷ [])) spans))) (c.split_at.ensures.back ∙ run))
    c.nested.ensures)))

pub returns : goal.returns
returns c =
    c.loop-last.invariant c.loop-last.sink
    (as_fields (ap (λ spans. repeated 2 run_fields (scope_runs spans))
    (none_left c.loop-last.rest.now c.in_default.ensures.cases)) (nothing c.loop-last.sink))
