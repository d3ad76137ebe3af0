-- Runs that are written alike are seen alike, and so are batches, and resources.
use Rattle.std.proofs.Common.{◌≡◌, List, [], ◌∷◌, ◌++◌, map, ap, sym, refl, ◌∙◌}
use Rattle.std.proofs.lemmas.List.{map-append}
use Rattle.std.specs.FinMap.{entries}
use Rattle.std.specs.List.{AllByRecursion}
use Rattle.opentelemetry.specs.Plain.{PlainScope}
use Rattle.otel_resource.specs.Resource.{PlainResource}
use Rattle.otel_export.specs.PlainSpanData.{PlainSpanData, spans_in}
use Rattle.otel_otlp.specs.Fields.{list_json}
use Rattle.otel_otlp.specs.Fits.{PairFits, ResourceFits, SpanFits}
use Rattle.otel_otlp.specs.Otlp.{request, resource_json, run_json}
use Rattle.otel_otlp.specs.OtlpSpan.{span_json}
use Rattle.otel_otlp.specs.OtlpValues.{pair_json}
use Rattle.otel_otlp.specs.ScopeRuns.{run_scope, scope_runs}
use Rattle.otel_otlp.specs.Seen.{seen_pair, seen_resource, seen_scope, seen_span}
use Rattle.otel_otlp.proofs.JsonParts.{first_in, lists_alike, part, text_part}
use Rattle.otel_otlp.proofs.RunLaws.{runs_joined}
use Rattle.otel_otlp.proofs.RunsFit.{RunFits, batch_runs_fit, scope_fits}
use Rattle.otel_otlp.proofs.SpansAlike.{scopes_alike, spans_alike}
use Rattle.otel_otlp.proofs.ValuesAlike.{pairs_alike}

-- a span of a scope
record IsOf (scope : PlainScope) (span : PlainSpanData) : Type 0 where
  fits : SpanFits span
  is : span.instrumentation_scope ≡ scope

others_are_of : (scope : PlainScope) (spans : List PlainSpanData) → AllByRecursion SpanFits spans
    → AllByRecursion (λ span. span.instrumentation_scope ≡ scope) spans → AllByRecursion (IsOf scope) spans
others_are_of scope [] h k = tt
others_are_of scope (span ∷ spans) h k = (record { fits = h.0; is = k.0 }, others_are_of scope spans h.1 k.1)

-- each span of a run is of the run's scope
all_are_of : (run : List PlainSpanData) → RunFits run → AllByRecursion (IsOf (run_scope run)) run
all_are_of [] h = tt
all_are_of (span ∷ spans) h =
    (record { fits = h.fits.0; is = refl }, others_are_of span.instrumentation_scope spans h.fits.1 h.is_run)

runs_alike : (a b : List PlainSpanData) → RunFits a → RunFits b → run_json a ≡ run_json b
    → map seen_span a ≡ map seen_span b
runs_alike a b h k e =
    let scope =
    scopes_alike (run_scope a) (run_scope b) (scope_fits a h) (scope_fits b k) (ap (part 0) e) (ap (text_part 2) e) in
    lists_alike span_json seen_span (IsOf (run_scope a)) (IsOf (run_scope b))
    (λ x y p q same. spans_alike x y p.fits q.fits (ap seen_scope p.is ∙ scope ∙ sym (ap seen_scope q.is)) same)
    a b (all_are_of a h) (all_are_of b k) (ap (part 1) e)

-- runs seen one by one and joined are what they join to, seen
seen_joined : (runs : List (List PlainSpanData))
    → map seen_span (spans_in runs) ≡ spans_in (map (λ run. map seen_span run) runs)
seen_joined [] = refl
seen_joined (run ∷ runs) =
    map-append seen_span run (spans_in runs) ∙ ap (λ spans. map seen_span run ++ spans) (seen_joined runs)

seen_by_runs : (batch : List PlainSpanData)
    → map seen_span batch ≡ spans_in (map (λ run. map seen_span run) (scope_runs batch))
seen_by_runs batch = ap (map seen_span) (sym (runs_joined batch)) ∙ seen_joined (scope_runs batch)

batches_alike : (a b : List PlainSpanData) → AllByRecursion SpanFits a → AllByRecursion SpanFits b
    → list_json run_json (scope_runs a) ≡ list_json run_json (scope_runs b) → map seen_span a ≡ map seen_span b
batches_alike a b h k e =
    let runs =
    lists_alike run_json (λ run. map seen_span run) RunFits RunFits runs_alike (scope_runs a) (scope_runs b)
    (batch_runs_fit a h) (batch_runs_fit b k) e in
    seen_by_runs a ∙ ap spans_in runs ∙ sym (seen_by_runs b)

resources_alike : (r s : PlainResource) → ResourceFits r → ResourceFits s → resource_json r ≡ resource_json s
    → map seen_pair (entries r.attributes) ≡ map seen_pair (entries s.attributes)
resources_alike r s h k e =
    lists_alike pair_json seen_pair PairFits PairFits pairs_alike (entries r.attributes) (entries s.attributes) h k
    (ap (part 0) e)

pub requests_alike : (r s : PlainResource) (a b : List PlainSpanData) → ResourceFits r → ResourceFits s
    → AllByRecursion SpanFits a → AllByRecursion SpanFits b → request r a ≡ request s b
    → (seen_resource r ≡ seen_resource s) × (map seen_span a ≡ map seen_span b)
requests_alike r s a b fits others h k e =
    let of_resource = ap (λ j. first_in (part 0 j)) e in
    let attributes = resources_alike r s fits others (ap (part 0) of_resource) in
    let schema : r.schema_url ≡ s.schema_url = ap (text_part 2) of_resource in
    (λ i. (attributes i, schema i), batches_alike a b h k (ap (part 1) of_resource))
