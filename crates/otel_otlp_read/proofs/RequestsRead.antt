-- A request that is written is read back as the spans of its batch.
use Rattle.std.proofs.Common.{◌≡◌, ℕ, List, [], ◌∷◌, ◌++◌, map, Ok}
use Rattle.std.proofs.Common.{refl, sym, ap, ◌∙◌, append-nil, flat_map}
use Rattle.std.proofs.lemmas.List.{map-append}
use Rattle.std.proofs.lemmas.List.Concat.{flat_map-cons, flat_map_single}
use Rattle.std.specs.FinMap.{entries}
use Rattle.std.specs.List.{AllByRecursion}
use Rattle.opentelemetry.specs.Plain.{PlainValue}
use Rattle.otel_resource.specs.Resource.{PlainResource}
use Rattle.otel_export.specs.PlainSpanData.{PlainSpanData, spans_in}
use Rattle.otel_otlp.specs.Fields.{items_of}
use Rattle.otel_otlp.specs.Fits.{PairFits, ResourceFits, SpanFits}
use Rattle.otel_otlp.specs.Otlp.{request, resource_json, resource_spans_json, run_json}
use Rattle.otel_otlp.specs.OtlpSpan.{span_json}
use Rattle.otel_otlp.specs.OtlpValues.{pair_json}
use Rattle.otel_otlp.specs.ScopeRuns.{scope_runs}
use Rattle.otel_otlp.proofs.RunsFit.{RunFits, batch_runs_fit}
use Rattle.otel_shown.specs.Shown.{PlainShownResource, shown_span}
use Rattle.otel_otlp_read.specs.declared.left_out.ItemList.{ItemList}
use Rattle.otel_otlp_read.specs.declared.left_out.ItemList.TheVariants as lists
use Rattle.otel_otlp_read.specs.Kept.{and_kept, kept_by, kept_from, none_kept, of_part}
use Rattle.otel_otlp_read.specs.Members.{listed, own_name}
use Rattle.otel_otlp_read.specs.Reading.{◌>>=◌}
use Rattle.otel_otlp_read.specs.Requests.{are_resources, has, is_misnamed, pair_of, read_request, resource_of}
use Rattle.otel_otlp_read.specs.Requests.{resource_items, resource_spans_in, resources_in, scope_items, scope_spans_in}
use Rattle.otel_otlp_read.specs.Requests.{scopes_in, span_at, whole_batch}
use Rattle.otel_otlp_read.specs.Resources.{pair_in, pairs_in}
use Rattle.otel_otlp_read.proofs.KeptReading.{all_kept, items_back, kept_back}
use Rattle.otel_otlp_read.proofs.SpansRead.{span_back}
use Rattle.otel_otlp_read.proofs.ValuesRead.{listed-items_of, member_back}

-- an attribute of a resource
pair_back : (pair : List ℕ × PlainValue) → PairFits pair → pair_in (pair_json pair) ≡ Ok (pair_of pair ∷ [])
unfolding pair_in own_name
pair_back pair h = ap (λ r. r >>= λ value. Ok ((pair.0, value) ∷ [])) (member_back pair.1 h)

resource_back : (number : ℕ) (resource : PlainResource) → ResourceFits resource
    → pairs_in number (resource_json resource) ≡ Ok (all_kept (map pair_of (entries resource.attributes)))
unfolding pairs_in
resource_back number resource h =
    let pairs = entries resource.attributes in
    ap (λ js. Ok (kept_from pair_in (lists.ResourceAttributes number) 1 js)) (listed-items_of (map pair_json pairs))
    ∙ ap Ok (items_back pair_in (lists.ResourceAttributes number) pair_json (λ pair. pair_of pair ∷ []) PairFits
    pair_back pairs h)
    ∙ ap (λ kept. Ok (all_kept kept)) (flat_map_single pair_of pairs)

-- a span of a run
span_kept : (shown : PlainShownResource) (list : ItemList) (number : ℕ) (span : PlainSpanData) → SpanFits span
    → span_at shown list number (span_json span) ≡ all_kept (shown_span shown span ∷ [])
span_kept shown list number span h =
    ap (λ r. of_part (record { list = list; number = number })
    (r >>= λ read. Ok (record { kept = read.span ∷ []; left_out = read.left_out }))) (span_back span h shown)

-- the spans of a run
run_back : (shown : PlainShownResource) (resource number : ℕ) (run : List PlainSpanData) → AllByRecursion SpanFits run
    → scope_spans_in shown resource number (run_json run) ≡ all_kept (map (shown_span shown) run)
unfolding scope_spans_in scope_items
run_back shown resource number run h =
    let list = lists.Spans resource number in
    ap (kept_by (span_at shown list) 1) (listed-items_of (map span_json run))
    ∙ kept_back (span_at shown list) span_json (λ s. shown_span shown s ∷ []) SpanFits (span_kept shown list) 1 run h
    ∙ ap all_kept (flat_map_single (shown_span shown) run)

-- shown one by one or run by run
shown_runs : (shown : PlainShownResource) (runs : List (List PlainSpanData))
    → flat_map (λ run. map (shown_span shown) run) runs ≡ map (shown_span shown) (spans_in runs)
shown_runs shown [] = refl
shown_runs shown (run ∷ runs) =
    flat_map-cons (λ run. map (shown_span shown) run) run runs
    ∙ ap (λ rest. map (shown_span shown) run ++ rest) (shown_runs shown runs)
    ∙ sym (map-append (shown_span shown) run (spans_in runs))
    ∙ ap (map (shown_span shown)) (sym (flat_map-cons (λ batch. batch) run runs))

runs_back : (shown : PlainShownResource) (resource : ℕ) (runs : List (List PlainSpanData))
    → AllByRecursion (AllByRecursion SpanFits) runs
    → kept_by (scope_spans_in shown resource) 1 (map run_json runs)
    ≡ all_kept (map (shown_span shown) (spans_in runs))
runs_back shown resource runs h =
    kept_back (scope_spans_in shown resource) run_json (map (shown_span shown)) (AllByRecursion SpanFits)
    (run_back shown resource) 1 runs h
    ∙ ap all_kept (shown_runs shown runs)

-- the runs of a batch that fits fit
only_fits : (runs : List (List PlainSpanData)) → AllByRecursion RunFits runs → AllByRecursion (AllByRecursion SpanFits) runs
only_fits [] h = tt
only_fits (run ∷ runs) h = (h.0.fits, only_fits runs h.1)

pub runs_fit : (batch : List PlainSpanData) → AllByRecursion SpanFits batch
    → AllByRecursion (AllByRecursion SpanFits) (scope_runs batch)
runs_fit batch h = only_fits (scope_runs batch) (batch_runs_fit batch h)

-- the spans of a resource
resource_spans_back : (number : ℕ) (resource : PlainResource) (batch : List PlainSpanData) → ResourceFits resource
    → spans_in (scope_runs batch) ≡ batch → AllByRecursion (AllByRecursion SpanFits) (scope_runs batch)
    → resource_spans_in number (resource_spans_json resource batch) ≡ whole_batch resource batch
unfolding resource_spans_in resource_items is_misnamed own_name
resource_spans_back number resource batch fits whole runs_fit =
    let runs = listed (items_of (map run_json (scope_runs batch))) in
    ap (λ r. scopes_in (of_part (record { list = lists.Resources; number = number }) r) number runs)
    (resource_back number resource fits)
    ∙ ap (kept_by (scope_spans_in (resource_of resource) number) 1) (listed-items_of (map run_json (scope_runs batch)))
    ∙ runs_back (resource_of resource) number (scope_runs batch) runs_fit
    ∙ ap (whole_batch resource) whole

pub request_back : (resource : PlainResource) (batch : List PlainSpanData) → ResourceFits resource
    → spans_in (scope_runs batch) ≡ batch → AllByRecursion (AllByRecursion SpanFits) (scope_runs batch)
    → read_request (request resource batch) ≡ Ok (whole_batch resource batch)
unfolding read_request are_resources resources_in has kept_by
request_back resource batch fits whole runs_fit =
    ap (λ k. Ok (and_kept k none_kept)) (resource_spans_back 1 resource batch fits whole runs_fit)
    ∙ ap (λ spans. Ok (all_kept spans)) (append-nil (map (shown_span (resource_of resource)) batch))
