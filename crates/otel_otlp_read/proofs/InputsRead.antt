-- The text of a batch, and the lines of batches, are read back.
use Rattle.std.specs.Prelude.{◌&&◌, ◌||◌, is_some, not}
use Rattle.std.proofs.Common.{◌≡◌, ◌+◌, ◌==◌, ℕ, true, false, cond, List, [], ◌∷◌, ◌++◌, map, Some, Ok}
use Rattle.std.proofs.Common.{refl, sym, ap, ◌∙◌, flat_map}
use Rattle.std.proofs.lemmas.Str.{is_utf8-from_IsUtf8}
use Rattle.std.proofs.lemmas.List.{map-append}
use Rattle.std.proofs.lemmas.List.Concat.{flat_map-cons}
use Rattle.std.specs.List.{AllByRecursion, slice_split}
use Rattle.std.specs.Str.{IsUtf8}
use Rattle.json.specs.Json.{Json, document}
use Rattle.json.specs.Print.{print_from}
use Rattle.otel_resource.specs.Resource.{PlainResource}
use Rattle.otel_export.specs.PlainSpanData.{PlainSpanData, spans_in}
use Rattle.otel_otlp.specs.Fits.{SpanFits}
use Rattle.otel_otlp.specs.Otlp.{otlp_line, otlp_lines, otlp_text}
use Rattle.otel_shown.specs.Shown.{PlainShownResource, PlainShownSpan, shown_span}
use Rattle.otel_otlp_read.specs.Inputs.{PlainReadText, and_read, begins_with_json, is_blank, is_json, nothing_read}
use Rattle.otel_otlp_read.specs.Inputs.{of_document, of_line, one_if_none, read_document, read_input, read_lines}
use Rattle.otel_otlp_read.specs.Inputs.{read_part, read_parts, read_unmarked, spanless_in, text_lines}
use Rattle.otel_otlp_read.specs.Cuts.{parts, without_mark}
use Rattle.otel_otlp_read.specs.Kept.{Kept}
use Rattle.otel_otlp_read.specs.Requests.{read_request, resource_of, whole_batch}
use Rattle.otel_otlp_read.proofs.Documents.{read_json}

-- a text that is UTF-8 and JSON
pub document_back : (text : List ℕ) (j : Json) (read : Kept PlainShownSpan) → IsUtf8 text → document text ≡ Some j
    → read_request j ≡ Ok read → read_document text ≡ Ok read
document_back text j read utf8 is e = read_json text j utf8 is ∙ e

pub json_back : (text : List ℕ) (j : Json) → IsUtf8 text → document text ≡ Some j → is_json text ≡ true
json_back text j utf8 is = ap (λ t. t && is_some (document text)) (is_utf8-from_IsUtf8 text utf8) ∙ ap is_some is

-- the text of a batch begins with a brace
not_blank : (resource : PlainResource) (batch : List PlainSpanData) → is_blank (otlp_text resource batch) ≡ false
unfolding print_from
not_blank resource batch = refl

-- what is read of a batch: its spans as they are shown, and nothing is left out
abbrev pub read_of : PlainShownResource → List PlainSpanData → PlainReadText
read_of shown batch = record {
  spans = map (shown_span shown) batch;
  faults = [];
  spanless = one_if_none batch;
}

none_whole : (shown : PlainShownResource) (batch : List PlainSpanData)
    → one_if_none (map (shown_span shown) batch) ≡ one_if_none batch
none_whole shown [] = refl
none_whole shown (span ∷ batch) = refl

whole_document : (line : ℕ) (resource : PlainResource) (batch : List PlainSpanData)
    → of_document line (Ok (whole_batch resource batch)) ≡ read_of (resource_of resource) batch
whole_document line resource batch =
    let shown = map (shown_span (resource_of resource)) batch in
    ap (λ n. record { spans = shown; faults = []; spanless = n }) (none_whole (resource_of resource) batch)

module _ (resource : PlainResource) where
  -- the text of a batch is JSON, and read as its spans
  pub record Reads (batch : List PlainSpanData) : Type 0 where
    pub json : is_json (otlp_text resource batch) ≡ true
    pub spans : read_document (otlp_text resource batch) ≡ Ok (whole_batch resource batch)

  -- each batch is read, where each that fits is
  pub each_reads : (batches : List (List PlainSpanData))
      → ((batch : List PlainSpanData) → AllByRecursion SpanFits batch → IsUtf8 (otlp_text resource batch) → Reads batch)
      → AllByRecursion (AllByRecursion SpanFits) batches
      → AllByRecursion (λ batch. IsUtf8 (otlp_text resource batch)) batches → AllByRecursion Reads batches
  each_reads [] reads h k = tt
  each_reads (batch ∷ batches) reads h k = (reads batch h.0 k.0, each_reads batches reads h.1 k.1)

  -- a line of a batch
  line_back : (number : ℕ) (batch : List PlainSpanData) → Reads batch
      → of_line number (otlp_text resource batch)
      ≡ read_of (resource_of resource) batch
  line_back number batch h =
      ap (λ t. cond t nothing_read (of_document number (read_document (otlp_text resource batch))))
      (not_blank resource batch)
      ∙ ap (of_document number) h.spans
      ∙ whole_document number resource batch

  abbrev pub all_of : List (List PlainSpanData) → PlainReadText
  all_of batches = record {
    spans = map (shown_span (resource_of resource)) (spans_in batches);
    faults = [];
    spanless = spanless_in batches;
  }

  lines_back : (number : ℕ) (batches : List (List PlainSpanData)) → AllByRecursion Reads batches
      → read_lines number (map (otlp_text resource) batches ++ [] ∷ []) ≡ all_of batches
  unfolding read_lines
  lines_back number [] h = refl
  lines_back number (batch ∷ batches) h =
      ap (λ first. and_read first (read_lines (number + 1) (map (otlp_text resource) batches ++ [] ∷ [])))
      (line_back number batch h.0)
      ∙ ap (and_read (read_of (resource_of resource) batch))
      (lines_back (number + 1) batches h.1)
      ∙ ap (λ spans. record { spans = spans; faults = []; spanless = spanless_in (batch ∷ batches) })
      (sym (map-append (shown_span (resource_of resource)) batch (spans_in batches))
      ∙ ap (map (shown_span (resource_of resource))) (sym (flat_map-cons (λ spans. spans) batch batches)))

  begins_back : (batches : List (List PlainSpanData)) → AllByRecursion Reads batches
      → begins_with_json (map (otlp_text resource) batches ++ [] ∷ []) ≡ true
  unfolding begins_with_json
  begins_back [] h = refl
  begins_back (batch ∷ batches) h =
      ap (λ t. cond t (begins_with_json (map (otlp_text resource) batches ++ [] ∷ []))
      (is_json (otlp_text resource batch))) (not_blank resource batch)
      ∙ h.0.json

  -- no mark stands in front of the lines
  begins_with_brace : (batch : List PlainSpanData) (after : List ℕ)
      → without_mark (otlp_line resource batch ++ after) ≡ otlp_line resource batch ++ after
  unfolding print_from
  begins_with_brace batch after = refl

  unmarked_back : (batches : List (List PlainSpanData)) → without_mark (otlp_lines resource batches) ≡ otlp_lines resource batches
  unmarked_back [] = refl
  unmarked_back (batch ∷ batches) =
      ap without_mark (flat_map-cons (otlp_line resource) batch batches)
      ∙ begins_with_brace batch (flat_map (otlp_line resource) batches)
      ∙ sym (flat_map-cons (otlp_line resource) batch batches)

  pub input_back : (batches : List (List PlainSpanData)) → AllByRecursion Reads batches
      → slice_split (λ b. b == 10) (otlp_lines resource batches) ≡ map (otlp_text resource) batches ++ [] ∷ []
      → read_input (otlp_lines resource batches) ≡ all_of batches
  unfolding read_input read_unmarked read_part
  input_back batches h cut =
      let text = otlp_lines resource batches in
      let begins : begins_with_json (text_lines text) ≡ true = ap begins_with_json cut ∙ begins_back batches h in
      ap read_unmarked (unmarked_back batches)
      ∙ ap (λ t. cond (t || is_json text) (read_part 1 text) (read_parts 1 (parts text))) begins
      ∙ ap (λ t. cond (t || not (is_json text)) (read_lines 1 (text_lines text)) (of_document 1 (read_document text))) begins
      ∙ ap (read_lines 1) cut ∙ lines_back 1 batches h
