-- Batches that are exported in turn through a filter.
use Rattle.std.proofs.Common.{◌≡◌, ◌≢◌, Bool, List, [], ◌∷◌, ◌++◌, Result, filter, refl, ap, sym, subst, ◌∙◌}
use Rattle.std.specs.List.{AllByRecursion}
use Rattle.std.proofs.lemmas.List.Elements.{filter-append}
use Rattle.otel_export.specs.PlainSpanData.{PlainSpanData, spans_in}
use Rattle.otel_export.specs.Telling.{Tells}
use Rattle.otel_export.specs.declared.error.OTelSdkError.{OTelSdkError}
use Rattle.otel_export.specs.declared.trace.export.SpanExporter.{Ghosts}
use Rattle.otel_export.proofs.Tellings.{tells_append, tells_same}
use Rattle.otel_filter.specs.Filtering.{ExportsAny, ExportsInTurn, ExportsKept, answer_unless_empty, kept_answers}
use Rattle.otel_filter.specs.Filtering.{FilterState, kept_batches, unless_empty}

-- the spans of a batch that has some, in front of others
one_more : (batch : List PlainSpanData) (rest : List (List PlainSpanData))
    → spans_in (unless_empty batch ++ rest) ≡ batch ++ spans_in rest
one_more [] rest = refl
one_more (span ∷ spans) rest = refl

pub kept_spans : (keeps : PlainSpanData → Bool) (batches : List (List PlainSpanData))
    → spans_in (kept_batches keeps batches) ≡ filter keeps (spans_in batches)
kept_spans keeps [] = refl
kept_spans keeps (batch ∷ batches) =
    one_more (filter keeps batch) (kept_batches keeps batches)
    ∙ ap (λ (l : List PlainSpanData). filter keeps batch ++ l) (kept_spans keeps batches)
    ∙ sym (filter-append keeps batch (spans_in batches))

none_more : (batch : List PlainSpanData) (rest : List (List PlainSpanData)) → AllByRecursion (λ b. b ≢ []) rest
    → AllByRecursion (λ b. b ≢ []) (unless_empty batch ++ rest)
none_more [] rest h = h
none_more (span ∷ spans) rest h = (λ e. absurd (cc), h)

pub none_empty : (keeps : PlainSpanData → Bool) (batches : List (List PlainSpanData))
    → AllByRecursion (λ b. b ≢ []) (kept_batches keeps batches)
none_empty keeps [] = tt
none_empty keeps (batch ∷ batches) =
    none_more (filter keeps batch) (kept_batches keeps batches) (none_empty keeps batches)

module _ {E : Type 0} (calls : Ghosts E) where
  -- an export in front of others
  joined : (spans : List PlainSpanData) (answer : Result (Unit {0}) OTelSdkError) (old next new : E)
      (batches : List (List PlainSpanData)) (answers : List (Result (Unit {0}) OTelSdkError))
      → ExportsAny calls old spans answer next → ExportsInTurn calls.export_gives next batches answers new
      → ExportsInTurn calls.export_gives old (unless_empty spans ++ batches)
      (answer_unless_empty spans answer ++ answers) new
  joined [] answer old next new batches answers h rest =
      subst (λ (e : E). ExportsInTurn calls.export_gives e batches answers new) h.1 rest
  joined (span ∷ spans) answer old next new batches answers h rest = (next, h, rest)

  module _ {F : Type 0} (keeps : F → PlainSpanData → Bool) where
    pub exported_in_turn : (batches : List (List PlainSpanData)) (answers : List (Result (Unit {0}) OTelSdkError))
        (old new : FilterState E F) → ExportsInTurn (ExportsKept calls keeps) old batches answers new
        → ExportsInTurn calls.export_gives old.exporter (kept_batches (keeps old.filter) batches)
        (kept_answers (keeps old.filter) batches answers) new.exporter
    exported_in_turn [] [] old new h = ap (λ (x : FilterState E F). x.exporter) h
    exported_in_turn [] (_ ∷ _) old new h = absurd h
    exported_in_turn (_ ∷ _) [] old new h = absurd h
    exported_in_turn (batch ∷ batches) (answer ∷ answers) old new h =
        joined (filter (keeps old.filter) batch) answer old.exporter h.0.exporter new.exporter
        (kept_batches (keeps old.filter) batches) (kept_answers (keeps old.filter) batches answers) h.1.given
        (subst
        (λ (f : F). ExportsInTurn calls.export_gives h.0.exporter (kept_batches (keeps f) batches)
        (kept_answers (keeps f) batches answers) new.exporter) (ap (λ (x : FilterState E F). x.filter) h.1.rest)
        (exported_in_turn batches answers h.0 new h.2))

    pub told_in_turn : (batches : List (List PlainSpanData)) (answers : List (Result (Unit {0}) OTelSdkError))
        (old new : FilterState E F) → ExportsInTurn (ExportsKept calls keeps) old batches answers new
        → Tells (calls.told old.exporter) (kept_batches (keeps old.filter) batches) (calls.told new.exporter)
    told_in_turn [] [] old new h =
        tells_same (calls.told old.exporter) (calls.told new.exporter)
        (ap (λ (x : FilterState E F). calls.told x.exporter) h)
    told_in_turn [] (_ ∷ _) old new h = absurd h
    told_in_turn (_ ∷ _) [] old new h = absurd h
    told_in_turn (batch ∷ batches) (answer ∷ answers) old new h =
        tells_append (calls.told old.exporter) (unless_empty (filter (keeps old.filter) batch))
        (calls.told h.0.exporter) (kept_batches (keeps old.filter) batches) (calls.told new.exporter) h.1.told
        (subst
        (λ (f : F). Tells (calls.told h.0.exporter) (kept_batches (keeps f) batches) (calls.told new.exporter))
        (ap (λ (x : FilterState E F). x.filter) h.1.rest) (told_in_turn batches answers h.0 new h.2))
