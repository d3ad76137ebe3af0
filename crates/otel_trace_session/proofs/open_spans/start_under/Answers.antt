use Rattle.std.proofs.Common.{◌≡◌, ◌∙◌, ◌++◌, sym, ap, refl, rules, Some, string_bytes, inl}
use Rattle.std.specs.BTreeMap.Entry.{map_with_value, entry_value}
use Rattle.opentelemetry.proofs.Clauses.{always_on_err}
use Rattle.otel_pipeline.proofs.Starting.{answers_told, refused_draws}
use Rattle.otel_trace_session.specs.Calls.{calls_of}
use Rattle.otel_trace_session.specs.OpenSpans.{by_name, start_answer}
use Rattle.otel_trace_session.specs.SpanTurns.{request_of, start_in}
use Rattle.otel_trace_session.proofs.HeldLemmas.{absent_before, puts_before, there_before}
use Rattle.otel_trace_session.proofs.NamedLemmas.{named-get, puts_written, may_start_free}
use Rattle.otel_trace_session.proofs.TurnLemmas.{starts_free, starts_taken}
use Rattle.otel_trace_session.proofs.open_spans.start_under.Goals as goal

pub returns-in_err-place-clause-asks : goal.returns-in_err-place-clause-asks
returns-in_err-place-clause-asks g c =
    let calls = calls_of g.P.SpanProcessor g.P.Timed g.P.CountsLeftSpans g.P.KeepsBatches g.S.ShouldSample g.G.GivesIds in
    always_on_err _ (may_start_free calls c.args.provider.now c.args.provider.now c.args.cx.now c.args.builder c.args.now.0 _
    (named-get c.args.spans.now (string_bytes c.args.span) ∙ c.in_err-place.ensures.absent) (inl refl))

pub returns-in_err-or_try_insert_with-in-Err-clause-asks : goal.returns-in_err-or_try_insert_with-in-Err-clause-asks
returns-in_err-or_try_insert_with-in-Err-clause-asks g c =
    let calls = calls_of g.P.SpanProcessor g.P.Timed g.P.CountsLeftSpans g.P.KeepsBatches g.S.ShouldSample g.G.GivesIds in
    always_on_err _ (may_start_free calls c.args.provider.now c.build_with_context.new.provider c.args.cx.now c.args.builder c.args.now.0 _
    (named-get c.args.spans.now (string_bytes c.args.span) ∙ (rw c.in-Vacant.is at c.in_ok-place.ensures.found))
    (refused_draws g.P.SpanProcessor g.S.ShouldSample g.G.GivesIds c.args.provider.now c.build_with_context.new.provider
    (request_of (start_in c.args.tracer.now c.args.cx.now (string_bytes c.args.span) c.args.builder c.args.now.0)) c.in-Err.ensures.answers))

pub returns-in-Ok-clause-ok : goal.returns-in-Ok-clause-ok
returns-in-Ok-clause-ok g c =
    let calls = calls_of g.P.SpanProcessor g.P.Timed g.P.CountsLeftSpans g.P.KeepsBatches g.S.ShouldSample g.G.GivesIds in
    let begun = c.in-Ok.ensures.answers in
    let span = c.insert.result.now in
    let name = string_bytes c.args.span in
    let old = by_name c.args.spans.now.entries in
    let put = puts_written c.args.spans.now (map_with_value c.in_ok-place.field-0 span) _ name span _ (c.insert.ensures.value ∙ begun.1) (search rules) (c.in_ok-place.ensures.update.0 span) in
    λ rest free. starts_free calls c.args.provider.now c.build_with_context.new.provider (old ++ rest) _ (start_in c.args.tracer.now c.args.cx.now name c.args.builder c.args.now.0) c.answer_to_start-answer.result begun.0
    (absent_before old rest name (named-get c.args.spans.now name ∙ (rw c.in-Vacant.is at c.in_ok-place.ensures.found)) ∙ free)
    (puts_before old _ rest name _ put)
    (λ before. record {
      history = begun.0;
      starts = begun.2;
      told = answers_told g.P.SpanProcessor g.S.ShouldSample g.G.GivesIds c.args.provider.now c.build_with_context.new.provider
          (request_of (start_in c.args.tracer.now c.args.cx.now name c.args.builder c.args.now.0)) c.build_with_context.result c.build_with_context.ensures.answers;
      says = c.answer_to_start-answer.ensures ∙ ap start_answer begun.1;
      delivers = refl;
      histories = refl;
    })

pub returns-in-Occupied-clause-ok : goal.returns-in-Occupied-clause-ok
returns-in-Occupied-clause-ok g c =
    let calls = calls_of g.P.SpanProcessor g.P.Timed g.P.CountsLeftSpans g.P.KeepsBatches g.S.ShouldSample g.G.GivesIds in
    let span = c.into_mut-there.result.now in
    let name = string_bytes c.args.span in
    let old = by_name c.args.spans.now.entries in
    let here : entry_value c.in_ok-place.field-0 ≡ Some span = cc in
    let there = named-get c.args.spans.now name ∙ sym c.in_ok-place.ensures.value ∙ here in
    let put = puts_written c.args.spans.now (map_with_value c.in_ok-place.field-0 span) _ name span span refl (search rules) (c.in_ok-place.ensures.update.0 span) in
    λ rest free. starts_taken calls c.args.provider.now (old ++ rest) _ (start_in c.args.tracer.now c.args.cx.now name c.args.builder c.args.now.0) span
    (there_before old rest name span there) (puts_before old _ rest name span put)
