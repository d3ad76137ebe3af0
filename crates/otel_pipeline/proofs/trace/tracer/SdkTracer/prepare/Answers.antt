use Rattle.opentelemetry.specs.PlainContexts.{current_span_context}
use Rattle.std.proofs.Common.{◌≡◌, ◌≢◌, ◌||◌, [], false, rules, subst, sym, true}
use Rattle.opentelemetry.proofs.Clauses.{fails_on_err, if_ok_map}
use Rattle.otel_sampling.specs.Sampling.{PlainSamplingResult}
use Rattle.otel_sampling.specs.declared.trace.sampler.SamplingDecision.TheVariants as decisions
use Rattle.otel_pipeline.specs.StartRequest.{StartRequest, start_as, start_question, start_request, start_span_context}
use Rattle.otel_pipeline.specs.SpanHistory.{SpanStart, recording, not_recording}
use Rattle.otel_pipeline.specs.Starting.{Prepares}
use Rattle.otel_pipeline.proofs.Starting.{prepared_dropped, prepared_recording, prepares_none, prepares_open, taken}
use Rattle.otel_pipeline.proofs.trace.tracer.SdkTracer.prepare.Goals as goal

pub returns-then-starts_nothing-clause-ok : goal.returns-then-starts_nothing-clause-ok
returns-then-starts_nothing-clause-ok g c =
    let request : StartRequest = start_request c.args.self.now c.args.builder c.args.cx.now c.args.now.0 in
    prepares_none g.S.ShouldSample g.G.GivesIds c.args.provider.now request c.not_recording.result (search rules) (search rules)

pub returns-in-Drop-clause-ok : goal.returns-in-Drop-clause-ok
returns-in-Drop-clause-ok g c =
    let request : StartRequest = start_request c.args.self.now c.args.builder c.args.cx.now c.args.now.0 in
    let answer : PlainSamplingResult = c.in_ok-decision.field-0 in
    let drawn = c.draw_ids-trace_id.new.self in
    let asked : answer ≡ g.S.ShouldSample.answer drawn.sampler (start_question c.args.cx.now c.draw_ids-trace_id.result.0 c.args.builder) = search rules in
    let drops : answer.decision ≡ decisions.Drop = search rules in
    let span_is : c.not_recording-in-Drop.result ≡ not_recording (start_span_context (current_span_context c.args.cx.now) c.draw_ids-trace_id.result.0 c.draw_ids-trace_id.result.1 answer) c.args.provider.now.span_limits = search rules in
    prepares_open g.S.ShouldSample g.G.GivesIds c.args.provider.now drawn request
    c.draw_ids-trace_id.result.0 c.draw_ids-trace_id.result.1 answer c.not_recording-in-Drop.result (search rules) c.draw_ids-trace_id.ensures.draws c.draw_ids-trace_id.ensures.rest asked
    (prepared_dropped answer.decision (start_as request c.args.provider.now.span_limits c.draw_ids-trace_id.result.0 c.draw_ids-trace_id.result.1 answer) c.not_recording-in-Drop.result drops span_is)

pub returns-clause-ok : goal.returns-clause-ok
returns-clause-ok g c =
    let request : StartRequest = start_request c.args.self.now c.args.builder c.args.cx.now c.args.now.0 in
    let answer : PlainSamplingResult = c.in_ok-decision.field-0 in
    let drawn = c.draw_ids-trace_id.new.self in
    let start : SpanStart = start_as request c.args.provider.now.span_limits c.draw_ids-trace_id.result.0 c.draw_ids-trace_id.result.1 answer in
    let asked : answer ≡ g.S.ShouldSample.answer drawn.sampler (start_question c.args.cx.now c.draw_ids-trace_id.result.0 c.args.builder) = search rules in
    let kept : answer.decision ≢ decisions.Drop = search rules in
    let same : c.take_room.new.self ≡ drawn = c.take_room.ensures.same in
    let is_open : (c.args.provider.now.is_shut || c.args.cx.now.telemetry_suppressed) ≡ false = search rules in
    if_ok_map c.begin.result (λ span is.
    let span_is : span ≡ recording start [] = search rules in
    subst (λ provider. Prepares g.S.ShouldSample g.G.GivesIds c.args.provider.now request span provider) (sym same)
    (prepares_open g.S.ShouldSample g.G.GivesIds c.args.provider.now drawn request c.draw_ids-trace_id.result.0
    c.draw_ids-trace_id.result.1 answer span is_open c.draw_ids-trace_id.ensures.draws c.draw_ids-trace_id.ensures.rest asked
    (prepared_recording answer.decision start span kept span_is))) c.begin.ensures

pub returns-in_err-context-clause-free : goal.returns-in_err-context-clause-free
returns-in_err-context-clause-free g c =
    let nothing : (c.args.provider.now.is_shut || c.args.cx.now.telemetry_suppressed) ≡ true = search rules in
    λ h. absurd (fails_on_err c.in_err-context.ensures.free (taken _ _ _ nothing h))
