-- What a command does is known by its action, and the calls of the parts carry the action out.
use Rattle.std.proofs.Common.{◌≡◌, ◌∙◌, ap, sym, subst, string_bytes, List, [], ◌∷◌, ℕ, inr}
use Rattle.opentelemetry.specs.Plain.{PlainContext}
use Rattle.opentelemetry.specs.PlainContexts.{root_cx}
use Rattle.opentelemetry.proofs.Clauses.{if_ok_map}
use Rattle.otel_pipeline.specs.Exceptions.{exception_event}
use Rattle.otel_pipeline.specs.SpanEdits.{Edit, add_event, plain_edit}
use Rattle.otel_trace_lines.specs.Commands.{plain_command}
use Rattle.otel_trace_lines.specs.declared.reply.Answer.{Answer}
use Rattle.otel_trace_session.specs.Actions.{PlainAction, action_of, at_root, under, from_header, start_span, edit_span, inject_span, end_span, call_provider, link_span, forget_span}
use Rattle.otel_trace_session.specs.Actions.{event_edit, plain_action, plain_call, plain_origin}
use Rattle.otel_trace_session.specs.Calls.{calls_of}
use Rattle.otel_trace_session.specs.OpenSpans.{AnswersInject, Describe, Histories}
use Rattle.otel_trace_session.specs.ProviderTurns.{call_answer}
use Rattle.otel_trace_session.specs.SpanTurns.{StartTurn, start_in}
use Rattle.otel_trace_session.specs.Stops.{RefusesOne}
use Rattle.otel_trace_session.specs.Turn.{TurnsFromAny}
use Rattle.otel_trace_session.specs.Turns.{IsCarriedOut}
use Rattle.otel_trace_session.specs.declared.actions.Origin.{Origin}
use Rattle.otel_trace_session.proofs.NamedLemmas.{on_err_both, refused_start_asks_none}
use Rattle.otel_trace_session.proofs.CarryLemmas.{carries_call, carries_child, carries_edit, carries_end, carries_forget, carries_inject, carries_link, carries_remote, carries_start}
use Rattle.otel_trace_session.proofs.ForgetLemmas.{Forgets}
use Rattle.otel_trace_session.proofs.TurnLemmas.{Childs, Edits, EndsNamed, Links}
use Rattle.otel_trace_session.proofs.carry_out.carry_out.Goals as goal

pub returns-in-Root-clause-ok : goal.returns-in-Root-clause-ok
returns-in-Root-clause-ok g c =
    let calls = calls_of g.P.SpanProcessor g.P.Timed g.P.CountsLeftSpans g.P.KeepsBatches g.S.ShouldSample g.G.GivesIds in
    let span = string_bytes c.in-Start.span in
    let builder = c.in-Start.builder in
    let moment = c.in-Start.moment.0 in
    let does : start_span at_root span builder moment ≡ action_of (plain_command c.args.command) =
    ap (λ (origin : Origin). start_span (plain_origin origin) span builder moment) (sym c.in-Root.is) ∙ ap plain_action (sym c.in-Start.is) ∙ c.action_of.ensures in
    if_ok_map c.start_in.result (λ answer h.
    subst (λ (action : PlainAction). TurnsFromAny (IsCarriedOut calls c.args.tracer.now action) c.args.provider.now c.args.spans.now answer c.start_in.new.provider c.start_in.new.self) does
    (carries_start calls g.met.P.KeepsBatches.appends c.args.tracer.now c.args.provider.now c.start_in.new.provider c.args.spans.now c.start_in.new.self span builder moment answer
    (subst (λ (cx : PlainContext). TurnsFromAny (StartTurn calls (start_in c.args.tracer.now cx span builder moment)) c.args.provider.now c.args.spans.now answer c.start_in.new.provider c.start_in.new.self) c.requires h))) c.start_in.ensures.ok

pub returns-in-Parent-clause-ok : goal.returns-in-Parent-clause-ok
returns-in-Parent-clause-ok g c =
    let calls = calls_of g.P.SpanProcessor g.P.Timed g.P.CountsLeftSpans g.P.KeepsBatches g.S.ShouldSample g.G.GivesIds in
    let span = string_bytes c.in-Start.span in
    let builder = c.in-Start.builder in
    let moment = c.in-Start.moment.0 in
    let parent = string_bytes c.in-Parent.parent in
    let does : start_span (under parent) span builder moment ≡ action_of (plain_command c.args.command) =
    ap (λ (origin : Origin). start_span (plain_origin origin) span builder moment) (sym c.in-Parent.is) ∙ ap plain_action (sym c.in-Start.is) ∙ c.action_of.ensures in
    if_ok_map c.start_child.result (λ answer h.
    subst (λ (action : PlainAction). TurnsFromAny (IsCarriedOut calls c.args.tracer.now action) c.args.provider.now c.args.spans.now answer c.start_child.new.provider c.start_child.new.self) does
    (carries_child calls g.met.P.KeepsBatches.appends c.args.tracer.now c.args.provider.now c.start_child.new.provider c.args.spans.now c.start_child.new.self span parent builder moment answer
    (subst (λ (called : List ℕ). TurnsFromAny (Childs calls (start_in c.args.tracer.now root_cx span builder moment) called) c.args.provider.now c.args.spans.now answer c.start_child.new.provider c.start_child.new.self) c.as_str.ensures.value h))) c.start_child.ensures.ok

pub returns-in_ok-cx-in-Header-clause-ok : goal.returns-in_ok-cx-in-Header-clause-ok
returns-in_ok-cx-in-Header-clause-ok g c =
    let calls = calls_of g.P.SpanProcessor g.P.Timed g.P.CountsLeftSpans g.P.KeepsBatches g.S.ShouldSample g.G.GivesIds in
    let span = string_bytes c.in-Start.span in
    let builder = c.in-Start.builder in
    let moment = c.in-Start.moment.0 in
    let header = string_bytes c.in-Header.header in
    let does : start_span (from_header header) span builder moment ≡ action_of (plain_command c.args.command) =
    ap (λ (origin : Origin). start_span (plain_origin origin) span builder moment) (sym c.in-Header.is) ∙ ap plain_action (sym c.in-Start.is) ∙ c.action_of.ensures in
    if_ok_map c.start_in-in-Header.result (λ answer h.
    subst (λ (action : PlainAction). TurnsFromAny (IsCarriedOut calls c.args.tracer.now action) c.args.provider.now c.args.spans.now answer c.start_in-in-Header.new.provider c.start_in-in-Header.new.self) does
    (carries_remote calls g.met.P.KeepsBatches.appends c.args.tracer.now c.args.provider.now c.start_in-in-Header.new.provider c.args.spans.now c.start_in-in-Header.new.self span header builder moment c.in_ok-cx-in-Header.cx answer
    c.in_ok-cx-in-Header.ensures h)) c.start_in-in-Header.ensures.ok

pub returns-in_ok-cx-in-Header-clause-err : goal.returns-in_ok-cx-in-Header-clause-err
returns-in_ok-cx-in-Header-clause-err g c =
    let calls = calls_of g.P.SpanProcessor g.P.Timed g.P.CountsLeftSpans g.P.KeepsBatches g.S.ShouldSample g.G.GivesIds in
    let span = string_bytes c.in-Start.span in
    let builder = c.in-Start.builder in
    let moment = c.in-Start.moment.0 in
    let header = string_bytes c.in-Header.header in
    let does : start_span (from_header header) span builder moment ≡ action_of (plain_command c.args.command) =
    ap (λ (origin : Origin). start_span (plain_origin origin) span builder moment) (sym c.in-Header.is) ∙ ap plain_action (sym c.in-Start.is) ∙ c.action_of.ensures in
    on_err_both c.start_in-in-Header.result (λ same h.
    subst (λ (action : PlainAction). RefusesOne calls c.args.provider.now c.args.spans.now action c.start_in-in-Header.new.provider c.start_in-in-Header.new.self) does
    (record {
      spans = same;
      asks = inr (c.in_ok-cx-in-Header.cx, c.in_ok-cx-in-Header.ensures, h);
      processors = refused_start_asks_none calls c.args.provider.now c.start_in-in-Header.new.provider _ builder _ _ h;
    })) c.start_in-in-Header.ensures.err c.start_in-in-Header.ensures.asks

pub returns-in-Edit-clause-ok : goal.returns-in-Edit-clause-ok
returns-in-Edit-clause-ok g c =
    let calls = calls_of g.P.SpanProcessor g.P.Timed g.P.CountsLeftSpans g.P.KeepsBatches g.S.ShouldSample g.G.GivesIds in
    let span = string_bytes c.in-Edit.span in
    let edit = plain_edit c.in-Edit.edit in
    let does : edit_span span edit ≡ action_of (plain_command c.args.command) = ap plain_action (sym c.in-Edit.is) ∙ c.action_of.ensures in
    if_ok_map c.edit.result (λ answer h.
    subst (λ (action : PlainAction). TurnsFromAny (IsCarriedOut calls c.args.tracer.now action) c.args.provider.now c.args.spans.now answer c.args.provider.now c.edit.new.self) does
    (carries_edit calls g.met.P.KeepsBatches.appends c.args.tracer.now c.args.provider.now c.args.spans.now c.edit.new.self span edit answer
    (subst (λ (called : List ℕ). Edits c.args.spans.now called edit answer c.edit.new.self) c.as_str-in-Edit.ensures.value h))) c.edit.ensures.ok

pub returns-in_ok-edit-in-EventWithAttribute-clause-ok : goal.returns-in_ok-edit-in-EventWithAttribute-clause-ok
returns-in_ok-edit-in-EventWithAttribute-clause-ok g c =
    let calls = calls_of g.P.SpanProcessor g.P.Timed g.P.CountsLeftSpans g.P.KeepsBatches g.S.ShouldSample g.G.GivesIds in
    let told = c.in-EventWithAttribute in
    let span = string_bytes told.span in
    let edit = event_edit (string_bytes told.name) told.moment.0 (told.attribute ∷ []) in
    let does : edit_span span edit ≡ action_of (plain_command c.args.command) = ap plain_action (sym told.is) ∙ c.action_of.ensures in
    if_ok_map c.edit-in-EventWithAttribute.result (λ answer h.
    subst (λ (action : PlainAction). TurnsFromAny (IsCarriedOut calls c.args.tracer.now action) c.args.provider.now c.args.spans.now answer c.args.provider.now c.edit-in-EventWithAttribute.new.self) does
    (carries_edit calls g.met.P.KeepsBatches.appends c.args.tracer.now c.args.provider.now c.args.spans.now c.edit-in-EventWithAttribute.new.self span edit answer
    (subst (λ (done : Edit). Edits c.args.spans.now span done answer c.edit-in-EventWithAttribute.new.self) c.in_ok-edit-in-EventWithAttribute.ensures
    (subst (λ (called : List ℕ). Edits c.args.spans.now called (plain_edit c.in_ok-edit-in-EventWithAttribute.edit) answer c.edit-in-EventWithAttribute.new.self) c.as_str-in-EventWithAttribute.ensures.value h)))) c.edit-in-EventWithAttribute.ensures.ok

pub returns-in-Exception-clause-ok : goal.returns-in-Exception-clause-ok
returns-in-Exception-clause-ok g c =
    let calls = calls_of g.P.SpanProcessor g.P.Timed g.P.CountsLeftSpans g.P.KeepsBatches g.S.ShouldSample g.G.GivesIds in
    let span = string_bytes c.in-Exception.span in
    let edit = add_event (exception_event c.in-Exception.exception c.in-Exception.moment.0) in
    let does : edit_span span edit ≡ action_of (plain_command c.args.command) = ap plain_action (sym c.in-Exception.is) ∙ c.action_of.ensures in
    if_ok_map c.record.result (λ answer h.
    subst (λ (action : PlainAction). TurnsFromAny (IsCarriedOut calls c.args.tracer.now action) c.args.provider.now c.args.spans.now answer c.args.provider.now c.record.new.self) does
    (carries_edit calls g.met.P.KeepsBatches.appends c.args.tracer.now c.args.provider.now c.args.spans.now c.record.new.self span edit answer
    (subst (λ (called : List ℕ). Edits c.args.spans.now called edit answer c.record.new.self) c.as_str-in-Exception.ensures.value h))) c.record.ensures.ok

pub returns-in-Link-clause-ok : goal.returns-in-Link-clause-ok
returns-in-Link-clause-ok g c =
    let calls = calls_of g.P.SpanProcessor g.P.Timed g.P.CountsLeftSpans g.P.KeepsBatches g.S.ShouldSample g.G.GivesIds in
    let span = string_bytes c.in-Link.span in
    let target = string_bytes c.in-Link.target in
    let does : link_span span target ≡ action_of (plain_command c.args.command) = ap plain_action (sym c.in-Link.is) ∙ c.action_of.ensures in
    if_ok_map c.link.result (λ answer h.
    subst (λ (action : PlainAction). TurnsFromAny (IsCarriedOut calls c.args.tracer.now action) c.args.provider.now c.args.spans.now answer c.args.provider.now c.link.new.self) does
    (carries_link calls g.met.P.KeepsBatches.appends c.args.tracer.now c.args.provider.now c.args.spans.now c.link.new.self span target answer
    (subst (λ (called : List ℕ). Links c.args.spans.now span called answer c.link.new.self) c.as_str-in-Link-2.ensures.value
    (subst (λ (called : List ℕ). Links c.args.spans.now called c.as_str-in-Link-2.result.now answer c.link.new.self) c.as_str-in-Link.ensures.value h)))) c.link.ensures.ok

pub returns-in-Inject-clause-ok : goal.returns-in-Inject-clause-ok
returns-in-Inject-clause-ok g c =
    let calls = calls_of g.P.SpanProcessor g.P.Timed g.P.CountsLeftSpans g.P.KeepsBatches g.S.ShouldSample g.G.GivesIds in
    let span = string_bytes c.in-Inject.span in
    let does : inject_span span ≡ action_of (plain_command c.args.command) = ap plain_action (sym c.in-Inject.is) ∙ c.action_of.ensures in
    if_ok_map c.inject.result (λ answer h.
    subst (λ (action : PlainAction). TurnsFromAny (IsCarriedOut calls c.args.tracer.now action) c.args.provider.now c.args.spans.now answer c.args.provider.now c.args.spans.now) does
    (carries_inject calls g.met.P.KeepsBatches.appends c.args.tracer.now c.args.provider.now c.args.spans.now span answer
    (subst (λ (called : List ℕ). (histories : Histories) → Describe histories c.args.spans.now → AnswersInject (histories called) answer) c.as_str-in-Inject.ensures.value h))) c.inject.ensures

pub returns-in-End-clause-ok : goal.returns-in-End-clause-ok
returns-in-End-clause-ok g c =
    let calls = calls_of g.P.SpanProcessor g.P.Timed g.P.CountsLeftSpans g.P.KeepsBatches g.S.ShouldSample g.G.GivesIds in
    let span = string_bytes c.in-End.span in
    let moment = c.in-End.moment.0 in
    let does : end_span span moment ≡ action_of (plain_command c.args.command) = ap plain_action (sym c.in-End.is) ∙ c.action_of.ensures in
    if_ok_map c.end.result (λ answer h.
    subst (λ (action : PlainAction). TurnsFromAny (IsCarriedOut calls c.args.tracer.now action) c.args.provider.now c.args.spans.now answer c.end.new.provider c.end.new.self) does
    (carries_end calls g.met.P.KeepsBatches.appends c.args.tracer.now c.args.provider.now c.end.new.provider c.args.spans.now c.end.new.self span moment answer
    (subst (λ (called : List ℕ). TurnsFromAny (EndsNamed g.P.SpanProcessor called moment) c.args.provider.now c.args.spans.now answer c.end.new.provider c.end.new.self) c.as_str-in-End.ensures.value h))) c.end.ensures.ok

pub returns-in-Call-clause-ok : goal.returns-in-Call-clause-ok
returns-in-Call-clause-ok g c =
    let calls = calls_of g.P.SpanProcessor g.P.Timed g.P.CountsLeftSpans g.P.KeepsBatches g.S.ShouldSample g.G.GivesIds in
    let call = plain_call c.in-Call.call in
    let does : call_provider call ≡ action_of (plain_command c.args.command) = ap plain_action (sym c.in-Call.is) ∙ c.action_of.ensures in
    subst (λ (answer : Answer). TurnsFromAny (IsCarriedOut calls c.args.tracer.now (action_of (plain_command c.args.command))) c.args.provider.now c.args.spans.now answer c.call_provider.new.provider c.args.spans.now) (sym c.answer_to_call.ensures)
    (subst (λ (action : PlainAction). TurnsFromAny (IsCarriedOut calls c.args.tracer.now action) c.args.provider.now c.args.spans.now (call_answer c.call_provider.result) c.call_provider.new.provider c.args.spans.now) does
    (carries_call calls g.met.P.KeepsBatches.appends c.args.tracer.now call c.args.provider.now c.call_provider.new.provider c.args.spans.now c.call_provider.result c.call_provider.ensures.gives c.call_provider.ensures.told))

pub returns-in-Forget-clause-ok : goal.returns-in-Forget-clause-ok
returns-in-Forget-clause-ok g c =
    let calls = calls_of g.P.SpanProcessor g.P.Timed g.P.CountsLeftSpans g.P.KeepsBatches g.S.ShouldSample g.G.GivesIds in
    let span = string_bytes c.in-Forget.span in
    let does : forget_span span ≡ action_of (plain_command c.args.command) = ap plain_action (sym c.in-Forget.is) ∙ c.action_of.ensures in
    subst (λ (action : PlainAction). TurnsFromAny (IsCarriedOut calls c.args.tracer.now action) c.args.provider.now c.args.spans.now c.forget.result c.args.provider.now c.forget.new.self) does
    (carries_forget calls g.met.P.KeepsBatches.appends c.args.tracer.now c.args.provider.now c.args.spans.now c.forget.new.self span c.forget.result
    (subst (λ (called : List ℕ). Forgets c.args.spans.now called c.forget.result c.forget.new.self) c.as_str-in-Forget.ensures.value c.forget.ensures))
