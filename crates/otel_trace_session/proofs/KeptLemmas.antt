-- The batches that the first processor of a session keeps over a turn, and how many it loses.
use Rattle.std.proofs.Common.{◌≡◌, ℕ, List, Option, Some, None, false, IsFalse, ◌||◌, ap, rules}
use Rattle.opentelemetry.specs.Plain.{PlainScope}
use Rattle.opentelemetry.specs.PlainContexts.{root_cx}
use Rattle.opentelemetry.specs.PlainSpanBuilder.{PlainSpanBuilder}
use Rattle.otel_pipeline.specs.ProcessorKeeps.{OnlyAppends}
use Rattle.otel_pipeline.specs.Provider.{shut_answer}
use Rattle.otel_pipeline.specs.SpanHistory.{SpanHistory, begun, over, span_of}
use Rattle.otel_trace_lines.specs.declared.reply.Answer.{Answer}
use Rattle.otel_trace_lines.specs.declared.reply.Answer.TheVariants as answers
use Rattle.otel_trace_session.specs.Actions.{PlainAction, PlainCall, PlainOrigin, at_root, under, from_header, call_flush, call_run, call_shutdown}
use Rattle.otel_trace_session.specs.Actions.{start_span, edit_span, inject_span, end_span, call_provider, link_span, forget_span, ends_span, may_lose}
use Rattle.otel_trace_session.specs.Calls.{Calls}
use Rattle.otel_trace_session.specs.Headers.{child_cx}
use Rattle.otel_trace_session.specs.OpenSpans.{Histories}
use Rattle.otel_trace_session.specs.SpanTurns.{ChildTurn, EndTurn, InjectTurn, Start, StartsAfter, StartsFrom, request_of, start_in}
use Rattle.otel_trace_session.specs.Turn.{AsksNobody, Course, Turn}
use Rattle.otel_trace_session.specs.ProviderTurns.{AsksProvider, CallGives}
use Rattle.otel_trace_session.specs.Turns.{TakesAction}
use Rattle.otel_pipeline.proofs.FirstKeeps.{AddsToFirst, StoresNothing, stored_adds, stores_nothing, started_stores, delivery_grows, flush_grows, run_grows, shutdown_grows}

module _ {P S G : Type 0} (calls : Calls P S G) (law : OnlyAppends calls.processor calls.timer calls.keeps.stored) where
  -- batches come only after those that are kept
  abbrev GrowsIn : Turn P S G → Type 0
  GrowsIn turn = AddsToFirst calls.keeps turn.before.provider.processors turn.after.provider.processors

  -- where none was stored, none was taken back
  stays : (turn : Turn P S G) → StoresNothing calls.keeps turn.before.provider.processors turn.after.provider.processors → GrowsIn turn
  stays turn = stored_adds calls.keeps turn.before.provider.processors turn.after.provider.processors

  -- a turn that asked nobody
  nobody_stores : (said : Answer) (histories : Histories) (turn : Turn P S G) → AsksNobody said histories turn → StoresNothing calls.keeps turn.before.provider.processors turn.after.provider.processors
  nobody_stores said histories turn h = stores_nothing calls.keeps turn.before.provider.processors turn.after.provider.processors (ap (λ (c : Course P S G). c.provider.processors) h.rest)

  starts_store : (found : Option SpanHistory) (asked : Start) (turn : Turn P S G) → StartsAfter calls found asked turn → StoresNothing calls.keeps turn.before.provider.processors turn.after.provider.processors
  starts_store (Some history) asked turn h = nobody_stores answers.SpanExists turn.before.histories turn h
  starts_store None asked turn h = started_stores calls law (turn.before.provider.is_shut || asked.cx.telemetry_suppressed) turn.before.provider turn.after.provider (request_of asked) h.history h.starts

  child_stores : (found : Option SpanHistory) (asked : Start) (turn : Turn P S G) → ChildTurn calls asked found turn → StoresNothing calls.keeps turn.before.provider.processors turn.after.provider.processors
  child_stores None asked turn h = nobody_stores answers.NoSuchSpan turn.before.histories turn h
  child_stores (Some parent) asked turn h = starts_store (turn.before.histories asked.span) (record asked { cx = child_cx (span_of parent).span_context }) turn h

  inject_stores : (span : List ℕ) (turn : Turn P S G) → InjectTurn span turn → StoresNothing calls.keeps turn.before.provider.processors turn.after.provider.processors
  inject_stores span turn h = stores_nothing calls.keeps turn.before.provider.processors turn.after.provider.processors (ap (λ (c : Course P S G). c.provider.processors) h.rest)

  end_grows : (found : Option SpanHistory) (span : List ℕ) (moment : ℕ) (turn : Turn P S G) → EndTurn calls.processor span moment found turn → GrowsIn turn
  end_grows None span moment turn h = stays turn (nobody_stores answers.NoSuchSpan turn.before.histories turn h)
  end_grows (Some (over context limits)) span moment turn h = stays turn (nobody_stores answers.Ignored turn.before.histories turn h)
  end_grows (Some (begun from edits)) span moment turn h = delivery_grows calls law turn.before.provider.is_shut _ turn.before.provider.processors turn.after.provider.processors h.refused h.delivered

  origin_stores : (scope : PlainScope) (origin : PlainOrigin) (span : List ℕ) (builder : PlainSpanBuilder) (moment : ℕ) (turn : Turn P S G) → StartsFrom calls scope origin span builder moment turn → StoresNothing calls.keeps turn.before.provider.processors turn.after.provider.processors
  origin_stores scope at_root span builder moment turn h = starts_store (turn.before.histories span) (start_in scope root_cx span builder moment) turn h
  origin_stores scope (under parent) span builder moment turn h = child_stores (turn.before.histories parent) (start_in scope root_cx span builder moment) turn h
  origin_stores scope (from_header header) span builder moment turn h = starts_store (turn.before.histories span) (start_in scope h.cx span builder moment) turn h.starts

  call_grows : (call : PlainCall) (turn : Turn P S G) → AsksProvider (CallGives calls call) turn → GrowsIn turn
  call_grows call_flush turn h = flush_grows calls law turn.before.provider turn.after.provider h.said h.gives
  call_grows (call_run moment) turn h = run_grows calls law moment turn.before.provider turn.after.provider h.said h.gives
  call_grows call_shutdown turn h = shutdown_grows calls law (shut_answer turn.before.provider.is_disabled turn.before.provider.processors) turn.before.provider.is_shut turn.before.provider turn.after.provider h.said h.gives

  -- over a turn batches come only after those that are kept
  pub turn_grows : (scope : PlainScope) (action : PlainAction) (turn : Turn P S G) → TakesAction calls scope action turn → GrowsIn turn
  turn_grows scope (start_span origin span builder moment) turn h = stays turn (origin_stores scope origin span builder moment turn h)
  turn_grows scope (edit_span span edit) turn h = stays turn (nobody_stores _ _ turn h)
  turn_grows scope (link_span span target) turn h = stays turn (nobody_stores _ _ turn h)
  turn_grows scope (forget_span span) turn h = stays turn (nobody_stores _ _ turn h)
  turn_grows scope (inject_span span) turn h = stays turn (inject_stores span turn h)
  turn_grows scope (end_span span moment) turn h = end_grows (turn.before.histories span) span moment turn h
  turn_grows scope (call_provider call) turn h = call_grows call turn h

  -- and where it is neither an end nor a call of the provider none is stored and none lost
  pub turn_stores_none : (scope : PlainScope) (action : PlainAction) (turn : Turn P S G) → TakesAction calls scope action turn → ends_span action ≡ false → IsFalse (may_lose action)
      → StoresNothing calls.keeps turn.before.provider.processors turn.after.provider.processors
  turn_stores_none scope (start_span origin span builder moment) turn h e _ = origin_stores scope origin span builder moment turn h
  turn_stores_none scope (edit_span span edit) turn h e _ = nobody_stores _ _ turn h
  turn_stores_none scope (link_span span target) turn h e _ = nobody_stores _ _ turn h
  turn_stores_none scope (forget_span span) turn h e _ = nobody_stores _ _ turn h
  turn_stores_none scope (inject_span span) turn h e _ = inject_stores span turn h
  turn_stores_none scope (end_span span moment) turn h e _ = cc
  turn_stores_none scope (call_provider call) turn h e keeps = absurd (search (rules, keeps))
