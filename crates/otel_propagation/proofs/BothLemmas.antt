-- What W3C's two propagators write as a list, in either order, and what they read as one.
use Rattle.std.proofs.Common.{◌≡◌, ◌≢◌, inl, inr, true, false, List, [], ◌∷◌, Ok, Some, IsErr, refl, sym, ap, subst, ◌∙◌}
use Rattle.std.specs.declared.alloc.AllocError.{AllocError}
use Rattle.opentelemetry.specs.Baggage.{PlainBaggage}
use Rattle.opentelemetry.specs.Carrier.{Injection, IsOtherName, Texts}
use Rattle.opentelemetry.specs.Plain.{PlainContext}
use Rattle.opentelemetry.specs.PlainContexts.{current_span_context}
use Rattle.otel_propagation.specs.BaggageHeader.{baggage_field, header_of, Carries, ExtractsBaggage, InjectsBaggage, IsBaggage, IsCarriedUnchanged}
use Rattle.otel_propagation.specs.Composite.{Extraction, ExtractsBoth, InjectsBoth}
use Rattle.otel_propagation.specs.CompositeList.{ExtractsEach, ExtractsNothing, InjectsEach, InjectsNothing}
use Rattle.otel_propagation.specs.PropagatorKinds.{AreBoth, ExtractsByKind, InjectsByKind}
use Rattle.otel_propagation.specs.Traceparent.{header_text, traceparent_field, tracestate_field, CarriesSpan, ExtractsTraceContext, InjectsTraceContext, IsSpanContext, IsTraceparent, IsValid, SaysState, remote_copy}
use Rattle.otel_propagation.specs.declared.propagation.propagator_kinds.PropagatorOf.{PropagatorOf}
use Rattle.otel_propagation.proofs.BaggageRoundTrip.{header_carries}
use Rattle.otel_propagation.proofs.TraceparentLemmas.{injected_carries}

parent_is_other : IsOtherName traceparent_field baggage_field
parent_is_other same = absurd (cc)

state_is_other : IsOtherName tracestate_field baggage_field
state_is_other same = absurd (cc)

baggage_is_no_parent : IsOtherName baggage_field traceparent_field
baggage_is_no_parent same = absurd (cc)

baggage_is_no_state : IsOtherName baggage_field tracestate_field
baggage_is_no_state same = absurd (cc)

-- texts that have the same headers of a span context
pub record SameSpanHeaders (these those : Texts) : Type 0 where
  pub parent : those traceparent_field ≡ these traceparent_field
  pub state : those tracestate_field ≡ these tracestate_field

-- a baggage that is injected leaves the headers of a span context
leaves_span : (cx : PlainContext) (old new : Texts) → InjectsBaggage cx old (Ok tt) new → SameSpanHeaders old new
leaves_span cx old new injects = by_baggage cx.baggage refl
  where
    by_baggage : (es : PlainBaggage) → cx.baggage ≡ es → SameSpanHeaders old new
    by_baggage [] is = let same = (injects.nothing is).1 in record { parent = same traceparent_field; state = same tracestate_field }
    by_baggage (e ∷ es) is =
        let set = injects.set (λ none. absurd (let no : e ∷ es ≡ [] = sym is ∙ none in cc)) in
        record { parent = set.others traceparent_field parent_is_other; state = set.others tracestate_field state_is_other }

not_refused : IsErr {T = Unit {0}} {E = AllocError} (Ok tt) → ⊥
not_refused is = let no : false ≡ true = is in cc

-- the texts between, where a list of two injects
record Wrote (these those : Injection) (cx : PlainContext) (old new : Texts) : Type 0 where
  pub between : Texts
  pub first : these cx old (Ok tt) between
  pub second : those cx between (Ok tt) new

wrote : (these those : Injection) (cx : PlainContext) (old new : Texts) → InjectsBoth these (InjectsBoth those InjectsNothing) cx old (Ok tt) new → Wrote these those cx old new
wrote these those cx old new (inl (between, first, inl (last, second, rest))) = record {
  between = between;
  first = first;
  second = subst (λ (ts : Texts). those cx between (Ok tt) ts) (sym rest.1) second;
}
wrote these those cx old new (inl (between, first, inr (err, second))) = absurd (not_refused err)
wrote these those cx old new (inr (err, first)) = absurd (not_refused err)

-- the context between, where a list of two extracts
record Read (these those : Extraction) (cx : PlainContext) (texts : Texts) (found : PlainContext) : Type 0 where
  pub between : PlainContext
  pub first : these cx texts between
  pub second : those between texts found

both_read : (these those : Extraction) (cx found : PlainContext) (texts : Texts) → ExtractsBoth these (ExtractsBoth those ExtractsNothing) cx texts found → Read these those cx texts found
both_read these those cx found texts (between, first, (last, second, same)) = record {
  between = between;
  first = first;
  second = subst (λ (c : PlainContext). those between texts c) (sym same) second;
}

-- the headers of a span context were written, and texts have them
pub record SpanWritten (cx : PlainContext) (texts : Texts) : Type 0 where
  pub before : Texts
  pub headers : Texts
  pub injects : InjectsTraceContext cx before (Ok tt) headers
  pub same : SameSpanHeaders headers texts

-- the headers of a span context were read, and a context has what was read
pub record SpanRead (texts : Texts) (found : PlainContext) : Type 0 where
  pub receiver : PlainContext
  pub read : PlainContext
  pub extracts : ExtractsTraceContext receiver texts read
  pub is : found.span_context ≡ read.span_context

module _ {C : Type 0} where
  pub span_written : (custom : C → Injection) (list : List (PropagatorOf C)) (cx : PlainContext) (old new : Texts) → AreBoth list
      → InjectsEach (InjectsByKind custom) list cx old (Ok tt) new → SpanWritten cx new
  span_written custom list cx old new (inl is) injects =
      let both = wrote InjectsTraceContext InjectsBaggage cx old new (subst (λ l. InjectsEach (InjectsByKind custom) l cx old (Ok tt) new) is injects) in
      record { before = old; headers = both.between; injects = both.first; same = leaves_span cx both.between new both.second }
  span_written custom list cx old new (inr is) injects =
      let both = wrote InjectsBaggage InjectsTraceContext cx old new (subst (λ l. InjectsEach (InjectsByKind custom) l cx old (Ok tt) new) is injects) in
      record { before = both.between; headers = new; injects = both.second; same = record { parent = refl; state = refl } }

  pub span_read : (custom : C → Extraction) (list : List (PropagatorOf C)) (cx found : PlainContext) (texts : Texts) → AreBoth list
      → ExtractsEach (ExtractsByKind custom) list cx texts found → SpanRead texts found
  span_read custom list cx found texts (inl is) extracts =
      let both = both_read ExtractsTraceContext ExtractsBaggage cx found texts (subst (λ l. ExtractsEach (ExtractsByKind custom) l cx texts found) is extracts) in
      record { receiver = cx; read = both.between; extracts = both.first; is = ap (λ (c : PlainContext). c.span_context) both.second }
  span_read custom list cx found texts (inr is) extracts =
      let both = both_read ExtractsBaggage ExtractsTraceContext cx found texts (subst (λ l. ExtractsEach (ExtractsByKind custom) l cx texts found) is extracts) in
      record { receiver = both.between; read = found; extracts = both.second; is = refl }

  -- the header of a baggage is written too
  baggage_written : (custom : C → Injection) (list : List (PropagatorOf C)) (cx : PlainContext) (old new : Texts) → AreBoth list
      → InjectsEach (InjectsByKind custom) list cx old (Ok tt) new → IsValid (current_span_context cx) → cx.baggage ≢ [] → new baggage_field ≡ Some (header_of cx.baggage)
  baggage_written custom list cx old new (inl is) injects valid some =
      let both = wrote InjectsTraceContext InjectsBaggage cx old new (subst (λ l. InjectsEach (InjectsByKind custom) l cx old (Ok tt) new) is injects) in
      (both.second.set some).set
  baggage_written custom list cx old new (inr is) injects valid some =
      let both = wrote InjectsBaggage InjectsTraceContext cx old new (subst (λ l. InjectsEach (InjectsByKind custom) l cx old (Ok tt) new) is injects) in
      (both.second.set valid).others baggage_field baggage_is_no_parent baggage_is_no_state ∙ (both.first.set some).set

-- what reads the one texts reads the others
pub same_extraction : (these those : Texts) (cx found : PlainContext) → SameSpanHeaders these those → ExtractsTraceContext cx those found → ExtractsTraceContext cx these found
same_extraction these those cx found same extracts = record {
  read = λ c is.
      let (state, says, found_is) = extracts.read c (subst (λ t. IsTraceparent (header_text t) c) (sym same.parent) is) in
      (state, subst (λ t. SaysState t state) same.state says, found_is);
  as_it_was = λ none. extracts.as_it_was (λ c is. none c (subst (λ t. IsTraceparent (header_text t) c) same.parent is));
}

-- texts that have the headers that were written carry the span context
written_carries : (cx : PlainContext) (texts : Texts) → IsSpanContext (current_span_context cx) → IsValid (current_span_context cx) → SpanWritten cx texts
    → CarriesSpan texts (current_span_context cx)
written_carries cx texts fits valid written receiver found extracts =
    injected_carries cx written.before written.headers fits valid written.injects receiver found
    (same_extraction written.headers texts receiver found written.same extracts)

baggage_is : (es : PlainBaggage) (texts : Texts) (cx found : PlainContext) → Carries texts es → ExtractsBaggage cx texts found → found ≡ record cx { baggage = es }
baggage_is es texts cx found carries extracts =
    extracts ∙ ap (λ (b : PlainBaggage). record cx { baggage = b }) (sym (ap (λ (c : PlainContext). c.baggage) extracts) ∙ carries cx found extracts)

module _ {C : Type 0} (injects_custom : C → Injection) (extracts_custom : C → Extraction) (writing reading : List (PropagatorOf C)) (cx receiver found : PlainContext) (old new : Texts) where
  -- a list carries the span context
  pub list_carries_span : AreBoth writing → AreBoth reading → IsSpanContext (current_span_context cx) → IsValid (current_span_context cx)
      → InjectsEach (InjectsByKind injects_custom) writing cx old (Ok tt) new → ExtractsEach (ExtractsByKind extracts_custom) reading receiver new found
      → found.span_context ≡ Some (remote_copy (current_span_context cx))
  list_carries_span writes reads fits valid injects extracts =
      let read = span_read extracts_custom reading receiver found new reads extracts in
      read.is ∙ ap (λ (c : PlainContext). c.span_context)
      (written_carries cx new fits valid (span_written injects_custom writing cx old new writes injects) read.receiver read.read read.extracts)

  -- and, beside it, the baggage
  pub list_carries_both : AreBoth writing → AreBoth reading → IsSpanContext (current_span_context cx) → IsValid (current_span_context cx)
      → IsBaggage cx.baggage → IsCarriedUnchanged cx.baggage
      → InjectsEach (InjectsByKind injects_custom) writing cx old (Ok tt) new → ExtractsEach (ExtractsByKind extracts_custom) reading receiver new found
      → found ≡ record receiver { span_context = Some (remote_copy (current_span_context cx)); baggage = cx.baggage }
  list_carries_both writes reads fits valid is_baggage unchanged injects extracts =
      reads_both reads
    where
      span : CarriesSpan new (current_span_context cx)
      span = written_carries cx new fits valid (span_written injects_custom writing cx old new writes injects)

      baggage : Carries new cx.baggage
      baggage = header_carries cx.baggage new is_baggage unchanged (baggage_written injects_custom writing cx old new writes injects valid unchanged.some)

      reads_both : AreBoth reading → found ≡ record receiver { span_context = Some (remote_copy (current_span_context cx)); baggage = cx.baggage }
      reads_both (inl is) =
          let both = both_read ExtractsTraceContext ExtractsBaggage receiver found new (subst (λ l. ExtractsEach (ExtractsByKind extracts_custom) l receiver new found) is extracts) in
          baggage_is cx.baggage new both.between found baggage both.second
          ∙ ap (λ (c : PlainContext). record c { baggage = cx.baggage }) (span receiver both.between both.first)
      reads_both (inr is) =
          let both = both_read ExtractsBaggage ExtractsTraceContext receiver found new (subst (λ l. ExtractsEach (ExtractsByKind extracts_custom) l receiver new found) is extracts) in
          span both.between found both.second
          ∙ ap (λ (c : PlainContext). record c { span_context = Some (remote_copy (current_span_context cx)) }) (baggage_is cx.baggage new receiver both.between baggage both.first)
