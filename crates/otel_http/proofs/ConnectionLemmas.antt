-- The answered requests of a connection, one after the other.
use Rattle.std.proofs.Common.{◌≡◌, ◌<◌, ◌≤◌, ◌+◌, ◌-◌, ◌^◌, ℕ, List, [], ◌∷◌, Option, Some, None, All, inl, inr, refl, sym, ap, ◌∙◌, arith, map, min, IsSome, Bool, is_some, nat_le, subst, ◌⊎◌}
use Rattle.std.proofs.Math.Nat.{le-min, min-eq_left, min-le_right}
use Rattle.std.proofs.lemmas.List.Elements.{All-cons, All-nil}
use Rattle.http_server.specs.Exchange.{Call, Chain}
use Rattle.opentelemetry.specs.Carrier.{Injection, Texts}
use Rattle.opentelemetry.specs.Plain.{PlainContext}
use Rattle.otel_sampling.specs.declared.trace.sampler.ShouldSample as sampling
use Rattle.otel_sampling.specs.declared.trace.id_generator.GivesIds as drawing
use Rattle.otel_pipeline.specs.SpanHistory.{PlainSpan}
use Rattle.otel_pipeline.specs.declared.trace.span_processor.SpanProcessor.{Ghosts}
use Rattle.otel_scope.specs.Currents.{settled}
use Rattle.otel_scope.specs.Tracings.{Ends, LeavesFor}
use Rattle.otel_scope.specs.declared.current.Current.{Current}
use Rattle.otel_scope.specs.declared.holds_spans.HoldsSpans as holding
use Rattle.otel_scope.specs.declared.tracing.Tracing.{Tracing}
use Rattle.http.specs.Request.{head_of}
use Rattle.otel_http.specs.Headers.{header_texts}
use Rattle.otel_http.specs.declared.traced.TheConstants.{FIRST_FAILURE}
use Rattle.otel_http.specs.Connections.{Answered, AnswersAll, AnswersCalls, AnswersOne}
use Rattle.otel_http.specs.Serving.{Serving, ServesIn, TracedState, TracesRequest, counted_unless}
use Rattle.otel_http.proofs.ServingLemmas.{StartsHere, enters_either, scoped, some_left, started_for, stays_said}

module _ {V P S G C T : Type 0} (calls : Ghosts P) (sampler : sampling.Ghosts S) (ids : drawing.Ghosts G)
    (tells : C → ℕ → C → Type 0) (injects : T → Injection)
    (extracts : T → PlainContext → Texts → PlainContext → Type 0) (serves : Serving V (Tracing P S G C T)) where
  -- what answers requests, at such a scope
  abbrev State : Type 0
  State = TracedState V (Tracing P S G C T)

  abbrev scopes : holding.Ghosts (Tracing P S G C T)
  scopes = scoped calls sampler ids tells injects extracts

  -- a call, its span, if there was memory for one, and what it did
  record OneAnswered (here : Current) (old : State) (call : Call) (new : State) : Type 0 where
    span : Option PlainSpan
    answers : AnswersOne calls sampler ids tells scopes serves here old call span new
    stays : new.scope.current ≡ here

  -- a count where a span is current, and where none is
  counts_some : (found : Option PlainSpan) (span : PlainSpan) (count : ℕ) → found ≡ Some span
      → counted_unless (is_some found) count ≡ count
  counts_some None span count is = absurd (cc)
  counts_some (Some own) span count is = refl

  counts_none : (found : Option PlainSpan) (count : ℕ) → found ≡ None
      → counted_unless (is_some found) count ≡ min (count + 1) (2 ^ 64 - 1)
  counts_none None count is = refl
  counts_none (Some own) count is = absurd (cc)

  -- the end of a span that is current
  ends_some : (found : Option PlainSpan) (span : PlainSpan) (said : Tracing P S G C T) (outer : Current) (failed : Bool)
      (done : Tracing P S G C T) → found ≡ Some span → LeavesFor calls tells found said outer failed done
      → Ends calls tells said (settled failed span) outer done
  ends_some found span said outer failed done is leaves =
      subst (λ (s : Option PlainSpan). LeavesFor calls tells s said outer failed done) is leaves

  -- a request that was served in a context
  one_in : (here : Current) (old : State) (call : Call) (new : State) (cx : PlainContext) → old.scope.current ≡ here
      → extracts old.scope.propagator here.cx (header_texts (head_of call.0).headers) cx
      → extracts old.scope.propagator old.scope.current.cx (header_texts (head_of call.0).headers) cx
      → ServesIn scopes serves cx old call.0 call.1 new → OneAnswered here old call new
  one_in here old call new cx is read read' served =
      by (enters_either calls sampler ids tells served.asked served.placed served.inside.entered served.inside.starts)
    where
      counts : new.untraced ≡ counted_unless (is_some served.inside.entered.current.span) old.untraced
      counts = ap (λ (t : State). t.untraced) served.rest ∙ ap (λ (t : State). t.untraced) served.inside.rest

      by : StartsHere calls sampler ids tells served.asked served.placed served.inside.entered
          ⊎ (served.inside.entered.current.span ≡ None) → OneAnswered here old call new
      by (inl started) =
          let failed = nat_le FIRST_FAILURE call.1.status in
          let first : served.inside.entered.current.span ≡ Some started.starts.span =
          ap (λ (scope : Tracing P S G C T). scope.current.span) started.starts.rest in
          let left = some_left served.inside.entered.current.span served.inside.said.current.span started.starts.span
          (stays_said calls sampler ids tells injects extracts serves cx old new call.0 call.1 served) first in
          record {
            span = Some (settled failed left.0);
            answers = record {
              cx = cx;
              is_read = read;
              served = served;
              begun = started.begun;
              is_asked = started.is_asked;
              starts = started.starts;
              ends = ends_some served.inside.said.current.span left.0 served.inside.said served.placed.current failed
                  served.done.scope left.1 served.inside.ends;
              is_server = started_for calls sampler ids tells injects extracts serves cx old new call.0 call.1 served
                  started left.0 failed left.2;
              untraced = counts ∙ counts_some served.inside.entered.current.span started.starts.span old.untraced first;
            };
            stays = served.back.is ∙ is;
          }
      by (inr none) = record {
        span = None;
        answers = record {
          traces = inl (cx, read', served);
          untraced = counts ∙ counts_none served.inside.entered.current.span old.untraced none;
        };
        stays = served.back.is ∙ is;
      }

  one_answered : (here : Current) (old : State) (call : Call) (new : State) → old.scope.current ≡ here
      → TracesRequest scopes serves old call.0 call.1 new → OneAnswered here old call new
  one_answered here old call new is (inl (cx, read, served)) =
      one_in here old call new cx is
      (subst (λ (h : Current). extracts old.scope.propagator h.cx (header_texts (head_of call.0).headers) cx) is read)
      read served
  one_answered here old call new is (inr inside) =
      let none : inside.entered.current.span ≡ None = inside.starts.beside.0 in
      record {
        span = None;
        answers = record {
          traces = inr inside;
          untraced = ap (λ (t : State). t.untraced) inside.rest
              ∙ counts_none inside.entered.current.span old.untraced none;
        };
        stays = inside.restores ∙ is;
      }

  -- a count that goes up by one at most
  abbrev Grows : State → State → Type 0
  Grows old new = old.untraced ≤ 2 ^ 64 - 1 → (old.untraced ≤ new.untraced) × (new.untraced ≤ 2 ^ 64 - 1)

  grows_one : (here : Current) (old : State) (call : Call) (span : Option PlainSpan) (new : State)
      → AnswersOne calls sampler ids tells scopes serves here old call span new → Grows old new
  grows_one here old call None new h most =
      let least : old.untraced ≤ min (old.untraced + 1) (2 ^ 64 - 1) = le-min (omega arith) most in
      let greatest : min (old.untraced + 1) (2 ^ 64 - 1) ≤ 2 ^ 64 - 1 = min-le_right (old.untraced + 1) (2 ^ 64 - 1) in
      rw (h.untraced) (least, greatest)
  grows_one here old call (Some span) new h most = (omega (arith, h.untraced), omega (arith, h.untraced, most))

  grows_all : (here : Current) (old : State) (answered : List Answered) (new : State)
      → AnswersAll calls sampler ids tells scopes serves here old answered new → Grows old new
  grows_all here old [] new h most = rw h (omega arith, most)
  grows_all here old (a ∷ more) new (next, one, stays, rest) most =
      let first = grows_one here old a.call a.span next one most in
      let later = grows_all here next more new rest first.1 in
      (omega (arith, first.0, later.0), later.1)

  -- where the count stays there was a span
  one_traced : (here : Current) (old : State) (call : Call) (span : Option PlainSpan) (new : State)
      → AnswersOne calls sampler ids tells scopes serves here old call span new → old.untraced < 2 ^ 64 - 1
      → new.untraced ≤ old.untraced → IsSome span × (new.untraced ≡ old.untraced)
  one_traced here old call None new h most stays =
      let one : min (old.untraced + 1) (2 ^ 64 - 1) ≡ old.untraced + 1 = min-eq_left (omega (arith, most)) in
      absurd (omega (arith, one, h.untraced, stays))
  one_traced here old call (Some span) new h most stays = (refl, h.untraced)

  -- where it stays over all, each has its span
  all_traced : (here : Current) (old : State) (answered : List Answered) (new : State)
      → AnswersAll calls sampler ids tells scopes serves here old answered new → old.untraced < 2 ^ 64 - 1
      → new.untraced ≡ old.untraced → All (λ a. IsSome a.span) answered
  all_traced here old [] new h most same = All-nil (λ a. IsSome a.span)
  all_traced here old (a ∷ more) new (next, one, stays, rest) most same =
      let first = grows_one here old a.call a.span next one (omega (arith, most)) in
      let later = grows_all here next more new rest first.1 in
      let has = one_traced here old a.call a.span next one most (omega (arith, later.0, same)) in
      All-cons (λ a. IsSome a.span) a more has.0
      (all_traced here next more new rest (omega (arith, most, has.1)) (same ∙ sym has.1))

  answers_each : (here : Current) (old new : State) (answered : List Call) → old.scope.current ≡ here
      → Chain (TracesRequest scopes serves) old answered new
      → (found : List Answered) × (map (λ a. a.call) found ≡ answered)
      × AnswersAll calls sampler ids tells scopes serves here old found new
  answers_each here old new [] is h = ([], refl, h)
  answers_each here old new (call ∷ more) is (next, first, rest) =
      let one = one_answered here old call next is first in
      let later = answers_each here next new more one.stays rest in (
        record { call = call; span = one.span } ∷ later.0,
        ap (λ (cs : List Call). call ∷ cs) later.1,
        (next, one.answers, one.stays, later.2),
      )

  pub answers_calls : (old new : State) (answered : List Call)
      → Chain (TracesRequest scopes serves) old answered new
      → AnswersCalls calls sampler ids tells scopes serves old answered new
  answers_calls old new answered h =
      let found = answers_each old.scope.current old new answered refl h in
      record {
        answered = found.0;
        are_calls = found.1;
        in_order = found.2;
        traced = all_traced old.scope.current old found.0 new found.2;
      }
