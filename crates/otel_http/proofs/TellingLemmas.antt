-- What is told to the span that is current leaves it current, but for edits.
use Rattle.std.proofs.Common.{◌≡◌, Bool, true, false, List, [], ◌∷◌, Option, Some, None, Result, Ok, Err, MatchBool, OnErr, OnOk, inl, inr, refl, sym, subst}
use Rattle.std.specs.Option.{option_map}
use Rattle.std.specs.declared.alloc.AllocError.{AllocError}
use Rattle.otel_pipeline.specs.SpanHistory.{Edit, PlainSpan, edited}
use Rattle.otel_pipeline.proofs.SpanLaws.{edited_again}
use Rattle.otel_scope.specs.Currents.{records_here}
use Rattle.otel_scope.specs.declared.current.Current.{Current}
use Rattle.otel_scope.specs.declared.holds_spans.HoldsSpans.{Ghosts}
use Rattle.otel_http.specs.Telling.{SpanStays, StaysHere, TellsEach, TellsHere, TellsOne}

pub unedited : (span : Option PlainSpan) → SpanStays span span
unedited None = refl
unedited (Some span) = (span, refl, ([], refl))

pub stays_through : (old between new : Option PlainSpan) → SpanStays old between → SpanStays between new
    → SpanStays old new
stays_through None between new first second = subst (λ (b : Option PlainSpan). SpanStays b new) first second
stays_through (Some span) between new first second =
    let later : SpanStays (Some first.0) new = subst (λ (b : Option PlainSpan). SpanStays b new) first.1 second in
    (later.0, later.1, edited_again span first.0 later.0 first.2 later.2)

edit_stays : (edit : Edit) (span : Option PlainSpan) → SpanStays span (option_map (edited edit) span)
edit_stays edit None = refl
edit_stays edit (Some span) = (edited edit span, refl, (edit ∷ [], refl))

module _ {S : Type 0} (scopes : Ghosts S) where
  pub same_stays : (old new : S) → new ≡ old → StaysHere scopes old new
  same_stays old new same =
      subst (λ (s : S). StaysHere scopes old s) (sym same) (unedited (scopes.current old).span)

  one_stays : (edit : Edit) (old new : S) → TellsOne scopes edit old new → StaysHere scopes old new
  one_stays edit old new told = subst (λ (here : Current). SpanStays (scopes.current old).span here.span) (sym told.is)
      (edit_stays edit (scopes.current old).span)

  pub each_stays : (edits : List Edit) (old : S) (answer : Result (Unit {0}) AllocError) (new : S)
      → TellsEach scopes edits old answer new → StaysHere scopes old new
  each_stays [] old answer new told = same_stays old new told.1
  each_stays (edit ∷ edits) old answer new (inl refused) = same_stays old new refused.1
  each_stays (edit ∷ edits) old answer new (inr told) =
      stays_through (scopes.current old).span (scopes.current told.0).span (scopes.current new).span
      (one_stays edit old told.0 told.1) (each_stays edits told.0 answer new told.2)

  pub here_stays : (edits : List Edit) (old : S) (answer : Result (Unit {0}) AllocError) (new : S)
      → TellsHere scopes edits old answer new → StaysHere scopes old new
  here_stays edits old answer new = by (records_here (scopes.current old))
    where
      by : (records : Bool) → MatchBool records (TellsEach scopes edits old answer new) ((answer ≡ Ok tt) × (new ≡ old))
          → StaysHere scopes old new
      by true told = each_stays edits old answer new told
      by false told = same_stays old new told.1

  -- one edit and then another
  pub tells_two : (first second : Edit) (old told new : S) (answer : Result (Unit {0}) AllocError)
      → TellsOne scopes first old told → OnOk answer (TellsOne scopes second told new) → OnErr answer (new ≡ told)
      → TellsEach scopes (first ∷ second ∷ []) old answer new
  tells_two first second old told new (Ok done) one other same = inr (told, one, inr (new, other, (refl, refl)))
  tells_two first second old told new (Err error) one other same = inr (told, one, inl (refl, same))
