-- What is read of headers, whatever their form.
use Rattle.std.proofs.Common.{◌≡◌, List, [], ℕ, Option, Some, None, Result, Ok, Err, IsOk, MatchOption, MatchResult, refl, ap}
use Rattle.std.specs.Borrow.{Bor}
use Rattle.std.specs.Option.{option_copied, unwrap_or}
use Rattle.opentelemetry.specs.Headers.{header_text, ExtractsSaid}
use Rattle.opentelemetry.specs.Plain.{PlainContext, PlainSpanContext}

-- a header's text, with the empty one in its place
pub text_or_empty : (header : Option (Bor (List ℕ))) (none : Bor (List ℕ)) → none.now ≡ [] → (unwrap_or header none).now ≡ header_text (option_copied header)
text_or_empty None none is = is
text_or_empty (Some text) none is = refl

-- where headers say a span context and no other, it is extracted
pub extracted : (says : PlainSpanContext → Type 0) (cx : PlainContext) (c : PlainSpanContext) → ((other : PlainSpanContext) → says other → c ≡ other) → says c → ExtractsSaid says cx (record cx { span_context = Some c })
extracted says cx c once said = record {
  read = λ other also. ap (λ (m : PlainSpanContext). record cx { span_context = Some m }) (once other also);
  as_it_was = λ none. absurd (none c said);
}

-- where they say none, nothing is
pub not_extracted : (says : PlainSpanContext → Type 0) (cx : PlainContext) → ((c : PlainSpanContext) → ¬ (says c)) → ExtractsSaid says cx cx
not_extracted says cx none = record {
  read = λ c said. absurd (none c said);
  as_it_was = λ _. refl;
}

-- what is said of a value there may be, said of other things
pub match_weaker : {T P R : Type 0} {Q S : T → Type 0} (o : Option T) → (P → R) → ((t : T) → Q t → S t) → MatchOption o P Q → MatchOption o R S
match_weaker None none some said = none said
match_weaker (Some t) none some said = some t said

-- what fails only for a reason that is not there is well
pub ok_unless : {T E P : Type 0} (Q : T → Type 0) (r : Result T E) → MatchResult r Q (λ _. ¬ P) → P → IsOk r
ok_unless Q (Ok _) clause holds = refl
ok_unless Q (Err _) clause holds = absurd (clause holds)
