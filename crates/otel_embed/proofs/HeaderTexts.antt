-- The headers that a host hands in, as texts of a carrier.
use Rattle.std.proofs.Common.{◌≡◌, ◌∙◌, ℕ, List, Option, None, sym, subst, codes}
use Rattle.std.specs.Cmp.Lexicographic.{slice_cmp}
use Rattle.std.specs.FinMap as fin
use Rattle.std.specs.Ordering.{nat_cmp}
use Rattle.std.specs.Str.{str_to_ascii_lowercase}
use Rattle.opentelemetry.specs.Carrier.{Texts}
use Rattle.opentelemetry.specs.TextMap.{TextMap, texts_of}
use Rattle.otel_embed.specs.Headers.{AddsHeader, AreHeaders, PlainHeaders, SaysHeader}

-- a carrier without texts has none
pub no_texts : (carrier : TextMap) → carrier ≡ fin.empty → (name : List ℕ) → texts_of carrier name ≡ None
no_texts carrier none name = subst (λ (c : TextMap). texts_of c name ≡ None) (sym none) (fin.get-empty (slice_cmp nat_cmp) (str_to_ascii_lowercase name))

-- three headers are set one after another
pub are_headers : (headers : PlainHeaders) (zero one two three : Texts) → ((name : List ℕ) → zero name ≡ None)
    → AddsHeader (codes "traceparent") headers.traceparent zero one → AddsHeader (codes "tracestate") headers.tracestate one two
    → AddsHeader (codes "baggage") headers.baggage two three → AreHeaders headers three
are_headers headers zero one two three none first second third = record {
  traceparent = subst (λ (said : Option (List ℕ)). SaysHeader headers.traceparent said)
      (sym (third.others (codes "traceparent") (λ e. cc) ∙ second.others (codes "traceparent") (λ e. cc))) (first.says (none (codes "traceparent")));
  tracestate = subst (λ (said : Option (List ℕ)). SaysHeader headers.tracestate said)
      (sym (third.others (codes "tracestate") (λ e. cc)))
      (second.says (first.others (codes "tracestate") (λ e. cc) ∙ none (codes "tracestate")));
  baggage = third.says (second.others (codes "baggage") (λ e. cc) ∙ first.others (codes "baggage") (λ e. cc) ∙ none (codes "baggage"));
}
