-- Attributes without a limit of their values' length.
use Rattle.std.proofs.Common.{◌≡◌, ℕ, false, is_some, Option, Some, None, List, [], ◌∷◌, map, refl, sym, ap}
use Rattle.opentelemetry.specs.Plain.{PlainKeyValue}
use Rattle.otel_sampling.specs.declared.trace.span_limit.SpanLimits.{SpanLimits}
use Rattle.otel_pipeline.specs.ValueLength.{attribute_within, value_under}

unset : (limit : Option ℕ) → is_some limit ≡ false → limit ≡ None
unset None e = refl
unset (Some _) e = cc

one_stays : (limit : Option ℕ) (attribute : PlainKeyValue) → limit ≡ None → attribute ≡ record attribute { value = value_under limit attribute.value }
one_stays limit attribute e = ap (λ (o : Option ℕ). record attribute { value = value_under o attribute.value }) (sym e)

-- they stay as they are
pub unlimited : (limits : SpanLimits) (attributes : List PlainKeyValue) → is_some limits.max_attribute_value_length ≡ false → attributes ≡ map (attribute_within limits) attributes
unlimited limits [] e = refl
unlimited limits (a ∷ more) e =
    let here : a ≡ attribute_within limits a = one_stays limits.max_attribute_value_length a (unset limits.max_attribute_value_length e) in
    let rest : more ≡ map (attribute_within limits) more = unlimited limits more e in
    cc
