-- One token, by the kind of the float.
use Rattle.std.proofs.Common.{◌≡◌, Bool, cond, codes, [], ◌∷◌, ap, sym, ◌∙◌}
use Rattle.json.proofs.Printed.Floats.{IsNumber-plain}
use Rattle.json.specs.Json.{Json}
use Rattle.json.specs.Json as json
use Rattle.json.specs.Token.{Token}
use Rattle.json.specs.Tree.{json_tokens}
use Rattle.otel_otlp.proofs.Adding.{as_tokens}
use Rattle.otel_otlp.proofs.Floats.{finite_is, infinity_is, nan_is}
use Rattle.otel_otlp.proofs.tokens.RequestWriter.float.Goals as goal

pub number-requires : goal.number-requires
number-requires c =
    rw c.as_str.ensures.text
    (IsNumber-plain _ (c.new.ensures.number (sym c.is_finite.ensures.value ∙ c.if-is_finite.true)))

pub returns-then-is_nan : goal.returns-then-is_nan
returns-then-is_nan c =
    let is = nan_is c.args.number (sym c.is_nan.ensures.value ∙ c.if-is_nan.true) in
    as_tokens (ap json_tokens (sym is)) c.string.ensures

pub returns-then-is_finite : goal.returns-then-is_finite
returns-then-is_finite c =
    let text = c.as_str.ensures.text ∙ c.new.ensures.text in
    let is = finite_is c.args.number (sym c.is_finite.ensures.value ∙ c.if-is_finite.true) in
    as_tokens (ap (λ t. Token.number t ∷ []) text ∙ ap json_tokens (sym is)) c.number.ensures

-- the word of an infinity
word : (negative told : Bool) (j : Json) → negative ≡ told
    → j ≡ json.string (cond negative (codes "-Infinity") (codes "Infinity")) → json.string (cond told (codes "-Infinity") (codes "Infinity")) ≡ j
word negative told j e is = ap (λ b. json.string (cond b (codes "-Infinity") (codes "Infinity"))) (sym e) ∙ sym is

pub returns-then-is_sign_negative : goal.returns-then-is_sign_negative
returns-then-is_sign_negative c =
    let is =
    infinity_is c.args.number (sym c.is_nan.ensures.value ∙ c.if-is_nan.false)
    (sym c.is_finite.ensures.value ∙ c.if-is_finite.false) in
    as_tokens (ap json_tokens (word _ _ _ (sym c.is_sign_negative.ensures ∙ c.if-is_sign_negative.true) is))
    c.string-then-is_sign_negative.ensures

pub returns-else-is_sign_negative : goal.returns-else-is_sign_negative
returns-else-is_sign_negative c =
    let is =
    infinity_is c.args.number (sym c.is_nan.ensures.value ∙ c.if-is_nan.false)
    (sym c.is_finite.ensures.value ∙ c.if-is_finite.false) in
    as_tokens (ap json_tokens (word _ _ _ (sym c.is_sign_negative.ensures ∙ c.if-is_sign_negative.false) is))
    c.string-else-is_sign_negative.ensures
