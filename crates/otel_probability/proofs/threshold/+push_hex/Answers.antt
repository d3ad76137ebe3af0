use Rattle.std.proofs.Common.{◌++◌, ◌∷◌, [], ◌∙◌, ◌-◌, ◌/◌, arith, sym, ap, append-nil}
use Rattle.std.specs.Prelude.{string_bytes}
use Rattle.opentelemetry.specs.Hex.{hex_text}
use Rattle.otel_probability.proofs.Digits.{hex_text_last, hex_text_none, hex_digit_ascii}
use Rattle.otel_probability.proofs.Growing.{grows_by_last}
use Rattle.otel_probability.proofs.threshold.+push_hex.Goals as goal

pub returns-then-count-eq0 : goal.returns-then-count-eq0
returns-then-count-eq0 t c =
    let none = hex_text_none c.args.count c.args.number c.if-count-eq0.true in
    sym (append-nil (string_bytes c.args.text.now)) ∙ ap (λ d. string_bytes c.args.text.now ++ d) (sym none)

pub returns : goal.returns
returns t c =
    let last = c.push.ensures.ascii (hex_digit_ascii _ _ c.digit.ensures) ∙ ap (λ d. d ∷ []) c.digit.ensures in
    grows_by_last c.push.result _ _ (string_bytes c.args.text.now) _ _ (hex_text c.args.count c.args.number) c.push.ensures.bytes c.in_ok-push_hex.ensures
    (hex_text_last c.args.count c.args.number (omega arith) ∙ ap (λ d. hex_text (c.args.count - 1) (c.args.number / 16) ++ d) (sym last))
