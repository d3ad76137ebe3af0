use Rattle.std.proofs.Common.{arith, refl, List, length, get_or, ℕ, ◌<◌, ◌∙◌, sym, ap, ◌++◌, ◌∷◌, []}
use Rattle.std.proofs.lemmas.List.{take_more}
use Rattle.std.proofs.lemmas.List.Elements.{All-nil, All-more}
use Rattle.opentelemetry.specs.Hex.{hex_text, IsHexDigit}
use Rattle.opentelemetry.proofs.HexRead.{hex_room, hex_fits_more, hex_text_push}
use Rattle.opentelemetry.proofs.trace_context.number_from_hex.Goals as goal

pub loop-digit-init : goal.loop-digit-init
unfolding hex_text
loop-digit-init c = record { fits = omega arith; read = refl; digits = All-nil IsHexDigit }

pub overflow_mul-number : goal.overflow_mul-number
overflow_mul-number c = omega (arith, hex_room c.loop-digit.digit-index c.args.count c.loop-digit.number c.loop-digit.invariant.fits)

pub overflow_add-number : goal.overflow_add-number
overflow_add-number c = omega (arith, c.in-Some.ensures.value.0, hex_room c.loop-digit.digit-index c.args.count c.loop-digit.number c.loop-digit.invariant.fits)

pub loop-digit-preserved : goal.loop-digit-preserved
loop-digit-preserved c =
    let digits : List ℕ = c.as_bytes-digits.result.now in
    let i : ℕ = c.loop-digit.digit-index in
    let inside : i < length digits = omega arith in
    let value = c.in-Some.ensures.value in
    record {
      fits = hex_fits_more i c.loop-digit.number c.in-Some.value c.loop-digit.invariant.fits value.0;
      read = take_more digits i 0 inside ∙ ap (λ t. t ++ get_or digits i 0 ∷ []) c.loop-digit.invariant.read ∙ ap (λ b. hex_text i c.loop-digit.number ++ b ∷ []) value.1
          ∙ sym (hex_text_push i c.loop-digit.number c.in-Some.value value.0);
      digits = All-more IsHexDigit digits i 0 inside c.loop-digit.invariant.digits (c.in-Some.ensures.only.0 refl);
    }
