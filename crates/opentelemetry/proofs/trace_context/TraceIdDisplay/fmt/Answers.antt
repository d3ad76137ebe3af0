use Rattle.std.proofs.Common.{ℕ, Some, ◌/◌, ◌-◌, ◌^◌, ◌<◌, ◌∙◌, ◌≡◌, subst, ap, arith}
use Rattle.std.proofs.lemmas.Nat.{and_le_r}
use Rattle.std.specs.Prelude.{bit_and}
use Rattle.std.specs.Fmt.{DisplaysOnOk, option_append, styled_digits_output}
use Rattle.opentelemetry.specs.Hex.{hex_text}
use Rattle.opentelemetry.proofs.HexText.{shown_hex, hex_sixteen, hex_text-wide}
use Rattle.opentelemetry.proofs.trace_context.TraceIdDisplay.fmt.Goals as goal

pub returns-clause-writes : goal.returns-clause-writes
returns-clause-writes g c =
    let n : ℕ = c.self.inside.0 in
    let low : bit_and n (2 ^ 64 - 1) < 2 ^ 64 = omega (arith, and_le_r n (2 ^ 64 - 1)) in
    let first : styled_digits_output c.in_radix.result c.laid_out.result ≡ Some (hex_text 16 (n / 2 ^ 64)) =
    shown_hex c.in_radix.result c.laid_out.result 16 (n / 2 ^ 64) c.in_radix.ensures c.laid_out.ensures ∙ ap Some (hex_sixteen (n / 2 ^ 64) (omega arith)) in
    let second : styled_digits_output c.in_radix-2.result c.laid_out-2.result ≡ Some (hex_text 16 (bit_and n (2 ^ 64 - 1))) =
    shown_hex c.in_radix-2.result c.laid_out-2.result 16 (bit_and n (2 ^ 64 - 1)) c.in_radix-2.ensures c.laid_out-2.ensures ∙ ap Some (hex_sixteen (bit_and n (2 ^ 64 - 1)) low) in
    subst (λ o. DisplaysOnOk g.W.Write.write_str_gives c.args.f.now c.write.result o c.write.new.self)
    (ap (λ o. option_append o (styled_digits_output c.in_radix-2.result c.laid_out-2.result)) first ∙ ap (λ o. option_append (Some (hex_text 16 (n / 2 ^ 64))) o) second
    ∙ ap Some (hex_text-wide n) ∙ ap (λ m. Some (hex_text 32 m)) c.self.view_is)
    c.write.ensures.writes
