use Rattle.std.proofs.Common.{inl, inr, refl, ap, sym, ◌∙◌}
use Rattle.opentelemetry.specs.Hex.{hex_text}
use Rattle.otel_propagators.proofs.B3Lemmas.{no_digits, zeros_say_none}
use Rattle.otel_propagators.proofs.b3.read.read_trace_id.Goals as goal
use Rattle.otel_propagators.proofs.b3.read.read_trace_id.Goals.{in-Some, in-None+in_ok-number-in-None}

pub returns-in_err-number-in-None : goal.returns-in_err-number-in-None
returns-in_err-number-in-None c =
    rw c.from_residual.ensures (λ id. no_digits c.args.text.now id (λ long. let no = c.in-None.ensures.only.1 long in absurd cc) (λ short. let no = c.in_err-number-in-None.ensures.only.1 short in absurd cc))

pub returns-then-number-eq0 : goal.returns-then-number-eq0
returns-then-number-eq0 c = λ id is. elim c.match-number_from_hex.branch [
  | in-Some w ↦ zeros_say_none 32 c.args.text.now id (inl refl) (w.in-Some.ensures.value.1 ∙ ap (hex_text 32) (sym w.number-is ∙ c.if-number-eq0.true)) is
  | in-None+in_ok-number-in-None w ↦ zeros_say_none 16 c.args.text.now id (inr refl) (w.in_ok-number-in-None.ensures.value.1 ∙ ap (hex_text 16) (sym w.number-is ∙ c.if-number-eq0.true)) is
]
