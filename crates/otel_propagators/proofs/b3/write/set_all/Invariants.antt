use Rattle.opentelemetry.specs.Carrier.{Texts}
use Rattle.otel_propagators.specs.B3Headers.{plain_headers, SetsInTurn, SetsSome}
use Rattle.otel_propagators.proofs.b3.write.set_all.Given as goal

abbrev pub invariant-loop-field : goal.invariant-loop-field
invariant-loop-field g l =
    let texts = g.I.Injector.texts in
    ((final : Texts) → SetsInTurn (texts l.injector) (plain_headers l.field-iterator.rest.items) final → SetsInTurn (texts l.fn.injector) (plain_headers l.fn.headers.items) final) ×
    ((final : Texts) → SetsSome (texts l.injector) (plain_headers l.field-iterator.rest.items) final → SetsSome (texts l.fn.injector) (plain_headers l.fn.headers.items) final)
