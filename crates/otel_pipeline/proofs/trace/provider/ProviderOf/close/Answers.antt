use Rattle.std.proofs.Common.{sym, subst}
use Rattle.opentelemetry.proofs.Clauses.{on_false_map}
use Rattle.otel_pipeline.specs.Provider.{ShutsDown}
use Rattle.otel_pipeline.proofs.trace.provider.ProviderOf.close.Goals as goal

pub returns-clause-open : goal.returns-clause-open
returns-clause-open g c =
    let after = c.shutdown-answer.new.self in
    on_false_map {P = ShutsDown g.P.SpanProcessor c.args.self 5_000_000_000 c.shutdown-answer.result after} c.args.self.is_shut
    (λ h. (after, subst (λ answer. ShutsDown g.P.SpanProcessor c.args.self 5_000_000_000 answer after) (sym c.report-2.ensures.answer) h, c.report-2.ensures.left)) c.shutdown-answer.ensures.first
