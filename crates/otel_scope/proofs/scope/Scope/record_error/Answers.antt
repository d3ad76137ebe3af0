use Rattle.std.proofs.Common.{string_bytes, subst}
use Rattle.otel_pipeline.specs.Exceptions.{PlainException, exception_event}
use Rattle.otel_pipeline.specs.SpanHistory.{add_event}
use Rattle.otel_scope.specs.Working.{EditsNow}
use Rattle.otel_scope.proofs.Recording.{records_error}
use Rattle.otel_scope.proofs.scope.Scope.record_error.Goals as goal

pub returns : goal.returns
returns g c = records_error g.Self.HoldsSpans.current g.Self.HoldsSpans.with_current g.Self.HoldsSpans.tells
    (g.R.Display.output c.args.error.now) (string_bytes c.in_ok-message.message) c.in_ok-message.ensures.ok
    c.args.self.now c.record_exception.new.self c.record_exception.result
    (subst (λ (exception : PlainException). EditsNow g.Self.HoldsSpans.current g.Self.HoldsSpans.with_current
    g.Self.HoldsSpans.tells (λ moment. add_event (exception_event exception moment)) c.args.self.now
    c.record_exception.result c.record_exception.new.self) c.new.ensures c.record_exception.ensures)
