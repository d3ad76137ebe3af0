use Rattle.std.proofs.Common.{subst, sym}
use Rattle.otel_trace_session.specs.Actions.{plain_call}
use Rattle.otel_trace_session.specs.Calls.{calls_of}
use Rattle.otel_trace_session.specs.ProviderTurns.{CallGives}
use Rattle.otel_trace_session.specs.declared.actions.ProviderCall.{ProviderCall}
use Rattle.otel_trace_session.proofs.carry_out.call_provider.Goals as goal

pub returns-in-Flush-clause-gives : goal.returns-in-Flush-clause-gives
returns-in-Flush-clause-gives g c =
    let calls = calls_of g.P.SpanProcessor g.P.Timed g.P.CountsLeftSpans g.P.KeepsBatches g.S.ShouldSample g.G.GivesIds in
    subst (λ (call : ProviderCall). CallGives calls (plain_call call) c.args.provider.now c.force_flush.result c.force_flush.new.self) (sym c.in-Flush.is) c.force_flush.ensures.flushes

pub returns-in-Run-clause-gives : goal.returns-in-Run-clause-gives
returns-in-Run-clause-gives g c =
    let calls = calls_of g.P.SpanProcessor g.P.Timed g.P.CountsLeftSpans g.P.KeepsBatches g.S.ShouldSample g.G.GivesIds in
    subst (λ (call : ProviderCall). CallGives calls (plain_call call) c.args.provider.now c.run_processors.result c.run_processors.new.self) (sym c.in-Run.is) c.run_processors.ensures.runs
