use Rattle.std.proofs.Common.{◌∙◌, string_bytes, sym}
use Rattle.opentelemetry.specs.PlainContexts.{root_cx}
use Rattle.otel_trace_session.specs.Calls.{calls_of}
use Rattle.otel_trace_session.specs.SpanTurns.{start_in}
use Rattle.otel_trace_session.proofs.TurnLemmas.{child_absent, child_result}
use Rattle.otel_trace_session.proofs.open_spans.OpenSpans.start_child.Goals as goal

pub returns-in_default-clause-ok : goal.returns-in_default-clause-ok
returns-in_default-clause-ok g c =
    let calls = calls_of g.P.SpanProcessor g.P.Timed g.P.CountsLeftSpans g.P.KeepsBatches g.S.ShouldSample g.G.GivesIds in
    child_absent calls c.args.provider.now c.args.self.now (start_in c.args.tracer.now root_cx (string_bytes c.args.span) c.args.builder c.args.now.0) c.args.parent.now (sym c.in_default.is ∙ c.in_ok-cx.ensures)

pub returns-clause-ok : goal.returns-clause-ok
returns-clause-ok g c =
    let calls = calls_of g.P.SpanProcessor g.P.Timed g.P.CountsLeftSpans g.P.KeepsBatches g.S.ShouldSample g.G.GivesIds in
    child_result calls c.start_in.result c.args.provider.now c.start_in.new.provider c.args.self.now c.start_in.new.self (start_in c.args.tracer.now root_cx (string_bytes c.args.span) c.args.builder c.args.now.0) c.args.parent.now c.in-Some.cx (sym c.in-Some.is ∙ c.in_ok-cx.ensures) c.start_in.ensures.ok
