use Rattle.opentelemetry.proofs.Clauses.{if_ok_map, on_err_map}
use Rattle.otel_embed.specs.Headers.{IsContextOf, plain_headers}
use Rattle.otel_pipeline.specs.Calls.{calls_of}
use Rattle.otel_embed.proofs.Refusing.{refused_after, started_after}
use Rattle.otel_embed.proofs.pipeline_of.PipelineOf.start_from.Goals as goal

pub returns-clause-ok : goal.returns-clause-ok
returns-clause-ok g c =
    let calls = calls_of g.P.SpanProcessor g.P.Timed g.P.CountsLeftSpans g.P.KeepsBatches g.S.ShouldSample g.G.GivesIds in
    if_ok_map c.start_in.result (λ key starts. started_after calls (IsContextOf (plain_headers c.args.headers)) c.args.self.now c.take_gathered-attributes.new.self c.start_in.new.self
    _ c.in_ok-cx.cx _ key c.take_gathered-attributes.ensures.rest c.start_in.ensures.gathered
    c.take_gathered-attributes.ensures.taken c.in_ok-cx.ensures starts) c.start_in.ensures.ok

pub returns-clause-err : goal.returns-clause-err
returns-clause-err g c =
    let calls = calls_of g.P.SpanProcessor g.P.Timed g.P.CountsLeftSpans g.P.KeepsBatches g.S.ShouldSample g.G.GivesIds in
    on_err_map c.start_in.result (refused_after calls c.args.self.now c.take_gathered-attributes.new.self c.start_in.new.self c.take_gathered-attributes.ensures.rest c.start_in.ensures.gathered)
    c.start_in.ensures.err
