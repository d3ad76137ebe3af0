use Rattle.std.proofs.Common.{rules, [], ◌∷◌, ◌++◌, List, ap, sym, ◌∙◌, append_assoc, append-nil, inr, refl}
use Rattle.std.proofs.lemmas.Result.{err_from_is_err_and}
use Rattle.otel_export.specs.KeptBatches.{adds_none}
use Rattle.otel_export.specs.PlainSpanData.{PlainSpanData}
use Rattle.otel_trace_lines.specs.PlainReply.{PlainReply}
use Rattle.otel_trace_session.specs.Calls.{calls_of}
use Rattle.otel_trace_session.specs.Shown.{session_batches, session_stored}
use Rattle.otel_trace_session.specs.Stops.{WhyUntold}
use Rattle.otel_trace_session.specs.declared.session.RunError.TheVariants as runs
use Rattle.otel_trace_session.proofs.RunLemmas.{ran_nothing, ran_all, ran_more, ran_stopped, stops_run}
use Rattle.otel_trace_session.proofs.session.Session.run.Goals as goal

pub loop-command-init : goal.loop-command-init
loop-command-init g c =
    let calls = calls_of g.P.SpanProcessor g.P.Timed g.P.CountsLeftSpans g.P.KeepsBatches g.S.ShouldSample g.G.GivesIds in
    ([], sym (append-nil _), ran_nothing calls c.args.self.now c.args.commands.items c.from_vec-queue.result.items c.from_vec-queue.ensures.items)

pub returns-in_err-answer-clause-err : goal.returns-in_err-answer-clause-err
returns-in_err-answer-clause-err g c =
    let calls = calls_of g.P.SpanProcessor g.P.Timed g.P.CountsLeftSpans g.P.KeepsBatches g.S.ShouldSample g.G.GivesIds in
    let i = c.loop-command.invariant in
    let error = c.in_err-answer.field-0.0 in
    let p = err_from_is_err_and c.from_residual-in_err-answer.result c.from_residual-in_err-answer.ensures.1 in
    rw (p.1, p.2) (
      i.0,
      c.reserve.ensures.items ∙ i.1,
      ran_stopped calls (WhyUntold calls error) c.args.self.now c.loop-command.self c.answer.new.self c.args.commands.items c.loop-command.queue.items c.pop_front.new.self.items i.0 c.in-Some.command c.in-Some.ensures.items i.2 (record {
        why = stops_run calls error c.loop-command.self c.in-Some.command c.answer.new.self c.in_err-answer.ensures.err;
        rest = c.answer.ensures.rest;
        keeps_batches = c.answer.ensures.keeps;
      }),
    )

pub returns-in_err-reserve-clause-err : goal.returns-in_err-reserve-clause-err
returns-in_err-reserve-clause-err g c =
    let calls = calls_of g.P.SpanProcessor g.P.Timed g.P.CountsLeftSpans g.P.KeepsBatches g.S.ShouldSample g.G.GivesIds in
    let i = c.loop-command.invariant in
    let kept = session_stored g.P.KeepsBatches c.loop-command.self in
    let p = err_from_is_err_and c.from_residual.result c.from_residual.ensures.1 in
    rw (p.1, p.2) (
      i.0,
      c.reserve.ensures.items ∙ i.1,
      ran_stopped calls (WhyUntold calls runs.Memory) c.args.self.now c.loop-command.self c.loop-command.self c.args.commands.items c.loop-command.queue.items c.pop_front.new.self.items i.0 c.in-Some.command c.in-Some.ensures.items i.2 (record {
        why = inr refl;
        rest = refl;
        keeps_batches = adds_none kept kept refl;
      }),
    )

pub loop-command-preserved : goal.loop-command-preserved
loop-command-preserved g c =
    let calls = calls_of g.P.SpanProcessor g.P.Timed g.P.CountsLeftSpans g.P.KeepsBatches g.S.ShouldSample g.G.GivesIds in
    let i = c.loop-command.invariant in
    let reply : PlainReply = record { exported = session_batches g.P.KeepsBatches c.answer.new.self; answer = c.in_ok-answer.answer } in (
      i.0 ++ reply ∷ [],
      c.push_reserved.ensures.items
          ∙ ap (λ (exported : List (List PlainSpanData)). c.reserve.new.self.items ++ (record { exported = exported; answer = c.in_ok-answer.answer }) ∷ []) c.take_shown-exported.ensures.taken
          ∙ ap (λ (l : List PlainReply). l ++ reply ∷ []) (c.reserve.ensures.items ∙ i.1) ∙ append_assoc c.args.replies.now.items i.0 (reply ∷ []),
      ran_more calls c.args.self.now c.loop-command.self c.answer.new.self c.take_shown-exported.new.self c.args.commands.items c.loop-command.queue.items c.pop_front.new.self.items i.0 c.in-Some.command c.in_ok-answer.answer
          c.in-Some.ensures.items i.2 c.in_ok-answer.ensures.ok c.answer.ensures.rest (record { takes = c.take_shown-exported.ensures.takes; rest = c.take_shown-exported.ensures.rest }),
    )

pub returns-clause-ok : goal.returns-clause-ok
returns-clause-ok g c =
    let calls = calls_of g.P.SpanProcessor g.P.Timed g.P.CountsLeftSpans g.P.KeepsBatches g.S.ShouldSample g.G.GivesIds in
    let i = c.loop-command.invariant in
    (i.0, i.1, ran_all calls c.args.self.now c.loop-command.self c.args.commands.items c.loop-command.queue.items i.0 (search rules) i.2)
