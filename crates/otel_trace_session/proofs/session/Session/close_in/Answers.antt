use Rattle.std.proofs.Common.{◌≡◌, ◌==◌, ◌++◌, ◌∙◌, ap, not, ℕ, List, OnOk, subst}
use Rattle.std.proofs.lemmas.Bool.{OnTrue_at}
use Rattle.otel_export.specs.PlainSpanData.{PlainSpanData}
use Rattle.otel_trace_session.specs.Calls.{batches_of_first, calls_of, losses_of_first}
use Rattle.otel_trace_session.specs.Closing.{ClosesAs}
use Rattle.otel_trace_session.specs.declared.session.ClosedSession.{ClosedSession}
use Rattle.otel_trace_session.specs.Turns.{SessionState}
use Rattle.otel_trace_session.proofs.CloseLemmas.{writes_rest}
use Rattle.otel_trace_session.proofs.session.Session.close_in.Goals as goal

pub returns-clause-closes : goal.returns-clause-closes
returns-clause-closes g c =
    let calls = calls_of g.P.SpanProcessor g.P.Timed g.P.CountsLeftSpans g.P.KeepsBatches g.S.ShouldSample g.G.GivesIds in
    let inside = c.self.inside in
    let session : SessionState g.row.P.Denot g.row.S.Denot g.row.G.Denot = record { provider = inside.provider; scope = inside.tracer; spans = inside.spans; lost_before = inside.lost_before } in
    let form = g.F.ReplyForm.form c.args.form.now in
    let before = c.args.output.now.items in
    let now = c.write_rest-written.new.output.items in
    let losses = c.lost_by_first.ensures ∙ ap (λ (processors : List g.row.P.Denot). losses_of_first g.P.KeepsBatches processors) c.processors.ensures in
    let lost = ap (λ (n : ℕ). not (n == inside.lost_before)) losses in
    let batches = c.kept_by_first.ensures ∙ ap (λ (processors : List g.row.P.Denot). batches_of_first g.P.KeepsBatches processors) c.processors-2.ensures in
    let text = subst (λ (kept : List (List PlainSpanData)).
    OnOk c.write_rest-written.result (now ≡ before ++ form.rest kept)) batches c.write_rest-written.ensures.ok in
    let answer = c.close_answer.result in
    let closed : ClosedSession = record { answer = answer; left_open = c.close.result.left_open; dropped = c.dropped_count-dropped.result } in
    subst (λ (s : SessionState g.row.P.Denot g.row.S.Denot g.row.G.Denot). ClosesAs calls form s before closed now) c.self.view_is
    (record {
      closes = record {
        provider = c.shut_down-shutdown.new.provider;
        shutdown = c.shut_down-shutdown.result;
        shuts = c.shut_down-shutdown.ensures.shuts;
        writes = writes_rest calls form session c.shut_down-shutdown.new.provider c.shut_down-shutdown.result c.write_rest-written.result _ answer before now
            lost text c.write_rest-written.ensures.err
            (λ none. c.write_rest-written.ensures.free (ap form.rest batches ∙ none)) c.close_answer.ensures;
      };
      left_open = (OnTrue_at c.shut_down-shutdown.ensures.is_shut c.close.ensures.shut).1.left_open;
      dropped = c.dropped_count-dropped.ensures;
    })
