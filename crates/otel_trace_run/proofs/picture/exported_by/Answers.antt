-- The replies of the commands, none of which counts a refusal, and of the shutdown.
use Rattle.std.proofs.Common.{rules, tests, ◌≡◌, ◌∙◌, false, sym}
use Rattle.std.specs.List.{list_any}
use Rattle.std.proofs.lemmas.Iterator.{YieldsList-from_slice}
use Rattle.std.proofs.lemmas.Iterator.Search.{any_from_yields_List}
use Rattle.otel_trace_lines.specs.PlainReply.{PlainReply, counts_refusals}
use Rattle.otel_trace_session.specs.Calls.{calls_of}
use Rattle.otel_trace_run.proofs.Drawing.{runs_out}
use Rattle.otel_trace_run.proofs.picture.exported_by.Goals as goal

pub returns-in-Ok-spans_of : goal.returns-in-Ok-spans_of
returns-in-Ok-spans_of g c =
    let calls = calls_of g.P.SpanProcessor g.P.Timed g.P.CountsLeftSpans g.P.KeepsBatches g.S.ShouldSample g.G.GivesIds in
    let first = c.run.new.replies.items in
    let looked : c.any.result ≡ list_any (λ (reply : PlainReply). counts_refusals reply.answer) c.deref.result.now =
    any_from_yields_List (λ (reply : PlainReply). counts_refusals reply.answer) _ _ c.any.result c.any.ensures.ran
    (YieldsList-from_slice c.deref.result.now c.iter.ensures.rest) (λ x b q k. search (rules, tests)) in
    let none : c.any.result ≡ false = c.if-any.false in
    let counted : list_any (λ (reply : PlainReply). counts_refusals reply.answer) first ≡ false =
    rw c.deref.ensures.value at (sym looked ∙ none) in
    runs_out calls c.args.session.now c.run.new.self c.shut_down.new.session c.args.commands.items c.new-replies.result.items
    first c.in_ok-last.last.items c.append.new.self.items c.in-Ok-spans_of.spans.items c.new-replies.ensures.items
    c.in-Ok.ensures.ok counted c.in_ok-last.ensures c.in-Ok-append.ensures.items c.in-Ok-spans_of.ensures
