use Rattle.std.proofs.Common.{rules, [], ◌∷◌, ◌++◌, refl, sym, ◌∙◌, append-nil, inr}
use Rattle.std.proofs.lemmas.Result.{err_from_is_err_and}
use Rattle.otel_trace_lines.specs.PlainReply.{PlainReply}
use Rattle.otel_trace_session.specs.Calls.{calls_of}
use Rattle.otel_trace_session.specs.Fed.{WhyUnwritten, feed_error}
use Rattle.otel_trace_session.specs.Shown.{session_batches}
use Rattle.otel_trace_session.specs.declared.session.FeedError.TheVariants as feeds
use Rattle.otel_trace_session.proofs.FeedLemmas.{none_refused_more, written_in, written_more, written_same}
use Rattle.otel_trace_session.proofs.RunLemmas.{ran_nothing, ran_all, ran_more, ran_stopped, stops_feed}
use Rattle.otel_trace_session.proofs.session.Session.run_and_write.Goals as goal

pub loop-command-init : goal.loop-command-init
loop-command-init g c =
    let calls = calls_of g.P.SpanProcessor g.P.Timed g.P.CountsLeftSpans g.P.KeepsBatches g.S.ShouldSample g.G.GivesIds in
    (refl, record { replies = []; written = sym (append-nil _); none_refused = tt; these = ran_nothing calls c.args.self.now c.args.commands.items c.from_vec-queue.result.items c.from_vec-queue.ensures.items })

pub returns-in_err-answer-clause-err : goal.returns-in_err-answer-clause-err
returns-in_err-answer-clause-err g c =
    let calls = calls_of g.P.SpanProcessor g.P.Timed g.P.CountsLeftSpans g.P.KeepsBatches g.S.ShouldSample g.G.GivesIds in
    let i = c.loop-command.invariant.1 in
    let error = c.in_err-answer.field-0.0 in
    let p = err_from_is_err_and c.from_residual.result c.from_residual.ensures.1 in
    rw (p.1, p.2) (record {
      replies = i.replies;
      written = i.written;
      none_refused = i.none_refused;
      these = ran_stopped calls (WhyUnwritten calls (feed_error error)) c.args.self.now c.loop-command.self c.answer.new.self c.args.commands.items c.loop-command.queue.items c.pop_front.new.self.items i.replies c.in-Some.command c.in-Some.ensures.items i.these
          (record {
            why = stops_feed calls error c.loop-command.self c.in-Some.command c.answer.new.self c.in_err-answer.ensures.err;
            rest = c.answer.ensures.rest;
            keeps_batches = c.answer.ensures.keeps;
          });
    })

pub returns-then-counts_refusals-clause-err : goal.returns-then-counts_refusals-clause-err
returns-then-counts_refusals-clause-err g c =
    let calls = calls_of g.P.SpanProcessor g.P.Timed g.P.CountsLeftSpans g.P.KeepsBatches g.S.ShouldSample g.G.GivesIds in
    let i = c.loop-command.invariant.1 in record {
      replies = i.replies;
      written = i.written;
      none_refused = i.none_refused;
      these = ran_stopped calls (WhyUnwritten calls feeds.Refused) c.args.self.now c.loop-command.self c.answer.new.self c.args.commands.items c.loop-command.queue.items c.pop_front.new.self.items i.replies c.in-Some.command c.in-Some.ensures.items i.these
          (record {
            why = (c.in_ok-answer.answer, c.in_ok-answer.ensures.ok, sym c.counts_refusals.ensures ∙ c.if-counts_refusals.true);
            rest = c.answer.ensures.rest;
            keeps_batches = c.answer.ensures.keeps;
          });
    }

pub returns-in_err-write_answer-clause-err : goal.returns-in_err-write_answer-clause-err
returns-in_err-write_answer-clause-err g c =
    let calls = calls_of g.P.SpanProcessor g.P.Timed g.P.CountsLeftSpans g.P.KeepsBatches g.S.ShouldSample g.G.GivesIds in
    let i = c.loop-command.invariant.1 in
    let p = err_from_is_err_and c.from_residual-in_err-write_answer.result c.from_residual-in_err-write_answer.ensures.1 in
    rw (p.1, p.2) (record {
      replies = i.replies;
      written = written_same (g.F.ReplyForm.form c.args.form.now) i.replies c.args.output.now.items c.loop-command.output.items c.write_answer.new.output.items i.written c.in_err-write_answer.ensures.err;
      none_refused = i.none_refused;
      these = ran_stopped calls (WhyUnwritten calls feeds.Memory) c.args.self.now c.loop-command.self c.answer.new.self c.args.commands.items c.loop-command.queue.items c.pop_front.new.self.items i.replies c.in-Some.command c.in-Some.ensures.items i.these
          (record {
            why = inr (c.in_ok-answer.answer, c.in_ok-answer.ensures.ok, sym c.counts_refusals.ensures ∙ c.if-counts_refusals.false);
            rest = c.answer.ensures.rest;
            keeps_batches = c.answer.ensures.keeps;
          });
    })

pub loop-command-preserved : goal.loop-command-preserved
loop-command-preserved g c =
    let calls = calls_of g.P.SpanProcessor g.P.Timed g.P.CountsLeftSpans g.P.KeepsBatches g.S.ShouldSample g.G.GivesIds in
    let i = c.loop-command.invariant.1 in
    let same = c.loop-command.invariant.0 in
    let form = g.F.ReplyForm.form c.args.form.now in
    let before = c.loop-command.output.items in
    let now = c.write_answer.new.output.items in
    let answer = c.in_ok-answer.answer in
    let reply : PlainReply = record { exported = session_batches g.P.KeepsBatches c.answer.new.self; answer = answer } in
    let wrote = written_in form _ reply before now same c.in_ok-write_answer.ensures.ok in (
      c.write_answer.ensures.form ∙ same,
      record {
        replies = i.replies ++ reply ∷ [];
        written = written_more form i.replies reply c.args.output.now.items before now i.written wrote;
        none_refused = none_refused_more i.replies reply i.none_refused (sym c.counts_refusals.ensures ∙ c.if-counts_refusals.false);
        these = ran_more calls c.args.self.now c.loop-command.self c.answer.new.self c.take_shown.new.self c.args.commands.items c.loop-command.queue.items c.pop_front.new.self.items i.replies c.in-Some.command answer
            c.in-Some.ensures.items i.these c.in_ok-answer.ensures.ok c.answer.ensures.rest (record { takes = c.take_shown.ensures.takes; rest = c.take_shown.ensures.rest });
      },
    )

pub returns-clause-ok : goal.returns-clause-ok
returns-clause-ok g c =
    let calls = calls_of g.P.SpanProcessor g.P.Timed g.P.CountsLeftSpans g.P.KeepsBatches g.S.ShouldSample g.G.GivesIds in
    let i = c.loop-command.invariant.1 in
    record { replies = i.replies; written = i.written; none_refused = i.none_refused; these = ran_all calls c.args.self.now c.loop-command.self c.args.commands.items c.loop-command.queue.items i.replies (search rules) i.these }
