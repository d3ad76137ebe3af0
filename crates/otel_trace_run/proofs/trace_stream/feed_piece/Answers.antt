-- The replies were written, or a beginning of their text.
use Rattle.std.proofs.Common.{◌∙◌, ◌++◌, List, ℕ, ap, subst}
use Rattle.otel_trace_lines.specs.ReplyForm.{texts}
use Rattle.std.specs.Io.KnownBytes.{Appends}
use Rattle.opentelemetry.proofs.Clauses.{always_on_err}
use Rattle.otel_export.specs.Streams.{AppendsBeginning}
use Rattle.otel_trace_run.proofs.trace_stream.feed_piece.Goals as goal

pub returns-in_err-write_whole-clause-err : goal.returns-in_err-write_whole-clause-err
returns-in_err-write_whole-clause-err g c =
    let fed = c.feed_in-fed.ensures.writes in
    let text = c.deref.ensures.value ∙ fed.written ∙ ap (λ (t : List ℕ). t ++ texts (g.F.ReplyForm.form c.args.form.now) fed.replies) c.clear.ensures.items in
    always_on_err c.from_residual.result (
      c.feed_in-fed.result,
      record {
        replies = fed.replies;
        feeds = fed.these;
        none_refused = fed.none_refused;
        written = subst (AppendsBeginning _ _) text c.in_err-write_whole.ensures.err;
      },
    )

pub returns-clause-ok : goal.returns-clause-ok
returns-clause-ok g c =
    let fed = c.feed_in-fed.ensures.writes in
    let text = c.deref.ensures.value ∙ fed.written ∙ ap (λ (t : List ℕ). t ++ texts (g.F.ReplyForm.form c.args.form.now) fed.replies) c.clear.ensures.items in
    record {
      replies = fed.replies;
      feeds = fed.these;
      none_refused = fed.none_refused;
      written = subst (Appends _ _) text c.in_ok-write_whole.ensures.ok;
    }
