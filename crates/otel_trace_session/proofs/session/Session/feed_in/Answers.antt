use Rattle.std.proofs.Common.{ℕ, Option, [], append-nil, subst, sym, refl, inl}
use Rattle.std.proofs.lemmas.Result.{err_from_is_err_and}
use Rattle.otel_trace_lines.specs.Commands.{plain_commands}
use Rattle.otel_trace_lines.specs.Lines.{SpellsNothing, TextSpells}
use Rattle.otel_trace_lines.specs.declared.dialect.Dialect.{Dialect}
use Rattle.opentelemetry.proofs.Clauses.{fails_on_err}
use Rattle.otel_trace_session.specs.Calls.{calls_of}
use Rattle.otel_trace_session.proofs.FeedLemmas.{fed_some}
use Rattle.otel_trace_session.proofs.session.Session.feed_in.Goals as goal

pub returns-in_err-script-clause-writes : goal.returns-in_err-script-clause-writes
returns-in_err-script-clause-writes g c =
    let p = err_from_is_err_and c.from_residual.result c.from_residual.ensures.1 in
    rw (p.1, p.2) (record {
      replies = [];
      written = sym (append-nil _);
      none_refused = tt;
      these = inl (record { says_something = subst (λ (dialect : Dialect). ¬ SpellsNothing dialect c.args.text.now) c.dialect.ensures (fails_on_err c.in_err-script.ensures.free); none = refl; nothing_done = refl });
    })

pub returns-in_err-run_and_write-clause-writes : goal.returns-in_err-run_and_write-clause-writes
returns-in_err-run_and_write-clause-writes g c =
    let calls = calls_of g.P.SpanProcessor g.P.Timed g.P.CountsLeftSpans g.P.KeepsBatches g.S.ShouldSample g.G.GivesIds in
    let p = err_from_is_err_and c.from_residual-in_err-run_and_write.result c.from_residual-in_err-run_and_write.ensures.1 in
    let wrote = c.in_err-run_and_write.ensures.err in
    rw (p.1, p.2) (record {
      replies = wrote.replies;
      written = wrote.written;
      none_refused = wrote.none_refused;
      these = fed_some calls (g.F.ReplyForm.form c.args.form.now).dialect c.in_err-run_and_write.field-0.0 c.args.self.now c.run_and_write.new.self c.args.text.now wrote.replies (record {
        commands = c.in_ok-script.script.commands.items;
        bad_line = c.in_ok-script.script.bad_line;
        spelled = subst (λ (dialect : Dialect). TextSpells dialect c.args.text.now (plain_commands c.in_ok-script.script.commands.items) c.in_ok-script.script.bad_line) c.dialect.ensures c.in_ok-script.ensures.spelled;
        stopped = wrote.these;
      });
    })

pub returns-in-Some-clause-writes : goal.returns-in-Some-clause-writes
returns-in-Some-clause-writes g c =
    let wrote = c.in_ok-run_and_write.ensures.ok in record {
      replies = wrote.replies;
      written = wrote.written;
      none_refused = wrote.none_refused;
      these = record {
        commands = c.in_ok-script.script.commands.items;
        spelled = subst (λ (bad_line : Option ℕ). TextSpells (g.F.ReplyForm.form c.args.form.now).dialect c.args.text.now (plain_commands c.in_ok-script.script.commands.items) bad_line) c.in-Some.is
            (subst (λ (dialect : Dialect). TextSpells dialect c.args.text.now (plain_commands c.in_ok-script.script.commands.items) c.in_ok-script.script.bad_line) c.dialect.ensures c.in_ok-script.ensures.spelled);
        ran = wrote.these;
      };
    }

pub returns-in-None-clause-writes : goal.returns-in-None-clause-writes
returns-in-None-clause-writes g c =
    let wrote = c.in_ok-run_and_write.ensures.ok in record {
      replies = wrote.replies;
      written = wrote.written;
      none_refused = wrote.none_refused;
      these = record {
        commands = c.in_ok-script.script.commands.items;
        spelled = subst (λ (bad_line : Option ℕ). TextSpells (g.F.ReplyForm.form c.args.form.now).dialect c.args.text.now (plain_commands c.in_ok-script.script.commands.items) bad_line) c.in-None.is
            (subst (λ (dialect : Dialect). TextSpells dialect c.args.text.now (plain_commands c.in_ok-script.script.commands.items) c.in_ok-script.script.bad_line) c.dialect.ensures c.in_ok-script.ensures.spelled);
        ran = wrote.these;
      };
    }
