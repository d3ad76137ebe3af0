-- The reason that was looked for at the bad line, if there is one.
use Rattle.std.proofs.Common.{IfSome, List, Option, rules, subst, sym, ℕ}
use Rattle.otel_trace_lines.specs.Commands.{plain_commands}
use Rattle.otel_trace_lines.specs.declared.dialect.Dialect.TheVariants as dialects
use Rattle.otel_trace_run.specs.declared.reason.Reason.{Reason}
use Rattle.otel_trace_run.proofs.BadLines.{IsFound, script_why}
use Rattle.otel_trace_run.proofs.picture.read_script.Goals as goal
use Rattle.otel_trace_run.proofs.picture.read_script.Goals.{in-Some, in-None}

pub returns : goal.returns
returns g c =
    let script = c.in_ok-script.script in
    let text = c.read_to_end.new.buf.items in
    let reason = c.match-script.reason in (
      search rules,
      script_why dialects.Extended (g.R.Read.remaining c.args.input.now) text (plain_commands script.commands.items)
          script.bad_line reason (search rules) (search rules)
          (elim c.match-script.branch [
            | in-Some w ↦
                let found = w.reason_at-reason in
                subst (λ (line : Option ℕ). IfSome line (λ n. IsFound text n reason)) (sym w.in-Some.is)
                (subst (λ (r : Option Reason). IsFound text w.in-Some.line r) (sym w.reason-is)
                (subst (λ (bytes : List ℕ). IsFound bytes w.in-Some.line found.result) w.deref-in-Some.ensures.value
                (found.ensures.some, found.ensures.none)))
            | in-None w ↦
                subst (λ (line : Option ℕ). IfSome line (λ n. IsFound text n reason)) (sym w.in-None.is) tt
          ]),
    )
