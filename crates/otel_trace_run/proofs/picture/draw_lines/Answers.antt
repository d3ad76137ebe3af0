-- What was read, what ran and what was drawn of it; and the end that comes of it.
use Rattle.std.proofs.Common.{◌∙◌, IfSome, ap, rules, true}
use Rattle.otel_trace_lines.specs.Commands.{plain_commands}
use Rattle.otel_trace_run.specs.PictureRuns.{ReadsScript, end_of}
use Rattle.otel_trace_run.specs.Streams.{WhyBad}
use Rattle.otel_trace_run.proofs.picture.draw_lines.Goals as goal

pub returns : goal.returns
returns g c =
    let input = g.R.Read.remaining c.args.input.now in
    let script = c.in_ok-script.script in
    let reason = c.in_ok-script.reason in
    let spans = c.in_ok-spans.spans.items in
    let found : ReadsScript input (g.R.Read.remaining c.read_script.new.input) (plain_commands script.commands.items)
    script.bad_line × IfSome script.bad_line (λ line. WhyBad true input line reason) = search rules in
    let drawn : g.D.SpanPainter.paints c.args.painter.now spans c.in_ok-picture.picture.items = search rules in
    record {
      commands = script.commands.items;
      bad_line = script.bad_line;
      reason = reason;
      spans = spans;
      reads = found.0;
      why = found.1;
      ran = c.in_ok-spans.ensures;
      drawn = drawn;
      ends = c.end_of-end.ensures ∙ ap (end_of script.bad_line reason) c.deref.ensures.value;
    }
