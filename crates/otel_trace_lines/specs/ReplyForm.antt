-- The form in which lines are read and replies are written.
use Rattle.std.specs.Prelude.{ℕ, Bool, false, List}
use Rattle.std.specs.List.{flat_map}
use Rattle.otel_export.specs.PlainSpanData.{PlainSpanData, spans_in}
use Rattle.otel_trace_lines.specs.AnswerText.{reply_text}
use Rattle.otel_trace_lines.specs.PlainReply.{PlainReply}
use Rattle.otel_console.specs.SpanText.{span_lines}
use Rattle.otel_trace_lines.specs.declared.dialect.Dialect.{Dialect}
use Rattle.otel_trace_lines.specs.declared.dialect.Dialect.TheVariants as dialects

-- by which grammar lines are read; how a reply is written, and the batches that no reply has shown, when a session
-- closes; and whether a run in this form fails where a queue was full and dropped a span
pub record Form : Type 0 where
  pub dialect : Dialect
  pub reply : PlainReply → List ℕ
  pub rest : List (List PlainSpanData) → List ℕ
  pub minds_drops : Bool

-- replies in a form, in order
abbrev pub texts : Form → List PlainReply → List ℕ
texts form replies = flat_map form.reply replies

-- lines: those of the spans that were exported, and for a reply its answer's after them. Whoever reads them knows how
-- long the queue is, and a span that it drops is no failure
abbrev pub reply_lines_in : Dialect → Form
reply_lines_in dialect = record {
  dialect = dialect;
  reply = reply_text;
  rest = λ batches. span_lines (spans_in batches);
  minds_drops = false;
}

-- the same of the plain grammar
abbrev pub reply_lines : Form
reply_lines = reply_lines_in dialects.Plain
