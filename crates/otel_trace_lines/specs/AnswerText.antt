-- The whole text of a reply.
use Rattle.std.specs.Prelude.{ℕ, List, ◌++◌, string_bytes}
use Rattle.otel_export.specs.PlainSpanData.{spans_in}
use Rattle.otel_trace_lines.specs.PlainReply.{PlainReply}
use Rattle.otel_trace_lines.specs.declared.reply.Answer.{Answer}
use Rattle.otel_trace_lines.specs.declared.reply.Answer.TheVariants as answers
use Rattle.otel_export.specs.ErrorText.{error_text}
use Rattle.otel_console.specs.SpanText.{line, span_lines}
use Rattle.otel_trace_lines.specs.ReplyText.{started_line, dropped_line, ok_line, headers_lines}
use Rattle.otel_trace_lines.specs.ReplyText.{no_headers_line, ignored_line, no_such_span_line, span_exists_line}
use Rattle.otel_trace_lines.specs.ReplyText.{still_open_line, ended_line}

-- the line of an answer; headers have one each
abbrev pub answer_line : Answer → List ℕ
answer_line (answers.Started identity) = started_line identity.trace_id identity.span_id identity.trace_flags
answer_line (answers.Dropped identity) = dropped_line identity.trace_id identity.span_id identity.trace_flags
answer_line answers.Ok = ok_line
answer_line (answers.Headers parent state) = headers_lines (string_bytes parent) (string_bytes state)
answer_line answers.NoHeaders = no_headers_line
answer_line answers.Ignored = ignored_line
answer_line answers.NoSuchSpan = no_such_span_line
answer_line answers.SpanExists = span_exists_line
answer_line answers.StillOpen = still_open_line
answer_line (answers.Ended refused) = ended_line
answer_line (answers.Failed error) = line (error_text error)

-- the lines of a reply: those of the exported spans, then the answer's
abbrev pub reply_text : PlainReply → List ℕ
reply_text reply = span_lines (spans_in reply.exported) ++ answer_line reply.answer
