-- Where no line is to be written, there is no span.
use Rattle.std.proofs.Common.{◌≡◌, List, [], ◌∷◌, refl}
use Rattle.otel_export.specs.PlainSpanData.{PlainSpanData}
use Rattle.otel_console.specs.SpanText.{span_lines}
use Rattle.otel_trace_lines.proofs.reply_form.ReplyLinesReplyForm.write_rest.Goals as goal

no_spans : (spans : List PlainSpanData) → span_lines spans ≡ [] → spans ≡ []
no_spans [] none = refl
no_spans (span ∷ spans) none = cc

pub returns-clause-free : goal.returns-clause-free
returns-clause-free c = λ none. c.write_batches.ensures.free (no_spans _ none)
