use Rattle.std.specs.Prelude.{◌≡◌, Bool, false, List, [], ◌∷◌, nat_lt}
use Rattle.otel_export.specs.PlainSpanData.{PlainSpanData}
use Rattle.otel_trace_lines.specs.declared.reply.Answer.{Answer}
use Rattle.otel_trace_lines.specs.declared.reply.Answer.TheVariants as answers

-- a reply: the batches that were exported since the one before it, and the answer to its command
pub record PlainReply : Type 0 where
  pub exported : List (List PlainSpanData)
  pub answer : Answer

-- whether an answer says that a processor refused a span
abbrev pub counts_refusals : Answer → Bool
counts_refusals (answers.Ended refused) = nat_lt 0 refused
counts_refusals _ = false

-- no answer says so
abbrev pub NoneRefused : List PlainReply → Type 0
NoneRefused [] = Unit {0}
NoneRefused (reply ∷ replies) = (counts_refusals reply.answer ≡ false) × NoneRefused replies
