-- What one command of a session comes to, whatever its answer.
use Rattle.std.proofs.Common.{◌≡◌, ◌∙◌, ◌||◌, Bool, List, [], Result, Ok, Err, IfOk, OnErr, ap, true, false, refl}
use Rattle.otel_export.specs.KeptBatches.{OnlyAdds}
use Rattle.otel_pipeline.specs.ProcessorKeeps.{OnlyAppends}
use Rattle.otel_trace_lines.specs.Commands.{PlainCommand, start, child, remote, attr, event, status, inject, end, flush, run, shutdown, set_int, set_bool, set_float, link, exception, event_with, forget, is_end, may_export, plain_command}
use Rattle.otel_trace_lines.specs.declared.command.Command.{Command}
use Rattle.otel_trace_lines.specs.declared.reply.Answer.{Answer}
use Rattle.otel_trace_session.specs.Actions.{action_of, ends_span, may_lose}
use Rattle.otel_trace_session.specs.Calls.{Calls, batches_of_first}
use Rattle.otel_trace_session.specs.OpenSpans.{HaveHistories}
use Rattle.otel_trace_session.specs.Shown.{session_batches, session_losses, session_stored}
use Rattle.otel_trace_session.specs.Stops.{Answers, CarriesOut, Obeys, Refuses}
use Rattle.otel_trace_session.specs.Turns.{SessionState}
use Rattle.otel_pipeline.proofs.FirstKeeps.{adds_nothing}
use Rattle.otel_trace_session.proofs.KeptLemmas.{turn_stores_none}
use Rattle.otel_trace_session.proofs.NamedLemmas.{described}

-- a command ends a span where its action does
same_end : (command : PlainCommand) → ends_span (action_of command) ≡ is_end command
same_end (start span name moment kind) = refl
same_end (child span parent name moment kind) = refl
same_end (remote span header name moment kind) = refl
same_end (attr span key value) = refl
same_end (event span name moment) = refl
same_end (status span how) = refl
same_end (inject span) = refl
same_end (end span moment) = refl
same_end flush = refl
same_end (run moment) = refl
same_end shutdown = refl
same_end (set_int span key value) = refl
same_end (set_bool span key value) = refl
same_end (set_float span key value) = refl
same_end (link span target) = refl
same_end (exception span kind moment message) = refl
same_end (event_with span name moment key value) = refl
same_end (forget span) = refl

-- where neither of two is so
pub neither : (a b : Bool) → a || b ≡ false → (a ≡ false) × (b ≡ false)
neither true b h = cc
neither false b h = (refl, h)

-- a command that may export nothing neither ends a span nor calls the provider
exports_none : (command : PlainCommand) → may_export command ≡ false → (ends_span (action_of command) ≡ false) × (may_lose (action_of command) ≡ false)
exports_none (start span name moment kind) e = (refl, refl)
exports_none (child span parent name moment kind) e = (refl, refl)
exports_none (remote span header name moment kind) e = (refl, refl)
exports_none (attr span key value) e = (refl, refl)
exports_none (event span name moment) e = (refl, refl)
exports_none (status span how) e = (refl, refl)
exports_none (inject span) e = (refl, refl)
exports_none (end span moment) e = cc
exports_none flush e = cc
exports_none (run moment) e = cc
exports_none shutdown e = cc
exports_none (set_int span key value) e = (refl, refl)
exports_none (set_bool span key value) e = (refl, refl)
exports_none (set_float span key value) e = (refl, refl)
exports_none (link span target) e = (refl, refl)
exports_none (exception span kind moment message) e = (refl, refl)
exports_none (event_with span name moment key value) e = (refl, refl)
exports_none (forget span) e = (refl, refl)

module _ {P S G : Type 0} (calls : Calls P S G) where
  -- a command that was carried out, and one that was refused, takes back no batch
  pub carried_grows : (old new : SessionState P S G) (command : Command) (answer : Answer) → HaveHistories old.spans → CarriesOut calls old command answer new → OnlyAdds (session_stored calls.keeps old) (session_stored calls.keeps new)
  carried_grows old new command answer have carries =
      let first = described old.spans have in
      (carries (record { provider = old.provider; histories = first.0 }) first.1).is.adds

  pub refused_grows : (old new : SessionState P S G) (command : Command) → Refuses calls old command new → OnlyAdds (session_stored calls.keeps old) (session_stored calls.keeps new)
  refused_grows old new command h = adds_nothing calls.keeps old.provider.processors new.provider.processors h.processors

  pub obeys_by : {E : Type 0} (old new : SessionState P S G) (command : Command) (result : Result Answer E) → IfOk result (λ answer. CarriesOut calls old command answer new) → OnErr result (Refuses calls old command new)
      → Obeys calls old command result new
  obeys_by old new command (Ok answer) carries refuses = carries
  obeys_by old new command (Err error) carries refuses = refuses

  pub obeyed_grows : {E : Type 0} (old new : SessionState P S G) (command : Command) (result : Result Answer E) → HaveHistories old.spans → Obeys calls old command result new → OnlyAdds (session_stored calls.keeps old) (session_stored calls.keeps new)
  obeyed_grows old new command (Ok answer) have obeys = carried_grows old new command answer have obeys
  obeyed_grows old new command (Err error) have obeys = refused_grows old new command obeys

  -- where none is kept, and the command may export none, none is kept after it
  pub obeyed_keeps_none : {E : Type 0} (law : OnlyAppends calls.processor calls.timer calls.keeps.stored) (old new : SessionState P S G) (command : Command) (result : Result Answer E) → HaveHistories old.spans
      → Obeys calls old command result new → may_export (plain_command command) ≡ false → session_batches calls.keeps old ≡ [] → session_batches calls.keeps new ≡ []
  obeyed_keeps_none law old new command (Ok answer) have obeys exports none =
      let first = described old.spans have in
      let took = obeys (record { provider = old.provider; histories = first.0 }) first.1 in
      let none_of = exports_none (plain_command command) exports in
      ap (λ stored. stored.batches) (turn_stores_none calls law old.scope (action_of (plain_command command)) _ took.is.is_turn none_of.0 none_of.1) ∙ none
  obeyed_keeps_none law old new command (Err error) have obeys exports none = ap (λ (ps : List P). batches_of_first calls.keeps ps) obeys.processors ∙ none

  -- one that was carried out, where an end of a span lost no batch
  pub answers_one : (law : OnlyAppends calls.processor calls.timer calls.keeps.stored) (old new : SessionState P S G) (command : Command) (answer : Answer) (ends_span : Bool) → HaveHistories old.spans → CarriesOut calls old command answer new
      → is_end (plain_command command) ≡ ends_span → (ends_span ≡ true → session_losses calls.keeps new ≡ session_losses calls.keeps old) → Answers calls old command answer new
  answers_one law old new command answer true have carries is none = record { carried = carries; loses_none = λ _. none refl }
  answers_one law old new command answer false have carries is none =
      let first = described old.spans have in
      let took = carries (record { provider = old.provider; histories = first.0 }) first.1 in
      record { carried = carries; loses_none = λ may_not. ap (λ stored. stored.lost) (turn_stores_none calls law old.scope (action_of (plain_command command)) _ took.is.is_turn (same_end (plain_command command) ∙ is) may_not) }
