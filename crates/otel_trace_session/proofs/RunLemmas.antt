-- Runs of the commands of a session: how they are joined, and how one stops.
use Rattle.std.proofs.Common.{◌≡◌, List, [], ◌∷◌, ◌++◌, refl, sym, ◌∙◌, ap, subst, append_assoc, append-nil, map, inl}
use Rattle.std.proofs.lemmas.List.{map-append}
use Rattle.opentelemetry.specs.Plain.{PlainScope}
use Rattle.otel_trace_lines.specs.Commands.{PlainCommand, plain_command, plain_commands}
use Rattle.otel_trace_lines.specs.PlainReply.{PlainReply}
use Rattle.otel_trace_lines.specs.declared.command.Command.{Command}
use Rattle.otel_trace_lines.specs.declared.reply.Answer.{Answer}
use Rattle.otel_trace_session.specs.Calls.{Calls}
use Rattle.otel_trace_session.specs.Fed.{WhyUnwritten, feed_error}
use Rattle.otel_trace_session.specs.Shown.{session_batches}
use Rattle.otel_trace_session.specs.Stops.{AnswerStops, Answers, HasNoReply, RunsBeginning, WhyUntold}
use Rattle.otel_trace_session.specs.OpenSpans.{Describe, NamedSpans}
use Rattle.otel_trace_session.specs.Taking.{TakesKept}
use Rattle.otel_trace_session.specs.Turn.{Course, Turn}
use Rattle.otel_trace_session.specs.Turns.{AreTurns, Runs, SessionState, course_of, reply_of}
use Rattle.otel_trace_session.specs.declared.session.RunError.{RunError}
use Rattle.otel_trace_session.specs.declared.session.RunError.TheVariants as runs

module _ {P S G : Type 0} (calls : Calls P S G) where
  -- turns, and others from where they end
  pub turns_join : (scope : PlainScope) (old middle new : Course P S G) (cs ds : List PlainCommand) (ts us : List (Turn P S G))
      → AreTurns calls scope old cs ts middle → AreTurns calls scope middle ds us new → AreTurns calls scope old (cs ++ ds) (ts ++ us) new
  turns_join scope old middle new [] ds [] us h k = subst (λ (c : Course P S G). AreTurns calls scope c ds us new) h k
  turns_join scope old middle new [] ds (t ∷ ts) us h k = absurd h
  turns_join scope old middle new (c ∷ cs) ds [] us h k = absurd h
  turns_join scope old middle new (c ∷ cs) ds (t ∷ ts) us h k = (h.0, h.1, h.2, (h.3.0, h.3.1, turns_join scope h.3.0 middle new cs ds ts us h.3.2 k))

  -- a run, and another from where it ends
  pub runs_join : (old middle new : SessionState P S G) (cs ds : List Command) (rs qs : List PlainReply) → Runs calls old cs rs middle → Runs calls middle ds qs new → Runs calls old (cs ++ ds) (rs ++ qs) new
  runs_join old middle new cs ds rs qs h k = record {
    scope = k.scope ∙ h.scope;
    lost_before = k.lost_before ∙ h.lost_before;
    took = λ histories describes.
        let one = h.took histories describes in
        let two = k.took one.after one.describes in
        let later = subst (λ (s : PlainScope). AreTurns calls s (course_of middle one.after) (plain_commands ds) two.turns (course_of new two.after)) h.scope two.are_turns in record {
          turns = one.turns ++ two.turns;
          after = two.after;
          are_turns = subst (λ (l : List PlainCommand). AreTurns calls old.scope (course_of old histories) l (one.turns ++ two.turns) (course_of new two.after)) (sym (map-append plain_command cs ds))
              (turns_join old.scope (course_of old histories) (course_of middle one.after) (course_of new two.after) (plain_commands cs) (plain_commands ds) one.turns two.turns one.are_turns later);
          replied_to = ap (λ (l : List PlainReply). l ++ qs) one.replied_to ∙ ap (λ (l : List PlainReply). map (reply_of calls) one.turns ++ l) two.replied_to ∙ sym (map-append (reply_of calls) one.turns two.turns);
          describes = two.describes;
        };
  }

  -- no command
  pub runs_nothing : (session : SessionState P S G) → Runs calls session [] [] session
  runs_nothing session = record { scope = refl; lost_before = refl; took = λ histories describes. record { turns = []; after = histories; are_turns = refl; replied_to = refl; describes = describes } }

  -- from an answer to where a session stands after its reply, which took the batches that it shows
  pub record TookShown (answered new : SessionState P S G) : Type 0 where
    pub takes : TakesKept calls answered.provider new.provider
    pub rest : new ≡ record answered { provider = new.provider }

  -- one command, with a reply that shows what is kept after it
  pub runs_one : (old answered new : SessionState P S G) (command : Command) (answer : Answer) → Answers calls old command answer answered → answered ≡ record old { provider = answered.provider; spans = answered.spans }
      → TookShown answered new → Runs calls old (command ∷ []) (record { exported = session_batches calls.keeps answered; answer = answer } ∷ []) new
  runs_one old answered new command answer answers rest took_shown = record {
    scope = ap (λ (s : SessionState P S G). s.scope) took_shown.rest ∙ ap (λ (s : SessionState P S G). s.scope) rest;
    lost_before = ap (λ (s : SessionState P S G). s.lost_before) took_shown.rest ∙ ap (λ (s : SessionState P S G). s.lost_before) rest;
    took = λ histories describes.
        let took = answers.carried (course_of old histories) describes in
        let turn : Turn P S G = record { before = course_of old histories; answer = answer; delivered = took.delivered; after = record (course_of old histories) { provider = answered.provider; histories = took.histories } } in record {
          turns = turn ∷ [];
          after = took.histories;
          are_turns = (refl, took.is, answers.loses_none, (course_of new took.histories, record { takes = took_shown.takes; histories = refl }, refl));
          replied_to = refl;
          describes = subst (λ (spans : NamedSpans). Describe took.histories spans) (sym (ap (λ (s : SessionState P S G). s.spans) took_shown.rest)) took.describes;
        };
  }

  -- the commands before those that are left were carried out, each with its reply
  pub record Ran (old : SessionState P S G) (commands left : List Command) (replies : List PlainReply) (new : SessionState P S G) : Type 0 where
    pub done : List Command
    pub parts : commands ≡ done ++ left
    pub ran : Runs calls old done replies new

  -- none of them
  pub ran_nothing : (session : SessionState P S G) (commands left : List Command) → left ≡ commands → Ran session commands left [] session
  ran_nothing session commands left e = record { done = []; parts = sym e; ran = runs_nothing session }

  -- all of them
  pub ran_all : (old new : SessionState P S G) (commands left : List Command) (replies : List PlainReply) → left ≡ [] → Ran old commands left replies new → Runs calls old commands replies new
  ran_all old new commands left replies none ran =
      subst (λ (l : List Command). Runs calls old l replies new) (sym (ran.parts ∙ ap (λ (l : List Command). ran.done ++ l) none ∙ append-nil ran.done)) ran.ran

  -- one more, with its reply, which takes what it shows
  pub ran_more : (old middle answered new : SessionState P S G) (commands queue left : List Command) (replies : List PlainReply) (command : Command) (answer : Answer)
      → queue ≡ command ∷ left → Ran old commands queue replies middle → Answers calls middle command answer answered → answered ≡ record middle { provider = answered.provider; spans = answered.spans } → TookShown answered new
      → Ran old commands left (replies ++ record { exported = session_batches calls.keeps answered; answer = answer } ∷ []) new
  ran_more old middle answered new commands queue left replies command answer popped ran answers rest took = record {
    done = ran.done ++ command ∷ [];
    parts = ran.parts ∙ ap (λ (l : List Command). ran.done ++ l) popped ∙ sym (append_assoc ran.done (command ∷ []) left);
    ran = runs_join old middle new ran.done (command ∷ []) replies (record { exported = session_batches calls.keeps answered; answer = answer } ∷ []) ran.ran (runs_one middle answered new command answer answers rest took);
  }

  -- a command that has no answer has no reply
  pub stops_run : (error : RunError) (old : SessionState P S G) (command : Command) (new : SessionState P S G) → AnswerStops calls error old command new → WhyUntold calls error old command new
  stops_run runs.Memory old command new h = inl h
  stops_run runs.BatchLost old command new h = h

  pub stops_feed : (error : RunError) (old : SessionState P S G) (command : Command) (new : SessionState P S G) → AnswerStops calls error old command new → WhyUnwritten calls (feed_error error) old command new
  stops_feed runs.Memory old command new h = inl h
  stops_feed runs.BatchLost old command new h = h

  -- one more, which has no reply
  pub ran_stopped : (Why : SessionState P S G → Command → SessionState P S G → Type 0) (old middle new : SessionState P S G) (commands queue left : List Command) (replies : List PlainReply) (command : Command)
      → queue ≡ command ∷ left → Ran old commands queue replies middle → HasNoReply calls Why middle command new → RunsBeginning calls Why old commands replies new
  ran_stopped Why old middle new commands queue left replies command popped ran stopped = record {
    done = ran.done;
    last = command;
    left = left;
    middle = middle;
    parts = ran.parts ∙ ap (λ (l : List Command). ran.done ++ l) popped;
    ran = ran.ran;
    stopped = stopped;
  }
