-- What was fed, and what the close appended.
use Rattle.std.proofs.Common.{◌≡◌, List, ℕ, [], Result, subst, rules, Bool, ap, inl, ◌∙◌}
use Rattle.otel_export.specs.declared.error.OTelSdkError.{OTelSdkError}
use Rattle.otel_trace_lines.specs.ReplyForm.{Form}
use Rattle.otel_trace_session.specs.Calls.{Calls, calls_of}
use Rattle.otel_trace_session.proofs.CloseLemmas.{EndsWell, ends_well}
use Rattle.otel_trace_session.specs.Closing.{Closes, LostNothing}
use Rattle.otel_trace_session.specs.Turns.{SessionState}
use Rattle.std.specs.Io.KnownBytes.{Appends}
use Rattle.otel_export.specs.Streams.{AppendsBeginning}
use Rattle.otel_export.proofs.StreamLemmas.{appends_all}
use Rattle.otel_trace_run.proofs.TraceEnds.{closed_as, closed_some, some_failed}
use Rattle.otel_trace_run.proofs.trace_stream.trace_session.Goals as goal

-- what closing did to a new text, in the form that the stream began with
closed_anew : {P S G : Type 0} (calls : Calls P S G) (form now : Form) (session : SessionState P S G) (before text : List ℕ) (answer : Result (Unit {0}) OTelSdkError)
    → now ≡ form → before ≡ [] → Closes calls now session before answer text → Closes calls form session [] answer text
closed_anew calls form now session before text answer same none h =
    subst (λ (f : Form). Closes calls f session [] answer text) same (subst (λ (bs : List ℕ). Closes calls now session bs answer text) none h)

pub returns-in_default : goal.returns-in_default
returns-in_default g c = inl c.in_default.ensures.err

pub returns-in-Failed : goal.returns-in-Failed
returns-in-Failed g c =
    let calls = calls_of g.P.SpanProcessor g.P.Timed g.P.CountsLeftSpans g.P.KeepsBatches g.S.ShouldSample g.G.GivesIds in
    let form = g.F.ReplyForm.form c.args.form.now in
    some_failed calls form c.args.session c.feed_pieces-fed.new.session (g.R.Read.remaining c.args.input.now) (g.R.Read.remaining c.feed_pieces-fed.new.input) (g.W.Write.contents c.args.output.now) (g.W.Write.contents c.feed_pieces-fed.new.output) c.in-Ok.end (search rules) c.in-Ok.ensures.ok

pub returns-in_default-write_whole : goal.returns-in_default-write_whole
returns-in_default-write_whole g c =
    let calls = calls_of g.P.SpanProcessor g.P.Timed g.P.CountsLeftSpans g.P.KeepsBatches g.S.ShouldSample g.G.GivesIds in
    let form = g.F.ReplyForm.form c.args.form.now in
    let now = c.feed_pieces-fed.new.session in
    let closing = c.close_in-closed.new.output.items in
    closed_some calls form (c.args.session) now _ _ _ _ _ c.in-Ok.end c.close_in-closed.result.answer closing c.in_default-end.not-Failed c.in-Ok.ensures.ok
    (closed_anew calls form _ now _ closing c.close_in-closed.result.answer c.feed_pieces-fed.ensures.form c.clear.ensures.items c.close_in-closed.ensures.closes.closes)
    (subst (AppendsBeginning _ _) c.deref.ensures.value c.in_default-write_whole.ensures.err)

pub returns-then-not-lost_nothing : goal.returns-then-not-lost_nothing
returns-then-not-lost_nothing g c =
    let calls = calls_of g.P.SpanProcessor g.P.Timed g.P.CountsLeftSpans g.P.KeepsBatches g.S.ShouldSample g.G.GivesIds in
    let form = g.F.ReplyForm.form c.args.form.now in
    let now = c.feed_pieces-fed.new.session in
    let closing = c.close_in-closed.new.output.items in
    closed_some calls form (c.args.session) now _ _ _ _ _ c.in-Ok.end c.close_in-closed.result.answer closing c.in_default-end.not-Failed c.in-Ok.ensures.ok
    (closed_anew calls form _ now _ closing c.close_in-closed.result.answer c.feed_pieces-fed.ensures.form c.clear.ensures.items c.close_in-closed.ensures.closes.closes)
    (appends_all _ _ closing (subst (Appends _ _) c.deref.ensures.value c.in-Ok-write_whole.ensures.ok))

pub returns : goal.returns
returns g c =
    let calls = calls_of g.P.SpanProcessor g.P.Timed g.P.CountsLeftSpans g.P.KeepsBatches g.S.ShouldSample g.G.GivesIds in
    let form = g.F.ReplyForm.form c.args.form.now in
    let now = c.feed_pieces-fed.new.session in
    let closed = c.close_in-closed.result in
    let closing = c.close_in-closed.new.output.items in
    let kept : LostNothing closed c.minds_drops.result = search rules in
    let minds = c.minds_drops.ensures ∙ ap (λ (f : Form). f.minds_drops) c.close_in-closed.ensures.form in
    let lost = subst (λ (minds_drops : Bool). LostNothing closed minds_drops) minds kept in
    let well = ends_well calls _ now _ closing closed _ c.clear.ensures.items lost c.close_in-closed.ensures.closes in
    closed_as calls form (c.args.session) now _ _ _ _ _ c.in-Ok.end closing c.in_default-end.not-Failed c.in-Ok.ensures.ok
    (subst (λ (f : Form). EndsWell calls f now f.minds_drops closing) c.feed_pieces-fed.ensures.form well)
    (subst (Appends _ _) c.deref.ensures.value c.in-Ok-write_whole.ensures.ok)
