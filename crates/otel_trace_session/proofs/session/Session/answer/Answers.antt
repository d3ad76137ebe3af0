-- Where the command ends no span none is lost; and no batch is taken back.
use Rattle.std.proofs.Common.{◌≡◌, false, rules, true}
use Rattle.otel_trace_lines.specs.Commands.{is_end, plain_command}
use Rattle.otel_trace_session.specs.Calls.{calls_of}
use Rattle.otel_trace_session.proofs.AnswerLemmas.{answers_one, obeyed_grows}
use Rattle.otel_trace_session.proofs.session.Session.answer.Goals as goal

never : false ≡ true → ⊥
never e = cc

pub returns-then-not-ends_span-clause-ok : goal.returns-then-not-ends_span-clause-ok
returns-then-not-ends_span-clause-ok g c =
    let calls = calls_of g.P.SpanProcessor g.P.Timed g.P.CountsLeftSpans g.P.KeepsBatches g.S.ShouldSample g.G.GivesIds in
    let ends_none : is_end (plain_command c.args.command) ≡ false = search rules in
    answers_one calls g.met.P.KeepsBatches.appends c.args.self.now c.obey.new.self c.args.command c.in_ok-obey.field-0 false c.obey.ensures.histories c.in_ok-obey.ensures.obeys ends_none (λ e. absurd (never e))

pub returns-then-not-ends_span-clause-keeps : goal.returns-then-not-ends_span-clause-keeps
returns-then-not-ends_span-clause-keeps g c =
    let calls = calls_of g.P.SpanProcessor g.P.Timed g.P.CountsLeftSpans g.P.KeepsBatches g.S.ShouldSample g.G.GivesIds in
    obeyed_grows calls c.args.self.now c.obey.new.self c.args.command c.obey.result c.obey.ensures.histories c.obey.ensures.obeys

pub returns-then-lost_batches-lost-clause-keeps : goal.returns-then-lost_batches-lost-clause-keeps
returns-then-lost_batches-lost-clause-keeps g c =
    let calls = calls_of g.P.SpanProcessor g.P.Timed g.P.CountsLeftSpans g.P.KeepsBatches g.S.ShouldSample g.G.GivesIds in
    obeyed_grows calls c.args.self.now c.obey-2.new.self c.args.command c.obey-2.result c.obey-2.ensures.histories c.obey-2.ensures.obeys

pub returns-clause-keeps : goal.returns-clause-keeps
returns-clause-keeps g c =
    let calls = calls_of g.P.SpanProcessor g.P.Timed g.P.CountsLeftSpans g.P.KeepsBatches g.S.ShouldSample g.G.GivesIds in
    obeyed_grows calls c.args.self.now c.obey-2.new.self c.args.command c.obey-2.result c.obey-2.ensures.histories c.obey-2.ensures.obeys
