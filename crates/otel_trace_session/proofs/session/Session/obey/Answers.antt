-- Where none is kept and the command may export none, none is kept after it.
use Rattle.std.proofs.Common.{◌∙◌, subst, sym}
use Rattle.otel_trace_session.specs.Calls.{calls_of}
use Rattle.otel_trace_session.specs.Stops.{Obeys}
use Rattle.otel_trace_session.specs.Turns.{SessionState}
use Rattle.otel_trace_session.proofs.AnswerLemmas.{neither, obeyed_keeps_none, obeys_by}
use Rattle.otel_trace_session.proofs.session.Session.obey.Goals as goal

pub invariant_of-self : goal.invariant_of-self
invariant_of-self g c =
    let calls = calls_of g.P.SpanProcessor g.P.Timed g.P.CountsLeftSpans g.P.KeepsBatches g.S.ShouldSample g.G.GivesIds in
    let inside = c.self.inside in
    let old : SessionState g.row.P.Denot g.row.S.Denot g.row.G.Denot = record { provider = inside.provider; scope = inside.tracer; spans = inside.spans; lost_before = inside.lost_before } in
    let new = record old { provider = c.carry_out.new.provider; spans = c.carry_out.new.spans } in
    let obeys = obeys_by calls old new c.args.command c.carry_out.result c.carry_out.ensures.ok c.carry_out.ensures.err in (
      c.self.invariant.0,
      λ none.
          let both = neither inside.may_keep c.may_export.result none in
          obeyed_keeps_none calls g.met.P.KeepsBatches.appends old new c.args.command c.carry_out.result c.have_histories.ensures obeys (sym c.may_export.ensures ∙ both.1) (c.self.invariant.1 both.0),
    )

pub returns-clause-obeys : goal.returns-clause-obeys
returns-clause-obeys g c =
    let calls = calls_of g.P.SpanProcessor g.P.Timed g.P.CountsLeftSpans g.P.KeepsBatches g.S.ShouldSample g.G.GivesIds in
    let inside = c.self.inside in
    let old : SessionState g.row.P.Denot g.row.S.Denot g.row.G.Denot = record { provider = inside.provider; scope = inside.tracer; spans = inside.spans; lost_before = inside.lost_before } in
    let new = record old { provider = c.carry_out.new.provider; spans = c.carry_out.new.spans } in
    let obeys = obeys_by calls old new c.args.command c.carry_out.result c.carry_out.ensures.ok c.carry_out.ensures.err in
    subst (λ (s : SessionState g.row.P.Denot g.row.S.Denot g.row.G.Denot). Obeys calls s c.args.command c.carry_out.result new) c.self.view_is obeys
