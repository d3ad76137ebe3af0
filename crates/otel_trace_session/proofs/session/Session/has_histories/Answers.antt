use Rattle.std.proofs.Common.{◌≡◌, subst}
use Rattle.otel_trace_session.specs.OpenSpans.{HaveHistories, NamedSpans}
use Rattle.otel_trace_session.proofs.NamedLemmas.{described}
use Rattle.otel_trace_session.proofs.session.Session.has_histories.Goals as goal

pub returns : goal.returns
returns g c =
    let e : ◌≡◌ {A = NamedSpans} c.self.inside.spans c.args.self.now.spans = λ k. (c.self.view_is k).spans in
    described c.args.self.now.spans (subst HaveHistories e c.have_histories.ensures)
