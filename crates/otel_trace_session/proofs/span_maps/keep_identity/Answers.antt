use Rattle.std.proofs.Common.{ap, string_bytes, subst, List, ℕ}
use Rattle.otel_pipeline.specs.SpanHistory.{PlainSpan, ended}
use Rattle.otel_trace_session.specs.Ended.{ended_span}
use Rattle.otel_trace_session.specs.OpenSpans.{PutsSpan, finished_by_name}
use Rattle.otel_trace_session.proofs.HeldLemmas.{puts_kept}
use Rattle.otel_trace_session.proofs.span_maps.keep_identity.Goals as goal

pub returns-clause-ok : goal.returns-clause-ok
returns-clause-ok c =
    let old = finished_by_name c.args.finished.now.entries in
    let new = finished_by_name c.insert.new.self.entries in
    let key = c.in_ok-from_str.field-0 in
    subst (λ (name : List ℕ). PutsSpan old name (ended c.args.span.now) new) c.in_ok-from_str.ensures.ok
    (subst (λ (span : PlainSpan). PutsSpan old (string_bytes key) span new) (ap ended_span c.in_ok-kept.ensures)
    (puts_kept c.args.finished.now c.insert.new.self (string_bytes key) c.in_ok-kept.kept c.in_ok-insert.ensures.updates))
