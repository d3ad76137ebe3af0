use Rattle.std.proofs.Common.{◌≡◌, ◌<◌, ◌∙◌, ◌∷◌, [], subst}
use Rattle.opentelemetry.proofs.Clauses.{on_ok_map}
use Rattle.opentelemetry.specs.Plain.{PlainLink, PlainSpanContext}
use Rattle.opentelemetry.specs.PlainContexts.{current_span_context}
use Rattle.otel_pipeline.specs.SpanEdits.{new_link}
use Rattle.otel_pipeline.specs.SpanHistory.{add_link}
use Rattle.otel_embed.specs.Pipelines.{EditsSpan, PipelineState}
use Rattle.otel_embed.proofs.pipeline_of.PipelineOf.add_remote_link.Goals as goal

pub returns-clause-ok : goal.returns-clause-ok
returns-clause-ok g c =
    let named = c.in_ok-target.ensures in
    let link : c.new.result ≡ new_link (current_span_context named.0) c.args.self.now.gathered =
    c.new.ensures ∙ (λ k. new_link (named.4 k) (c.take_gathered-attributes.ensures.taken k)) in
    on_ok_map c.change.result (λ edited. record {
      cx = named.0;
      says = named.1;
      is_valid = (
        subst (λ (x : PlainSpanContext). 0 < x.trace_id) named.4 named.2,
        subst (λ (x : PlainSpanContext). 0 < x.span_id) named.4 named.3,
      );
      links = subst (λ (p : PipelineState g.row.P.Denot g.row.S.Denot g.row.G.Denot). EditsSpan p c.args.span (add_link (new_link (current_span_context named.0) c.args.self.now.gathered) ∷ []) c.change.new.self)
          c.take_gathered-attributes.ensures.rest
          (subst (λ (l : PlainLink). EditsSpan c.take_gathered-attributes.new.self c.args.span (add_link l ∷ []) c.change.new.self) link edited);
    }) c.change.ensures.ok
