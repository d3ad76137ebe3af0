use Rattle.std.proofs.Common.{◌≡◌, List, ℕ, Option, refl, sym, subst, ap, ◌∙◌}
use Rattle.std.specs.Option.{option_copied}
use Rattle.opentelemetry.specs.Carrier.{Texts}
use Rattle.otel_propagators.specs.B3.{IsMany, SaysDecision, flags_field, sampled_field, single_field}
use Rattle.otel_propagators.proofs.b3.read.read_many.Goals as goal

pub returns : goal.returns
returns g c =
    let texts : Texts = g.X.Extractor.reads c.args.extractor.now in
    let single : texts single_field ≡ option_copied c.get-3.result = sym (c.get-3.ensures ∙ ap texts c.name-3.ensures) in
    let flags : texts flags_field ≡ option_copied c.get-4.result = sym (c.get-4.ensures ∙ ap texts c.name-4.ensures) in
    let sampled : texts sampled_field ≡ option_copied c.get-5.result = sym (c.get-5.ensures ∙ ap texts c.name-5.ensures) in
    subst (IsMany texts) (sym c.remote_context.ensures) (record {
      trace_text = c.in_ok-trace_text.trace_text.now;
      span_text = c.in_ok-span_text.span_text.now;
      state = c.in_ok-state.state;
      trace_given = sym (c.get.ensures ∙ ap texts c.name.ensures) ∙ ap (λ b. option_copied b) c.in_ok-trace_text.was;
      span_given = sym (c.get-2.ensures ∙ ap texts c.name-2.ensures) ∙ ap (λ b. option_copied b) c.in_ok-span_text.was;
      is_trace_id = c.in_ok-trace_id.ensures;
      is_span_id = c.in_ok-span_id.ensures;
      says = subst (λ (s : Option (List ℕ)). SaysDecision s (texts flags_field) (texts sampled_field) c.in_ok-state.state) (sym single)
          (subst (λ (f : Option (List ℕ)). SaysDecision (option_copied c.get-3.result) f (texts sampled_field) c.in_ok-state.state) (sym flags)
          (subst (λ (d : Option (List ℕ)). SaysDecision (option_copied c.get-3.result) (option_copied c.get-4.result) d c.in_ok-state.state) (sym sampled) c.in_ok-state.ensures));
      flags = refl;
      remote = refl;
      stateless = refl;
    })
