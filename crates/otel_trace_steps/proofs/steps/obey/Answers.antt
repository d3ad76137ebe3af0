-- The line is the answer's text, and its end.
use Rattle.std.proofs.Common.{◌≡◌, [], ◌∷◌, ◌++◌, string_bytes, refl, ap, ◌∙◌, rules}
use Rattle.otel_trace_steps.specs.StepAnswers.{Obeys}
use Rattle.otel_trace_steps.specs.StepTexts.{outcome_text, state_text}
use Rattle.opentelemetry.proofs.Clauses.{on_ok_map}
use Rattle.otel_trace_steps.proofs.StepTexts.{line_of}
use Rattle.otel_trace_steps.proofs.steps.obey.Goals as goal
use Rattle.otel_trace_steps.proofs.steps.obey.Goals.{in-Step+in_ok-take_step-in-Step, in-State+in_ok-push_state-in-State}

pub returns-clause-ok : goal.returns-clause-ok
returns-clause-ok c =
    let ended : string_bytes c.push.new.self ≡ string_bytes c.match-order.answer ++ 10 ∷ [] = search rules in
    let cleared : string_bytes c.clear.new.self ≡ [] = search rules in
    let obeyed : Obeys c.args.machine.now c.args.order c.as_str.result.now c.match-order.machine = elim c.match-order.branch [
      | in-Step+in_ok-take_step-in-Step w ↦
          let h = w.in_ok-take_step-in-Step.ensures.ok in
          rw (w.in-Step.is, w.machine-is) (
            h.0,
            h.1,
            line_of (string_bytes c.clear.new.self) (string_bytes c.match-order.answer) (string_bytes c.push.new.self) c.as_str.result.now (outcome_text w.take_step.new.machine.hand h.0)
                cleared (ap (λ a. string_bytes a) w.answer-is ∙ h.2) ended c.as_str.ensures.value,
          )
      | in-State+in_ok-push_state-in-State w ↦
          rw (w.in-State.is, w.machine-is) (
            refl,
            line_of (string_bytes c.clear.new.self) (string_bytes c.match-order.answer) (string_bytes c.push.new.self) c.as_str.result.now (state_text c.args.machine.now)
                cleared (ap (λ a. string_bytes a) w.answer-is ∙ w.in_ok-push_state-in-State.ensures) ended c.as_str.ensures.value,
          )
    ] in
    on_ok_map c.write_text.result (λ e. (c.as_str.result.now, e, obeyed)) c.write_text.ensures.ok
