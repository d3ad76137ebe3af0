-- What is found after the word is found in the line, and an offer there is one in the line.
use Rattle.std.proofs.Common.{◌≡◌, ◌++◌, ◌∷◌, IsUtf8, rules}
use Rattle.opentelemetry.proofs.Clauses.{if_ok_map}
use Rattle.otel_trace_steps.proofs.StepFields.{fields_found, fields_offer}
use Rattle.otel_trace_steps.proofs.steps.step_lines.order_of.Goals as goal

pub returns-in-Some : goal.returns-in-Some
returns-in-Some c =
    let text : IsUtf8 c.args.line.now = search rules in
    let parts : c.args.line.now ≡ c.in-Some.word.now ++ 32 ∷ c.in-Some.fields.now = search rules in
    let after = c.order_with_fields.ensures in
    record {
      found = if_ok_map c.order_with_fields.result (λ found h. fields_found c.args.line.now c.in-Some.word.now c.in-Some.fields.now text c.in-Some.ensures.0 parts found h) after.found;
      free = λ none. after.free (λ offer. none (fields_offer c.args.line.now c.in-Some.word.now c.in-Some.fields.now text c.in-Some.ensures.0 parts offer));
    }
