-- What is found of a name or of a producer is found of the fields, and so is an offer.
use Rattle.opentelemetry.proofs.Clauses.{if_ok_map}
use Rattle.otel_trace_steps.proofs.StepFields.{name_found, name_offer, producer_found}
use Rattle.otel_trace_steps.proofs.steps.step_lines.order_with_fields.Goals as goal

pub returns-in-Some : goal.returns-in-Some
returns-in-Some c =
    let here = c.in-Some.ensures in
    let named = c.offer_of.ensures in
    record {
      found = if_ok_map c.offer_of.result (λ found h. name_found c.args.word.now c.args.fields.now c.in-Some.producer.now c.in-Some.name.now here.0 here.1 found h) named.found;
      free = λ none. named.free (λ offer. none (name_offer c.args.word.now c.args.fields.now c.in-Some.producer.now c.in-Some.name.now here.1 offer));
    }

pub returns-in-None-clause-found : goal.returns-in-None-clause-found
returns-in-None-clause-found c = producer_found c.args.word.now c.args.fields.now c.in-None.ensures c.order_of_producer.result c.order_of_producer.ensures
