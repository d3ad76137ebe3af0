use Rattle.otel_http.proofs.client.send.Goals as goal

pub returns-clause-sends : goal.returns-clause-sends
returns-clause-sends g c = record {
  sent = c.carry.new.request;
  carries = c.in_ok-carry.ensures.injects;
  rest = c.carry.ensures.rest;
  answered = c.in_ok-call.ensures.ok;
  tells = c.in_ok-tell_response.ensures.tells;
}
