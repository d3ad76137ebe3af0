use Rattle.otel_start.proofs.program.run.Goals as goal

pub returns-in-Ok : goal.returns-in-Ok
returns-in-Ok g c = λ success. record {
  answer = c.run-worked.result;
  answered = c.run-worked.ensures;
  went_well = c.close.ensures.worked success;
  left = c.run-worked.new.scope;
  closes = c.close.ensures.whole success;
}
