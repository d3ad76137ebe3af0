use Rattle.std.proofs.Common.{rules, ◌∙◌, Some, ap, sym}
use Rattle.otel_c.proofs.Turning.{answered, turned}
use Rattle.otel_c.proofs.given.otel_start_with.Goals as goal

pub returns-clause-answers : goal.returns-clause-answers
returns-clause-answers c = record {
  ok = λ is_ok. turned _ _ _ c.deref_mut.result.now _ (c.in-Some.ensures.some.1 ∙ ap Some (sym c.deref_mut.ensures.value)) c.put.ensures.1
      (answered _ c.start_with-started.result _ _ _ c.write_number.ensures.ok c.write_number.ensures.err c.start_with-started.ensures.ok is_ok);
  failed = search rules;
}
