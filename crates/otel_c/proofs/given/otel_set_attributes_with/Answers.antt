use Rattle.std.proofs.Common.{◌∙◌, Some, ap, sym}
use Rattle.otel_c.proofs.Turning.{did, did_not, turned, turned_if_open}
use Rattle.otel_c.proofs.given.otel_set_attributes_with.Goals as goal

pub returns : goal.returns
returns c = record {
  ok = λ is_ok. turned _ _ _ c.deref_mut.result.now _ (c.in-Some.ensures.some.1 ∙ ap Some (sym c.deref_mut.ensures.value)) c.put.ensures.1
      (did _ c.set_attributes_with-set.result _ c.status_of_result.ensures.ok c.set_attributes_with-set.ensures.ok is_ok);
  failed = λ failed. turned_if_open _ _ _ c.deref_mut.result.now _ (c.in-Some.ensures.some.1 ∙ ap Some (sym c.deref_mut.ensures.value)) c.put.ensures.1
      (did_not _ c.set_attributes_with-set.result _ c.status_of_result.ensures.ok c.set_attributes_with-set.ensures.err failed);
}
