use Rattle.std.proofs.Common.{refl}
use Rattle.otel_processors.proofs.RestsAgainLemmas.{resource_rests}
use Rattle.otel_processors.proofs.trace.batch_worker.post_resource.Goals as goal

pub returns-clause-posts : goal.returns-clause-posts
returns-clause-posts g c = record {
  outcome = c.step.result;
  posts = (c.step.new.self, assumption c.step.ensures, refl);
}

pub returns-clause-told : goal.returns-clause-told
returns-clause-told g c =
    let left = resource_rests g.E.SpanExporter c.args.machine.now c.args.resource c.step.result c.step.new.self c.requires
    c.step.ensures.permitted c.step.ensures.moved in left.0

pub returns-clause-rest : goal.returns-clause-rest
returns-clause-rest g c =
    let left = resource_rests g.E.SpanExporter c.args.machine.now c.args.resource c.step.result c.step.new.self c.requires
    c.step.ensures.permitted c.step.ensures.moved in left.1
