use Rattle.otel_batch.specs.MachineRun.{IsStep}
use Rattle.otel_batch.specs.declared.machine.step.Step.TheVariants as step
use Rattle.otel_processors.proofs.Ending.{EndsIdle, ends_idle}
use Rattle.otel_processors.proofs.TakenSpanLemmas.{ends_rest, takes_span}
use Rattle.otel_processors.proofs.trace.batch_worker.offer_span.Goals as goal

-- what the end leaves
ended : (g : _) (c : goal.After-put g) → EndsIdle c.args.machine.now c.args.span c.put.new.self
ended g c =
    let put = c.put.ensures in
    let offers : IsStep g.E.SpanExporter c.args.machine.now (step.Offer 0 c.args.span) put.offered put.holding =
    rw put.offers.2 put.offers.1 in
    ends_idle g.E.SpanExporter c.args.machine.now put.holding c.put.new.self c.args.span put.offered put.works.steps
    put.outcomes c.requires.slots offers put.works.goes put.works.over

pub returns-clause-told : goal.returns-clause-told
returns-clause-told g c = takes_span g.E.SpanExporter c.args.machine.now c.put.new.self c.args.span
    c.is_sound.ensures (ended g c)

pub returns-clause-rest : goal.returns-clause-rest
returns-clause-rest g c =
    ends_rest g.E.SpanExporter c.args.machine.now c.put.new.self c.args.span c.requires (ended g c)
