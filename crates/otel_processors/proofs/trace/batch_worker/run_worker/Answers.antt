use Rattle.std.proofs.Common.{◌≡◌}
use Rattle.otel_processors.proofs.RestsAgainLemmas.{RestsAgain, idle_worked}
use Rattle.otel_processors.proofs.TakenSpanLemmas.{tells_nothing}
use Rattle.otel_processors.proofs.trace.batch_worker.run_worker.Goals as goal

-- what the worker leaves
left : (g : _) (c : goal.After-is_sound-2 g) →
    RestsAgain g.E.SpanExporter c.args.machine.now c.work_off_messages-answer.new.machine
    × (c.work_off_messages-answer.new.machine.control.closed ≡ c.args.machine.now.control.closed)
left g c =
    let worked = c.work_off_messages-answer.ensures.0 in
    idle_worked g.E.SpanExporter c.args.machine.now worked.outcomes c.work_off_messages-answer.new.machine
    c.is_sound.ensures c.is_sound-2.ensures c.requires.slots c.requires.hand c.requires.left worked.works

pub returns-clause-told : goal.returns-clause-told
returns-clause-told g c =
    tells_nothing g.E.SpanExporter c.args.machine.now c.work_off_messages-answer.new.machine (left g c).0
    (λ opens. rw (left g c).1 at opens)

pub returns-clause-closed : goal.returns-clause-closed
returns-clause-closed g c = (left g c).1

pub returns-clause-rest : goal.returns-clause-rest
returns-clause-rest g c = (left g c).0.rest
