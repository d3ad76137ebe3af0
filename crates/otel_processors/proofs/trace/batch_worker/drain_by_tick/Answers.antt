use Rattle.std.proofs.Common.{◌≡◌, refl}
use Rattle.otel_batch.specs.MachineState.{counts}
use Rattle.otel_batch.specs.MachineRun.{IsStep}
use Rattle.otel_batch.specs.declared.machine.step.Outcome.TheVariants as outcome
use Rattle.otel_batch.specs.declared.machine.step.Step.TheVariants as step
use Rattle.otel_processors.proofs.RestsAgainLemmas.{RestsAgain, ready_open, ticked_rests, ticks}
use Rattle.otel_processors.proofs.TakenSpanLemmas.{tells_nothing}
use Rattle.otel_processors.proofs.trace.batch_worker.drain_by_tick.Goals as goal

-- the timer's step
stepped : (g : _) (c : goal.After-is_sound-2 g) →
    IsStep g.E.SpanExporter c.args.machine.now step.Tick outcome.Ticked c.step.new.self
stepped g c =
    let ready = ready_open c.args.machine.now c.is_sound.ensures c.requires.0 c.requires.1 in
    let ticked = ticks (counts c.args.machine.now) c.step.result (counts c.step.new.self) ready
    c.step.ensures.permitted in
    let any : IsStep g.E.SpanExporter c.args.machine.now step.Tick c.step.result c.step.new.self =
    assumption c.step.ensures in
    rw ticked at any

-- what its drain leaves
left : (g : _) (c : goal.After-is_sound-2 g) →
    RestsAgain g.E.SpanExporter c.args.machine.now c.work_off_messages-answer.new.machine
    × (c.work_off_messages-answer.new.machine.control.closed ≡ c.args.machine.now.control.closed)
left g c =
    let worked = c.work_off_messages-answer.ensures.0 in
    let ticked = stepped g c in
    ticked_rests g.E.SpanExporter c.args.machine.now c.step.new.self worked.outcomes
    c.work_off_messages-answer.new.machine c.requires.0 ticked.sound c.is_sound-2.ensures ticked.permitted
    ticked.moved worked.works

pub returns-clause-drains : goal.returns-clause-drains
returns-clause-drains g c = (
  record {
    ticked = c.step.new.self;
    ticks = (c.step.new.self, stepped g c, refl);
    works = c.work_off_messages-answer.ensures.0;
  },
  c.work_off_messages-answer.ensures.1,
)

pub returns-clause-told : goal.returns-clause-told
returns-clause-told g c =
    tells_nothing g.E.SpanExporter c.args.machine.now c.work_off_messages-answer.new.machine (left g c).0
    (λ opens. rw (left g c).1 at opens)

pub returns-clause-closed : goal.returns-clause-closed
returns-clause-closed g c = (left g c).1

pub returns-clause-rest : goal.returns-clause-rest
returns-clause-rest g c = (left g c).0.rest
