use Rattle.std.proofs.Common.{arith, ◌≡◌, ◌∙◌, ◌-◌, sym, ap, subst, length}
use Rattle.std.proofs.lemmas.Grind.{common_steps}
use Rattle.otel_batch.specs.MachineState.{Machine, batch_limit, counts, limit_of}
use Rattle.otel_batch.specs.SoundMachine.{IsSound}
use Rattle.otel_batch.specs.WorkedOff.{PullsBatch}
use Rattle.otel_batch.specs.declared.machine.state.Worker.TheVariants as worker
use Rattle.otel_batch.specs.declared.machine.step.Step.TheVariants as step
use Rattle.otel_batch.proofs.StepLemmas.{stepped}
use Rattle.otel_batch.proofs.Pulling.{filled, pulls_full, pulls_once, pulls_sound}
use Rattle.otel_batch.proofs.machine.batch_machine.BatchMachine.pull_batch.Goals as goal

pub returns-in_default : goal.returns-in_default
returns-in_default g c =
    let s = c.args.self.now in
    let m = c.pull.new.self in
    let first = stepped g.E.SpanExporter s step.Pull c.pull.result m c.is_sound.ensures c.pull.ensures.row
    c.pull.ensures.moved c.is_sound-2.ensures in
    let same : c.self.inside.worker ≡ m.control.worker =
    ap (λ (n : Machine g.row.E.Denot). n.control.worker) c.self.view_is in
    pulls_once g.E.SpanExporter s c.pull.result m c.requires first (λ on. c.in_default.not-Pulling (same ∙ on))

-- the pulls, from the first to the last
pulled : (g : _) (c : goal.After-self-1 g) → PullsBatch g.E.SpanExporter c.args.self.now
    (filled (c.batch_limit-limit.result - c.len.result) c.pull.new.self)
pulled g c =
    let s = c.args.self.now in
    let m = c.pull.new.self in
    let k = c.batch_limit-limit.result - c.len.result in
    let first = stepped g.E.SpanExporter s step.Pull c.pull.result m c.is_sound.ensures c.pull.ensures.row
    c.pull.ensures.moved c.is_sound-2.ensures in
    let on : m.control.worker ≡ worker.Pulling = rw (← c.self.view_is) c.in-Pulling.is in
    let room' : k ≡ batch_limit c.self.inside.waiting.capacity c.self.inside.batch_size c.self.inside.target
    c.self.inside.done - length c.self.inside.hand.items = grind (arith, common_steps) in
    let room : k ≡ limit_of m.control - length m.hand = rw (← c.self.view_is) room' in
    pulls_full g.E.SpanExporter s c.pull.result m k c.requires first on room

pub invariant_of-self : goal.invariant_of-self
invariant_of-self g c =
    let k = c.batch_limit-limit.result - c.len.result in
    let same = ap (λ (m : Machine g.row.E.Denot). filled k m) c.self.view_is in
    rw (c.pop_into.ensures.items, c.pop_into.ensures.left) (record {
      sound = subst (λ m. IsSound (counts m)) (sym same)
          (pulls_sound g.E.SpanExporter c.args.self.now _ c.is_sound.ensures (pulled g c));
      room = record { hand = λ f. cc; control = c.self.invariant.room.control };
    })

pub returns : goal.returns
returns g c =
    let k = c.batch_limit-limit.result - c.len.result in
    let same = ap (λ (m : Machine g.row.E.Denot). filled k m) c.self.view_is in
    rw (c.pop_into.ensures.items, c.pop_into.ensures.left)
    (subst (λ t. PullsBatch g.E.SpanExporter c.args.self.now t) (sym same) (pulled g c))
