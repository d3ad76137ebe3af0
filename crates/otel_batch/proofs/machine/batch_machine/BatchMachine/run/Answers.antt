use Rattle.std.proofs.Common.{arith, ◌≡◌, refl, ℕ, [], ◌∷◌, ◌++◌, length, drop, append_assoc, append-nil}
use Rattle.std.proofs.lemmas.Grind.{common_steps}
use Rattle.std.specs.Vec.Iter.{into_iter_items}
use Rattle.otel_batch.specs.MachineRun.{Run, added}
use Rattle.otel_batch.proofs.RunFacts.{run_to}
use Rattle.otel_batch.proofs.machine.batch_machine.BatchMachine.run.Goals as goal

pub loop-step-preserved : goal.loop-step-preserved
loop-step-preserved g c =
    let inv = c.loop-step.invariant in
    let n : ℕ = length c.args.outcomes.now.items in
    let more : c.push_reserved.new.self.items ≡ c.loop-step.outcomes.items ++ c.step-outcome.result ∷ [] = c.push_reserved.ensures.items in
    let cut : drop n (c.loop-step.outcomes.items ++ c.step-outcome.result ∷ []) ≡ drop n c.loop-step.outcomes.items ++ c.step-outcome.result ∷ [] = grind (arith, common_steps, inv.longer) in
    let first : into_iter_items c.loop-step.rest ≡ c.in-Some.step ∷ into_iter_items c.next.new.self = grind (arith, common_steps) in
    record {
      goes_on = λ os t run. rw (more, cut, append_assoc (drop n c.loop-step.outcomes.items) (c.step-outcome.result ∷ []) os)
          (inv.goes_on (c.step-outcome.result ∷ os) t
          (rw first (c.step-outcome.new.self, record { permitted = c.step-outcome.ensures.permitted; moved = c.step-outcome.ensures.moved; requests = c.step-outcome.ensures.requests; goes_on = c.step-outcome.ensures.goes_on; sound = c.step-outcome.ensures.sound }, run)));
      kept = grind (arith, common_steps);
      longer = grind (arith, common_steps);
      room = grind (arith, common_steps);
    }

pub returns-clause-ok : goal.returns-clause-ok
returns-clause-ok g c =
    let none : into_iter_items c.loop-step.rest ≡ [] = grind (arith, common_steps) in
    let os = added c.args.outcomes.now.items c.loop-step.outcomes.items in
    let ran : Run g.E.SpanExporter c.args.self.now c.args.steps.items os c.loop-step.self =
    rw (← append-nil os) (c.loop-step.invariant.goes_on [] c.loop-step.self (rw none refl)) in (
      os,
      c.loop-step.invariant.kept,
      run_to g.E.SpanExporter c.args.self.now c.args.steps.items os c.loop-step.self c.is_sound.ensures ran,
    )
