use Rattle.std.proofs.Common.{arith, ◌≡◌, refl, ◌<◌, ◌^◌}
use Rattle.std.proofs.lemmas.Grind.{common_steps}
use Rattle.otel_batch.proofs.First.{first-sound}
use Rattle.otel_batch.proofs.machine.batch_machine.BatchMachine.new.Goals as goal

pub invariant_of-machine : goal.invariant_of-machine
invariant_of-machine g c =
    let size : c.in_ok-waiting.waiting.capacity ≡ c.args.config.max_queue_size = grind (arith, common_steps) in
    let batch : c.max_export_batch_size-batch_size.result ≡ c.args.config.max_export_batch_size =
    c.max_export_batch_size-batch_size.ensures.value in
    let fits : c.args.config.max_queue_size < 2 ^ 64 = grind (arith, common_steps) in
    rw (
      c.in_ok-messages.ensures,
      c.in_ok-slots.ensures,
      c.new.ensures.items,
      c.in_ok-waiting.ensures,
      batch,
      c.max_queue_size.ensures,
    ) (record {
      sound = first-sound c.args.exporter c.args.config c.args.producers fits
          (rw batch at c.max_export_batch_size-batch_size.ensures.fits) c.ranges.producers.fits;
      room = record { hand = λ f. cc; control = refl };
    })
