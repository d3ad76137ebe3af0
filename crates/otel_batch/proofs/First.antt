use Rattle.std.proofs.Common.{◌≡◌, ◌∙◌, sym, refl, zero, suc, ℕ, ◌<◌, ◌≤◌, ◌^◌, length, replicate, sum_by, slice_get, arith}
use Rattle.std.proofs.lemmas.Grind.{common_steps}
use Rattle.std.proofs.lemmas.List.Folds.{sum_by-replicate}
use Rattle.otel_batch.specs.declared.machine.state.Slot.TheVariants.{Idle}
use Rattle.otel_batch.specs.Slots.{slot_counts, slot_asks, slot_waits}
use Rattle.otel_batch.specs.MachineState.{counts, first_machine}
use Rattle.otel_batch.specs.PlainBatchConfig.{PlainBatchConfig}
use Rattle.otel_batch.specs.SoundMachine.{IsSound}

idle_waits : (n p : ℕ) → slot_waits (slice_get (replicate n Idle) p) ≡ 0
idle_waits zero p = refl
idle_waits (suc n) zero = refl
idle_waits (suc n) (suc p) = idle_waits n p

-- a machine as it is made is sound
pub first-sound : {E : Type 0} (e : E) (config : PlainBatchConfig) (n : ℕ) → config.max_queue_size < 2 ^ 64 →
    config.max_export_batch_size ≤ config.max_queue_size → n < 2 ^ 64 → IsSound (counts (first_machine e config n))
first-sound e config n fits le many =
    let len : length (replicate n Idle) ≡ n = grind (arith, common_steps) in
    let count : sum_by slot_counts (replicate n Idle) ≡ 0 = sum_by-replicate slot_counts n Idle ∙ omega arith in
    let ask : sum_by slot_asks (replicate n Idle) ≡ 0 = sum_by-replicate slot_asks n Idle ∙ omega arith in
    record {
      counted = record { total = omega (arith, count) };
      asked = record { clear = λ f. omega (arith, ask); set = λ o f. cc; most = omega (arith, ask) };
      drain = record {
        target_fits = omega arith;
        done_fits = omega arith;
        on = λ f. cc;
        hand_empty = λ f. refl;
        hand_fits = omega arith;
        pulling = λ f. cc;
        handing = λ f. cc;
        subtracting_fits = omega arith;
      };
      awaited = record { each = λ p. sym (idle_waits n p); gone = refl; empty = λ f. cc };
      fits = record {
        queue_fits = fits;
        batch_fits = le;
        waiting_fits = omega arith;
        producers_fit = omega (arith, len, many);
        messages_fit = omega arith;
        dropped_fits = omega arith;
      };
    }
