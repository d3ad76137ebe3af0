use Rattle.std.proofs.Common.{◌≡◌, ◌∷◌, ◌∙◌, ap, sym, refl, Some, drop, slice_get}
use Rattle.std.proofs.lemmas.Option.{slice_get_within}
use Rattle.otel_batch.specs.declared.machine.state.Slot.TheVariants.{Waiting}
use Rattle.otel_batch.specs.declared.machine.state.Message.TheVariants.{Export, Flush, Shutdown, Resource}
use Rattle.otel_batch.proofs.SlotSums.{message_flush, message_shutdown, others_flush, others_shutdown}
use Rattle.otel_batch.proofs.Dropping.{Dropping, dropping_waits, dropping_one, dropping_other, first_and_rest}
use Rattle.otel_batch.proofs.machine.slots.drop_requests.Goals as goal
use Rattle.otel_batch.proofs.machine.slots.drop_requests.Goals.{in-Flush, in-Shutdown, in-Export, in-Resource}

pub set_slot-requires : goal.set_slot-requires
set_slot-requires c =
    let got : slice_get c.loop-message.messages.items 0 ≡ Some (Flush c.in-Flush.p) = cc (c.in-Flush.is, c.in-Some.is, c.pop_front.ensures.value) in
    let rest : c.pop_front.new.self.items ≡ drop 1 c.loop-message.messages.items = ap (λ b. b.items) c.pop_front.ensures.items in
    let whole : c.loop-message.messages.items ≡ Flush c.in-Flush.p ∷ c.pop_front.new.self.items = first_and_rest c.loop-message.messages.items (Flush c.in-Flush.p) got ∙ ap (λ r. Flush c.in-Flush.p ∷ r) (sym rest) in
    let here : Dropping c.args.messages.now.items (Flush c.in-Flush.p ∷ c.pop_front.new.self.items) c.args.slots.now.items c.loop-message.slots.items = rw whole at c.loop-message.invariant.dropping in
    let w = dropping_waits _ _ _ _ _ c.in-Flush.p (message_flush c.in-Flush.p) here in
    slice_get_within c.loop-message.slots.items c.in-Flush.p (Waiting w.0) w.1

pub set_slot-requires-in-Shutdown : goal.set_slot-requires-in-Shutdown
set_slot-requires-in-Shutdown c =
    let got : slice_get c.loop-message.messages.items 0 ≡ Some (Shutdown c.in-Shutdown.p) = cc (c.in-Shutdown.is, c.in-Some.is, c.pop_front.ensures.value) in
    let rest : c.pop_front.new.self.items ≡ drop 1 c.loop-message.messages.items = ap (λ b. b.items) c.pop_front.ensures.items in
    let whole : c.loop-message.messages.items ≡ Shutdown c.in-Shutdown.p ∷ c.pop_front.new.self.items = first_and_rest c.loop-message.messages.items (Shutdown c.in-Shutdown.p) got ∙ ap (λ r. Shutdown c.in-Shutdown.p ∷ r) (sym rest) in
    let here : Dropping c.args.messages.now.items (Shutdown c.in-Shutdown.p ∷ c.pop_front.new.self.items) c.args.slots.now.items c.loop-message.slots.items = rw whole at c.loop-message.invariant.dropping in
    let w = dropping_waits _ _ _ _ _ c.in-Shutdown.p (message_shutdown c.in-Shutdown.p) here in
    slice_get_within c.loop-message.slots.items c.in-Shutdown.p (Waiting w.0) w.1

pub loop-message-preserved : goal.loop-message-preserved
loop-message-preserved c = elim c.match-message.branch [
  | in-Flush w ↦
      let got : slice_get c.loop-message.messages.items 0 ≡ Some (Flush w.in-Flush.p) = cc (w.in-Flush.is, c.in-Some.is, c.pop_front.ensures.value) in
      let rest : c.pop_front.new.self.items ≡ drop 1 c.loop-message.messages.items = ap (λ b. b.items) c.pop_front.ensures.items in
      let whole : c.loop-message.messages.items ≡ Flush w.in-Flush.p ∷ c.pop_front.new.self.items = first_and_rest c.loop-message.messages.items (Flush w.in-Flush.p) got ∙ ap (λ r. Flush w.in-Flush.p ∷ r) (sym rest) in
      let here : Dropping c.args.messages.now.items (Flush w.in-Flush.p ∷ c.pop_front.new.self.items) c.args.slots.now.items c.loop-message.slots.items = rw whole at c.loop-message.invariant.dropping in
      rw (w.slots-is, w.set_slot.ensures) (record {
        dropping = dropping_one _ _ _ _ _ w.in-Flush.p w.dropped_by_shutdown.result (message_flush w.in-Flush.p) (others_flush w.in-Flush.p) w.dropped_by_shutdown.ensures here;
        capacity = ap (λ b. b.capacity) c.pop_front.ensures.items ∙ c.loop-message.invariant.capacity;
      })
  | in-Shutdown w ↦
      let got : slice_get c.loop-message.messages.items 0 ≡ Some (Shutdown w.in-Shutdown.p) = cc (w.in-Shutdown.is, c.in-Some.is, c.pop_front.ensures.value) in
      let rest : c.pop_front.new.self.items ≡ drop 1 c.loop-message.messages.items = ap (λ b. b.items) c.pop_front.ensures.items in
      let whole : c.loop-message.messages.items ≡ Shutdown w.in-Shutdown.p ∷ c.pop_front.new.self.items = first_and_rest c.loop-message.messages.items (Shutdown w.in-Shutdown.p) got ∙ ap (λ r. Shutdown w.in-Shutdown.p ∷ r) (sym rest) in
      let here : Dropping c.args.messages.now.items (Shutdown w.in-Shutdown.p ∷ c.pop_front.new.self.items) c.args.slots.now.items c.loop-message.slots.items = rw whole at c.loop-message.invariant.dropping in
      rw (w.slots-is, w.set_slot-in-Shutdown.ensures) (record {
        dropping = dropping_one _ _ _ _ _ w.in-Shutdown.p w.dropped_by_shutdown-in-Shutdown.result (message_shutdown w.in-Shutdown.p) (others_shutdown w.in-Shutdown.p) w.dropped_by_shutdown-in-Shutdown.ensures here;
        capacity = ap (λ b. b.capacity) c.pop_front.ensures.items ∙ c.loop-message.invariant.capacity;
      })
  | in-Export w ↦
      let got : slice_get c.loop-message.messages.items 0 ≡ Some (Export) = cc (w.in-Export.is, c.in-Some.is, c.pop_front.ensures.value) in
      let rest : c.pop_front.new.self.items ≡ drop 1 c.loop-message.messages.items = ap (λ b. b.items) c.pop_front.ensures.items in
      let whole : c.loop-message.messages.items ≡ Export ∷ c.pop_front.new.self.items = first_and_rest c.loop-message.messages.items (Export) got ∙ ap (λ r. Export ∷ r) (sym rest) in
      let here : Dropping c.args.messages.now.items (Export ∷ c.pop_front.new.self.items) c.args.slots.now.items c.loop-message.slots.items = rw whole at c.loop-message.invariant.dropping in
      rw w.slots-is (record {
        dropping = dropping_other _ _ _ _ _ (λ p. refl) here;
        capacity = ap (λ b. b.capacity) c.pop_front.ensures.items ∙ c.loop-message.invariant.capacity;
      })
  | in-Resource w ↦
      let got : slice_get c.loop-message.messages.items 0 ≡ Some (Resource w.in-Resource.field-0) = cc (w.in-Resource.is, c.in-Some.is, c.pop_front.ensures.value) in
      let rest : c.pop_front.new.self.items ≡ drop 1 c.loop-message.messages.items = ap (λ b. b.items) c.pop_front.ensures.items in
      let whole : c.loop-message.messages.items ≡ Resource w.in-Resource.field-0 ∷ c.pop_front.new.self.items = first_and_rest c.loop-message.messages.items (Resource w.in-Resource.field-0) got ∙ ap (λ r. Resource w.in-Resource.field-0 ∷ r) (sym rest) in
      let here : Dropping c.args.messages.now.items (Resource w.in-Resource.field-0 ∷ c.pop_front.new.self.items) c.args.slots.now.items c.loop-message.slots.items = rw whole at c.loop-message.invariant.dropping in
      rw w.slots-is (record {
        dropping = dropping_other _ _ _ _ _ (λ p. refl) here;
        capacity = ap (λ b. b.capacity) c.pop_front.ensures.items ∙ c.loop-message.invariant.capacity;
      })
]
