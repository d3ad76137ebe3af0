use Rattle.std.proofs.Common.{arith, ◌≡◌, ◌∙◌, ℕ, ◌+◌, ◌<◌, ◌≤◌, ◌==◌, ◌∷◌, ◌++◌, [], true, false, sym, ap, subst, length, nat_le}
use Rattle.std.proofs.lemmas.Grind.{common_steps}
use Rattle.otel_export.specs.PlainSpanData.{is_sampled}
use Rattle.otel_export.specs.StoredBatches.{one_more}
use Rattle.otel_batch.specs.MachineState.{Machine, counts}
use Rattle.otel_batch.specs.SoundMachine.{IsSound}
use Rattle.otel_batch.specs.WorkedOff.{OffersSpan}
use Rattle.otel_batch.specs.declared.machine.state.Message.TheVariants.{Export}
use Rattle.otel_batch.proofs.StepLemmas.{offers_sound}
use Rattle.otel_batch.proofs.Putting.{puts_asked, puts_closed, puts_crowded, puts_full}
use Rattle.otel_batch.proofs.Putting.{puts_posted, puts_quietly, puts_unsampled, taken}
use Rattle.otel_batch.proofs.machine.batch_machine.BatchMachine.put.Goals as goal

-- what tests of numbers say
below : (a b : ℕ) → b < a → nat_le a b ≡ false
below a b h = grind (arith, common_steps)

reached : (a b : ℕ) → a ≤ b → nat_le a b ≡ true
reached a b h = grind (arith, common_steps)

filled : (places n : ℕ) → places ≤ n → n ≤ 64 → places ≡ 64 → (n == 64) ≡ true
filled places n least most e = grind (arith, common_steps)

pub returns-then-not-is_sampled : goal.returns-then-not-is_sampled
returns-then-not-is_sampled g c =
    let no : is_sampled c.args.span ≡ false = sym c.is_sampled.ensures ∙ c.if-not-is_sampled.true in
    puts_unsampled g.E.SpanExporter c.args.self.now c.args.span c.requires c.is_sound.ensures no

pub returns-then-self : goal.returns-then-self
returns-then-self g c =
    let sampled : is_sampled c.args.span ≡ true = sym c.is_sampled.ensures ∙ c.if-not-is_sampled.false in
    let closed : c.args.self.now.control.closed ≡ true = rw (← c.self.view_is) c.if-self.true in
    puts_closed g.E.SpanExporter c.args.self.now c.args.span c.requires c.is_sound.ensures sampled closed

-- the queue was full
refused : (g : _) (c : goal.After-self-1 g) → OffersSpan g.E.SpanExporter c.args.self.now c.args.span
    (record c.args.self.now {
      control = record c.args.self.now.control { dropped = one_more c.args.self.now.control.dropped };
    })
refused g c =
    let s = c.args.self.now in
    let sampled : is_sampled c.args.span ≡ true = sym c.is_sampled.ensures ∙ c.if-not-is_sampled.false in
    let opens : s.control.closed ≡ false = rw (← c.self.view_is) c.if-self.false in
    let left = c.queue_span.ensures.full c.if-not-queue_span.true in
    let full' : length c.self.inside.waiting.items ≡ c.self.inside.waiting.capacity =
    omega (arith, left.0, c.self.invariant.sound.fits.waiting_fits) in
    let full : length s.waiting ≡ s.control.queue_size = rw (← c.self.view_is) full' in
    puts_full g.E.SpanExporter s c.args.span c.requires c.is_sound.ensures sampled opens full

pub invariant_of-self : goal.invariant_of-self
invariant_of-self g c =
    let same = ap (λ (m : Machine g.row.E.Denot). record m {
      control = record m.control { dropped = one_more m.control.dropped };
    }) c.self.view_is in
    rw ((c.queue_span.ensures.full c.if-not-queue_span.true).1, c.saturating_add-self-inside.ensures) (record {
      sound = subst (λ m. IsSound (counts m)) (sym same)
          (offers_sound g.E.SpanExporter c.args.self.now c.args.span _ (refused g c));
      room = c.self.invariant.room;
    })

pub returns-then-not-queue_span : goal.returns-then-not-queue_span
returns-then-not-queue_span g c =
    let same = ap (λ (m : Machine g.row.E.Denot). record m {
      control = record m.control { dropped = one_more m.control.dropped };
    }) c.self.view_is in
    rw ((c.queue_span.ensures.full c.if-not-queue_span.true).1, c.saturating_add-self-inside.ensures)
    (subst (λ t. OffersSpan g.E.SpanExporter c.args.self.now c.args.span t) (sym same) (refused g c))

-- the span was queued, and nothing is asked
queued : (g : _) (c : goal.Then-self-2 g) → OffersSpan g.E.SpanExporter c.args.self.now c.args.span
    (taken c.args.span c.args.self.now.control.flag c.args.self.now.control.messages c.args.self.now)
queued g c =
    let s = c.args.self.now in
    let sampled : is_sampled c.args.span ≡ true = sym c.is_sampled.ensures ∙ c.if-not-is_sampled.false in
    let opens : s.control.closed ≡ false = rw (← c.self.view_is) c.if-self.false in
    let took = c.queue_span.ensures.queued c.if-not-queue_span.false in
    let room : length s.waiting < s.control.queue_size = rw (← c.self.view_is) took.0 in
    let few' : nat_le c.self.inside.batch_size (c.self.inside.counter + 1) ≡ false = below _ _ c.if-self-2.true in
    let few : nat_le s.control.batch_size (s.control.counter + 1) ≡ false = rw (← c.self.view_is) few' in
    puts_quietly g.E.SpanExporter s c.args.span c.requires c.is_sound.ensures sampled few opens room

-- the span was queued, and it is asked already
queued_asked : (g : _) (c : goal.Then-self-3 g) → OffersSpan g.E.SpanExporter c.args.self.now c.args.span
    (taken c.args.span c.args.self.now.control.flag c.args.self.now.control.messages c.args.self.now)
queued_asked g c =
    let s = c.args.self.now in
    let sampled : is_sampled c.args.span ≡ true = sym c.is_sampled.ensures ∙ c.if-not-is_sampled.false in
    let opens : s.control.closed ≡ false = rw (← c.self.view_is) c.if-self.false in
    let took = c.queue_span.ensures.queued c.if-not-queue_span.false in
    let room : length s.waiting < s.control.queue_size = rw (← c.self.view_is) took.0 in
    let asked : s.control.flag ≡ true = rw (← c.self.view_is) c.if-self-3.true in
    let many' : nat_le c.self.inside.batch_size (c.self.inside.counter + 1) ≡ true = reached _ _ c.if-self-2.false in
    let many : nat_le s.control.batch_size (s.control.counter + 1) ≡ true = rw (← c.self.view_is) many' in
    puts_asked g.E.SpanExporter s c.args.span c.requires c.is_sound.ensures sampled many opens room asked

pub invariant_of-self-then-self-2 : goal.invariant_of-self-then-self-2
invariant_of-self-then-self-2 g c =
    let took = c.queue_span.ensures.queued c.if-not-queue_span.false in
    let same =
    ap (λ (m : Machine g.row.E.Denot). taken c.args.span m.control.flag m.control.messages m) c.self.view_is in
    rw took.1 (record {
      sound = subst (λ m. IsSound (counts m)) (sym same)
          (offers_sound g.E.SpanExporter c.args.self.now c.args.span _ (queued g c));
      room = c.self.invariant.room;
    })

pub returns-then-self-2 : goal.returns-then-self-2
returns-then-self-2 g c =
    let took = c.queue_span.ensures.queued c.if-not-queue_span.false in
    let same =
    ap (λ (m : Machine g.row.E.Denot). taken c.args.span m.control.flag m.control.messages m) c.self.view_is in
    rw took.1 (subst (λ t. OffersSpan g.E.SpanExporter c.args.self.now c.args.span t) (sym same) (queued g c))

pub invariant_of-self-then-self-3 : goal.invariant_of-self-then-self-3
invariant_of-self-then-self-3 g c =
    let took = c.queue_span.ensures.queued c.if-not-queue_span.false in
    let same =
    ap (λ (m : Machine g.row.E.Denot). taken c.args.span m.control.flag m.control.messages m) c.self.view_is in
    rw took.1 (record {
      sound = subst (λ m. IsSound (counts m)) (sym same)
          (offers_sound g.E.SpanExporter c.args.self.now c.args.span _ (queued_asked g c));
      room = c.self.invariant.room;
    })

pub returns-then-self-3 : goal.returns-then-self-3
returns-then-self-3 g c =
    let took = c.queue_span.ensures.queued c.if-not-queue_span.false in
    let same =
    ap (λ (m : Machine g.row.E.Denot). taken c.args.span m.control.flag m.control.messages m) c.self.view_is in
    rw took.1 (subst (λ t. OffersSpan g.E.SpanExporter c.args.self.now c.args.span t) (sym same) (queued_asked g c))

-- the wish to export was posted
posted : (g : _) (c : goal.After-self-then-post_message-1 g) → OffersSpan g.E.SpanExporter c.args.self.now c.args.span
    (taken c.args.span true (c.args.self.now.control.messages ++ Export ∷ []) c.args.self.now)
posted g c =
    let s = c.args.self.now in
    let sampled : is_sampled c.args.span ≡ true = sym c.is_sampled.ensures ∙ c.if-not-is_sampled.false in
    let opens : s.control.closed ≡ false = rw (← c.self.view_is) c.if-self.false in
    let took = c.queue_span.ensures.queued c.if-not-queue_span.false in
    let room : length s.waiting < s.control.queue_size = rw (← c.self.view_is) took.0 in
    let clear : s.control.flag ≡ false = rw (← c.self.view_is) c.if-self-3.false in
    let many' : nat_le c.self.inside.batch_size (c.self.inside.counter + 1) ≡ true = reached _ _ c.if-self-2.false in
    let many : nat_le s.control.batch_size (s.control.counter + 1) ≡ true = rw (← c.self.view_is) many' in
    let places' : length c.self.inside.messages.items < 64 =
    rw c.self.invariant.room.control at (c.post_message.ensures.posted c.if-post_message.true).0 in
    let places : length s.control.messages < 64 = rw (← c.self.view_is) places' in
    puts_posted g.E.SpanExporter s c.args.span c.requires c.is_sound.ensures sampled many opens room clear places

pub invariant_of-self-then-post_message : goal.invariant_of-self-then-post_message
invariant_of-self-then-post_message g c =
    let took = c.queue_span.ensures.queued c.if-not-queue_span.false in
    let same =
    ap (λ (m : Machine g.row.E.Denot). taken c.args.span true (m.control.messages ++ Export ∷ []) m) c.self.view_is in
    rw (took.1, (c.post_message.ensures.posted c.if-post_message.true).1) (record {
      sound = subst (λ m. IsSound (counts m)) (sym same)
          (offers_sound g.E.SpanExporter c.args.self.now c.args.span _ (posted g c));
      room = c.self.invariant.room;
    })

pub returns-then-post_message : goal.returns-then-post_message
returns-then-post_message g c =
    let took = c.queue_span.ensures.queued c.if-not-queue_span.false in
    let same =
    ap (λ (m : Machine g.row.E.Denot). taken c.args.span true (m.control.messages ++ Export ∷ []) m) c.self.view_is in
    rw (took.1, (c.post_message.ensures.posted c.if-post_message.true).1)
    (subst (λ t. OffersSpan g.E.SpanExporter c.args.self.now c.args.span t) (sym same) (posted g c))

-- the control queue had no room for it
crowded : (g : _) (c : goal.Else-post_message g) → OffersSpan g.E.SpanExporter c.args.self.now c.args.span
    (taken c.args.span false c.args.self.now.control.messages c.args.self.now)
crowded g c =
    let s = c.args.self.now in
    let sampled : is_sampled c.args.span ≡ true = sym c.is_sampled.ensures ∙ c.if-not-is_sampled.false in
    let opens : s.control.closed ≡ false = rw (← c.self.view_is) c.if-self.false in
    let took = c.queue_span.ensures.queued c.if-not-queue_span.false in
    let room : length s.waiting < s.control.queue_size = rw (← c.self.view_is) took.0 in
    let clear : s.control.flag ≡ false = rw (← c.self.view_is) c.if-self-3.false in
    let many' : nat_le c.self.inside.batch_size (c.self.inside.counter + 1) ≡ true = reached _ _ c.if-self-2.false in
    let many : nat_le s.control.batch_size (s.control.counter + 1) ≡ true = rw (← c.self.view_is) many' in
    let full' : (length c.self.inside.messages.items == 64) ≡ true =
    filled _ _ (c.post_message.ensures.full c.if-post_message.false).0
    c.self.invariant.sound.fits.messages_fit c.self.invariant.room.control in
    let full : (length s.control.messages == 64) ≡ true = rw (← c.self.view_is) full' in
    puts_crowded g.E.SpanExporter s c.args.span c.requires c.is_sound.ensures sampled many opens room clear full

pub invariant_of-self-else-post_message : goal.invariant_of-self-else-post_message
invariant_of-self-else-post_message g c =
    let took = c.queue_span.ensures.queued c.if-not-queue_span.false in
    let same = ap (λ (m : Machine g.row.E.Denot). taken c.args.span false m.control.messages m) c.self.view_is in
    rw (took.1, (c.post_message.ensures.full c.if-post_message.false).1, c.if-self-3.false) (record {
      sound = subst (λ m. IsSound (counts m)) (sym same)
          (offers_sound g.E.SpanExporter c.args.self.now c.args.span _ (crowded g c));
      room = c.self.invariant.room;
    })

pub returns-else-post_message : goal.returns-else-post_message
returns-else-post_message g c =
    let took = c.queue_span.ensures.queued c.if-not-queue_span.false in
    let same = ap (λ (m : Machine g.row.E.Denot). taken c.args.span false m.control.messages m) c.self.view_is in
    rw (took.1, (c.post_message.ensures.full c.if-post_message.false).1, c.if-self-3.false)
    (subst (λ t. OffersSpan g.E.SpanExporter c.args.self.now c.args.span t) (sym same) (crowded g c))
