-- What an eager end leaves of the queue, from what its parts leave: the exports of full batches, and the offer.
use Rattle.std.proofs.Common.{◌≡◌, ◌⊎◌, ◌∙◌, inl, inr, refl, ap, sym, ℕ, ◌<◌, ◌≤◌, ◌&&◌, ◌||◌, ◌==◌, not, Bool, true, false, List, [], ◌∷◌, ◌++◌, Option, Some, None, Ok, length, append_assoc, if◌then◌else◌, arith}
use Rattle.std.proofs.lemmas.Bool.Decides.{eqb_tells, leb_tells}
use Rattle.std.specs.declared.alloc.AllocError.{AllocError}
use Rattle.otel_export.specs.PlainSpanData.{PlainSpanData, is_sampled}
use Rattle.otel_export.specs.Telling.{Tells}
use Rattle.otel_pipeline.specs.ProcessorTelling.{DropsOne, HandsOver, HearsOne, ProcessorTelling, TakesNothing, TakesSpan, spans_told}
use Rattle.otel_batch.specs.MachineState.{Control, Machine, counts}
use Rattle.otel_batch.specs.SoundMachine.{IsSound}
use Rattle.otel_batch.specs.MachineRun.{IsStep}
use Rattle.otel_batch.specs.MovedSpans.{Keeps}
use Rattle.otel_batch.specs.Drains.{has_full_batch, largest_batch}
use Rattle.otel_batch.specs.declared.machine.step.Outcome.{Outcome}
use Rattle.otel_batch.specs.declared.machine.step.Outcome.TheVariants as outcome
use Rattle.otel_batch.specs.declared.machine.step.Step.TheVariants as step
use Rattle.otel_export.specs.declared.trace.export.SpanExporter.{Ghosts}
use Rattle.otel_batch.specs.WorkedOff.{OffersSpan, WorksOff, next_of_producer, next_of_worker}
use Rattle.otel_processors.specs.EagerExports.{LeavesAtRest}
use Rattle.otel_processors.specs.QueueRequests.{IsAtRest, queue_telling}
use Rattle.otel_processors.proofs.TakenSpanLemmas.{counts_one, heard_last, takes_none}
use Rattle.otel_processors.proofs.Ending.{EndsIdle, ends_idle}
use Rattle.otel_processors.proofs.Fewer.{KeepsSizes, TakesOff, goes_keep_sizes, goes_take_off, sizes_then, step_keeps_sizes}

-- one telling after another
tells_then : {X : Type 0} (a b c : Option (List X)) (xs ys : List X) → Tells a xs b → Tells b ys c →
    Tells a (xs ++ ys) c
tells_then a b None xs ys h g = tt
tells_then a None (Some c) xs ys h g = absurd (let no : None ≡ Some c = g in cc)
tells_then None (Some b) (Some c) xs ys h g = absurd (let no : None ≡ Some b = h in cc)
tells_then (Some a) (Some b) (Some c) xs ys h g =
    let is : a ++ xs ≡ b = let some : Some (a ++ xs) ≡ Some b = h in cc in
    ap (λ l. Some l) (sym (append_assoc a xs ys) ∙ ap (λ l. l ++ ys) is) ∙ g

takes_none_then : (a b c : ProcessorTelling) → TakesNothing a b → TakesNothing b c → TakesNothing a c
takes_none_then a b c first rest = record {
  spans = rest.spans ∙ first.spans;
  heard = tells_then a.heard b.heard c.heard [] [] first.heard rest.heard;
  dropped = rest.dropped ∙ first.dropped;
  takes_all = rest.takes_all ∙ first.takes_all;
  never_reopens = λ h. first.never_reopens (rest.never_reopens h);
}

-- the largest batch fits the queue, and where sizes stay so does it
largest_within : (queue batch : ℕ) → batch ≤ queue → (if batch == 0 then queue else batch) ≤ queue
largest_within queue batch fits = elim (eqb_tells batch 0) [
  | inl none ↦ rw none.0 (omega arith)
  | inr some ↦ rw some.0 fits
]

pub same_largest : (s t : Control) → KeepsSizes s t → largest_batch t ≡ largest_batch s
same_largest s t sizes = rw (sizes.queue_size, sizes.batch_size) refl

pub or_false : (b : Bool) → (b || false) ≡ b
or_false true = refl
or_false false = refl

-- fewer spans wait than a batch has, so the queue has room
pub has_room : {E : Type 0} (m : Machine E) → IsSound (counts m) → has_full_batch m ≡ false →
    length m.waiting < m.control.queue_size
has_room m sound room =
    let fits = largest_within m.control.queue_size m.control.batch_size sound.fits.batch_fits in
    elim (leb_tells (largest_batch m.control) (length m.waiting)) [
      | inl full ↦ absurd (let yes = full.0 in cc)
      | inr below ↦ let less = below.1 in omega (arith, fits, less)
    ]

-- none waits, so no batch is full
pub none_full : {E : Type 0} (m : Machine E) → 0 < largest_batch m.control → length m.waiting ≡ 0 →
    has_full_batch m ≡ false
none_full m some none = elim (leb_tells (largest_batch m.control) (length m.waiting)) [
  | inl full ↦ absurd (let most = full.1 in omega (arith, some, none, most))
  | inr below ↦ below.0
]

module _ {E : Type 0} (calls : Ghosts E) where
  pub leaves_same : (s : Machine E) → IsAtRest s → LeavesAtRest calls s s
  leaves_same s rest = record {
    told = takes_none (queue_telling calls s);
    fewer = omega arith;
    quiet = λ _. refl;
    queue_size = refl;
    batch_size = refl;
    closed = refl;
    rest = rest;
  }

  pub leaves_then : (s m t : Machine E) → LeavesAtRest calls s m → LeavesAtRest calls m t → LeavesAtRest calls s t
  leaves_then s m t first rest =
      let a = first.fewer in
      let b = rest.fewer in
      record {
        told = takes_none_then (queue_telling calls s) (queue_telling calls m) (queue_telling calls t) first.told
            rest.told;
        fewer = omega (arith, a, b);
        quiet = λ e. rest.quiet (omega (arith, a, b, e)) ∙ first.quiet (omega (arith, a, b, e));
        queue_size = rest.queue_size ∙ first.queue_size;
        batch_size = rest.batch_size ∙ first.batch_size;
        closed = rest.closed ∙ first.closed;
        rest = rest.rest;
      }

  pub sizes_left : (s t : Machine E) → LeavesAtRest calls s t → KeepsSizes s.control t.control
  sizes_left s t leaves = record { queue_size = leaves.queue_size; batch_size = leaves.batch_size }

  pub largest_left : (s t : Machine E) → LeavesAtRest calls s t → 0 < largest_batch s.control → 0 < largest_batch t.control
  largest_left s t leaves some = rw (same_largest s.control t.control (sizes_left s t leaves)) some

  -- what a run of the worker took off, where there is nothing in its hand before and after it
  leaves_by : (s t : Machine E) → TakesOff calls s t → KeepsSizes s.control t.control → s.hand ≡ [] → IsAtRest t →
      TakesNothing (queue_telling calls s) (queue_telling calls t) → t.control.closed ≡ s.control.closed →
      LeavesAtRest calls s t
  leaves_by s t takes sizes empty rest told closed =
      let before : length s.hand ≡ 0 = ap length empty in
      let after : length t.hand ≡ 0 = ap length rest.hand in
      let fewer = takes.fewer in
      record {
        told = told;
        fewer = omega (arith, before, after, fewer);
        quiet = λ e. same_heard (takes.quiet (omega (arith, before, after, e)));
        queue_size = sizes.queue_size;
        batch_size = sizes.batch_size;
        closed = closed;
        rest = rest;
      }
    where
      same_heard : (calls.told t.exporter ≡ calls.told s.exporter) × (t.hand ++ t.waiting ≡ s.hand ++ s.waiting) →
          (queue_telling calls t).heard ≡ (queue_telling calls s).heard
      same_heard h =
          let waiting : t.waiting ≡ s.waiting =
          ap (λ l. l ++ t.waiting) (sym rest.hand) ∙ h.1 ∙ ap (λ l. l ++ s.waiting) empty in
          rw (h.0, waiting) refl

  pub works_leave : (s : Machine E) (os : List Outcome) (t : Machine E) → IsSound (counts s) → IsAtRest s →
      WorksOff calls next_of_worker s os t → IsAtRest t →
      TakesNothing (queue_telling calls s) (queue_telling calls t) → t.control.closed ≡ s.control.closed →
      LeavesAtRest calls s t
  works_leave s os t sound rest works after told closed =
      leaves_by s t (goes_take_off calls s works.steps os t sound works.goes)
      (goes_keep_sizes calls next_of_worker s works.steps os t works.goes) rest.hand after told closed

  pub ticks_leave : (s m : Machine E) (os : List Outcome) (t : Machine E) → IsAtRest s →
      IsStep calls s step.Tick outcome.Ticked m → WorksOff calls next_of_worker m os t → IsAtRest t →
      TakesNothing (queue_telling calls s) (queue_telling calls t) → t.control.closed ≡ s.control.closed →
      LeavesAtRest calls s t
  ticks_leave s m os t rest ticks works after told closed =
      let moved : Keeps s m = ticks.moved in
      let took = goes_take_off calls m works.steps os t ticks.sound works.goes in
      let sizes = sizes_then s.control m.control t.control
      (step_keeps_sizes calls s step.Tick outcome.Ticked m ticks.permitted)
      (goes_keep_sizes calls next_of_worker m works.steps os t works.goes) in
      let hand : length m.hand ≡ length s.hand = ap length moved.hand in
      let waiting : length m.waiting ≡ length s.waiting = ap length moved.waiting in
      let fewer = took.fewer in
      let takes : TakesOff calls s t = record {
        fewer = omega (arith, hand, waiting, fewer);
        quiet = λ e.
            let same = took.quiet (omega (arith, hand, waiting, e)) in
            (same.0 ∙ ap calls.told moved.exporter, same.1 ∙ rw (moved.hand, moved.waiting) refl);
      } in
      leaves_by s t takes sizes rest.hand after told closed

  -- what an offer leaves
  pub offer_ends : (s : Machine E) (span : PlainSpanData) (t : Machine E) → IsAtRest s → OffersSpan calls s span t →
      EndsIdle s span t
  offer_ends s span t rest h =
      let offers : IsStep calls s (step.Offer 0 span) h.offered h.holding = rw h.offers.2 h.offers.1 in
      ends_idle calls s h.holding t span h.offered h.works.steps h.outcomes rest.slots offers h.works.goes h.works.over

  pub offer_sizes : (s : Machine E) (span : PlainSpanData) (t : Machine E) → OffersSpan calls s span t →
      KeepsSizes s.control t.control
  offer_sizes s span t h =
      let offers : IsStep calls s (step.Offer 0 span) h.offered h.holding = rw h.offers.2 h.offers.1 in
      sizes_then s.control h.holding.control t.control
      (step_keeps_sizes calls s (step.Offer 0 span) h.offered h.holding offers.permitted)
      (goes_keep_sizes calls next_of_producer h.holding h.works.steps h.outcomes t h.works.goes)

  -- a span that finds room is not dropped
  pub room_drops_none : (m q : Machine E) (span : PlainSpanData) → is_sampled span ≡ true → m.control.closed ≡ false →
      EndsIdle m span q → length m.waiting < m.control.queue_size → q.control.dropped ≡ m.control.dropped
  room_drops_none m q span sampled runs ends room = elim (ends.goes_open runs sampled) [
    | inl last ↦ last.dropped
    | inr full ↦ absurd (let is = full.full in omega (arith, room, is))
  ]

  -- an end at an eager queue, by the export before it, the offer, and what follows. Where the offer found the queue full
  -- nothing more was heard after it
  pub eager_told : (p m q t : Machine E) (span : PlainSpanData) → is_sampled span ≡ true → p.control.closed ≡ false →
      IsSound (counts p) → LeavesAtRest calls p m → EndsIdle m span q →
      TakesNothing (queue_telling calls q) (queue_telling calls t) → t.control.closed ≡ q.control.closed →
      (length m.waiting ≡ m.control.queue_size → (queue_telling calls t).heard ≡ (queue_telling calls q).heard) →
      TakesSpan {E = AllocError} (queue_telling calls p) span (Ok (tt {0})) (queue_telling calls t)
  eager_told p m q t span sampled runs sound leaves ends told closed quiet = record {
    spans = tt;
    handed = where_due p.control.closed (is_sampled span) runs sampled handed;
    not_refused = λ _. refl;
    takes_all = refl;
    is_open = ap not (closed ∙ (ends.leaves.closed ∙ leaves.closed));
  }
    where
      where_due : (shut due : Bool) → shut ≡ false → due ≡ true →
          (HearsOne (queue_telling calls p) span (queue_telling calls t) ⊎ DropsOne (queue_telling calls p) (queue_telling calls t)) →
          HandsOver {E = AllocError} (not shut && due) (queue_telling calls p) span (Ok (tt {0})) (queue_telling calls t)
      where_due false true s d h = h
      where_due true due s d h = absurd (cc)
      where_due false false s d h = absurd (cc)

      heard_now : q.waiting ≡ m.waiting ++ span ∷ [] →
          Tells (queue_telling calls m).heard (span ∷ []) (queue_telling calls q).heard
      heard_now waiting =
          rw (ends.leaves.exporter, waiting) (heard_last calls (spans_told (calls.told m.exporter)) m.waiting span)

      handed : HearsOne (queue_telling calls p) span (queue_telling calls t) ⊎ DropsOne (queue_telling calls p) (queue_telling calls t)
      handed = elim (ends.goes_open (leaves.closed ∙ runs) sampled) [
        | inl last ↦ inl (record {
          heard = tells_then (queue_telling calls p).heard (queue_telling calls m).heard (queue_telling calls t).heard []
              (span ∷ []) leaves.told.heard
              (tells_then (queue_telling calls m).heard (queue_telling calls q).heard (queue_telling calls t).heard
              (span ∷ []) [] (heard_now last.waiting) told.heard);
          dropped = told.dropped ∙ (last.dropped ∙ leaves.told.dropped);
        })
        | inr full ↦
            let is = full.full in
            let fits = sound.fits.waiting_fits in
            let fewer = leaves.fewer in
            let same = leaves.queue_size in
            let before : m.control.dropped ≡ p.control.dropped = leaves.told.dropped in
            inr (record {
              heard = quiet is
                  ∙ (let same : (queue_telling calls q).heard ≡ (queue_telling calls m).heard =
                  rw (ends.leaves.exporter, full.waiting) refl in same)
                  ∙ leaves.quiet (omega (arith, is, fits, fewer, same));
              dropped = rw (told.dropped, full.dropped, before) (counts_one calls p.control.dropped sound.fits.dropped_fits);
            })
      ]
