-- Requests of one kind: where nobody has asked for one, the worker's steps lead to none.
use Rattle.std.proofs.Common.{◌≡◌, ◌∙◌, inl, inr, refl, ap, ℕ, ◌+◌, ◌<◌, ◌==◌, Bool, true, false, List, [], ◌∷◌, Option, Some, drop, slice_get, sum_by, nat_lt, if◌then◌else◌, arith}
use Rattle.std.proofs.lemmas.Bool.Decides.{eqb_tells}
use Rattle.std.proofs.lemmas.List.Sums.{sum_by-cons}
use Rattle.otel_resource.specs.Resource.{PlainResource}
use Rattle.otel_export.specs.declared.error.OTelSdkError.{OTelSdkError}
use Rattle.otel_batch.specs.Messages.{is_resource, message_names}
use Rattle.otel_batch.specs.MachineState.{Machine, Counts, counts, limit_of, put_slot}
use Rattle.otel_batch.specs.WorkerSteps.{TakeRow, ClearRow, LoadRow, PullRow, HandOverRow, SubtractRow}
use Rattle.otel_batch.specs.DrainEnds.{FinishRow, FinishRowFor, CloseRow, end_of_drain}
use Rattle.otel_batch.specs.PermittedStep.{IsPermitted}
use Rattle.otel_batch.specs.GoingOn.{next_step}
use Rattle.otel_batch.specs.declared.machine.state.Message.{Message}
use Rattle.otel_batch.specs.declared.machine.state.Message.TheVariants as message
use Rattle.otel_batch.specs.declared.machine.state.Slot.TheVariants as slot
use Rattle.otel_export.specs.declared.error.OTelSdkError.TheVariants.{OutOfMemory}
use Rattle.std.specs.Prelude.{Err}
use Rattle.otel_batch.specs.declared.machine.state.Worker.{Worker}
use Rattle.otel_batch.specs.declared.machine.state.Worker.TheVariants as worker
use Rattle.otel_batch.specs.declared.machine.state.Why.{Why}
use Rattle.otel_batch.specs.declared.machine.state.Why.TheVariants as why
use Rattle.otel_batch.specs.declared.machine.step.Outcome.{Outcome}
use Rattle.otel_batch.specs.declared.machine.step.Outcome.TheVariants as outcome
use Rattle.otel_batch.specs.declared.machine.step.Step.{Step}
use Rattle.otel_export.specs.declared.trace.export.SpanExporter.{Ghosts}
use Rattle.otel_batch.proofs.Dropping.{first_and_rest}
use Rattle.otel_batch.specs.WorkedOff.{GoesBy, next_of_worker}
use Rattle.otel_processors.proofs.Worker.{has_next, next_permitted}

-- how many requests of a kind a message is, and a drain is for
pub record Kind : Type 0 where
  pub of_message : Message → ℕ
  pub of_why : Why → ℕ
  -- how many a worker is at that closes
  pub of_closing : ℕ
  pub flush : (p : ℕ) → of_why (why.Flush p) ≡ of_message (message.Flush p)
  pub shutdown : (p : ℕ) → of_why (why.Shutdown p) ≡ of_message (message.Shutdown p)
  pub closing : (p : ℕ) → of_why (why.Shutdown p) ≡ of_closing
  pub asked : of_why why.Asked ≡ 0
  pub timer : of_why why.Timer ≡ 0
  pub wish : of_message message.Export ≡ 0
  pub resource : (r : PlainResource) → of_message (message.Resource r) ≡ 0

abbrev message_shuts : Message → ℕ
message_shuts (message.Shutdown p) = 1
message_shuts _ = 0

abbrev why_shuts : Why → ℕ
why_shuts (why.Shutdown p) = 1
why_shuts _ = 0

abbrev message_flushes : Message → ℕ
message_flushes (message.Flush p) = 1
message_flushes _ = 0

abbrev why_flushes : Why → ℕ
why_flushes (why.Flush p) = 1
why_flushes _ = 0

-- shutdowns, and flushes
abbrev pub shutting : Kind
shutting = record {
  of_message = message_shuts;
  of_why = why_shuts;
  of_closing = 1;
  flush = λ p. refl;
  shutdown = λ p. refl;
  closing = λ p. refl;
  asked = refl;
  timer = refl;
  wish = refl;
  resource = λ r. refl;
}

abbrev pub flushing : Kind
flushing = record {
  of_message = message_flushes;
  of_why = why_flushes;
  of_closing = 0;
  flush = λ p. refl;
  shutdown = λ p. refl;
  closing = λ p. refl;
  asked = refl;
  timer = refl;
  wish = refl;
  resource = λ r. refl;
}

module _ (kind : Kind) where
  -- how many the worker is at, whose drain has this reason
  abbrev pub of_worker : Why → Worker → ℕ
  of_worker reason (worker.Loading next) = kind.of_why next
  of_worker reason worker.Pulling = kind.of_why reason
  of_worker reason worker.Handing = kind.of_why reason
  of_worker reason (worker.Subtracting k) = kind.of_why reason
  of_worker reason worker.Finishing = kind.of_why reason
  of_worker reason (worker.Closing p) = kind.of_closing
  of_worker reason _ = 0

  -- how many there are in the control queue and at the worker
  abbrev pub requests_in : Counts → ℕ
  requests_in s = sum_by kind.of_message s.control.messages + of_worker s.control.why s.control.worker

  -- there is none, and where a close would be one the queue is open or closed as before
  pub record NoneAsked (s t : Counts) : Type 0 where
    pub none : requests_in t ≡ 0
    pub closed : 0 < kind.of_closing → t.control.closed ≡ s.control.closed

  by_parts : (s t : Counts) → sum_by kind.of_message t.control.messages ≡ 0 →
      of_worker t.control.why t.control.worker ≡ 0 → t.control.closed ≡ s.control.closed → NoneAsked s t
  by_parts s t messages worker closed = record { none = omega (arith, messages, worker); closed = λ _. closed }

  same_state : (s t : Counts) → requests_in s ≡ 0 → t ≡ s → NoneAsked s t
  same_state s t none e = rw e (record { none = none; closed = λ _. refl })

  -- the first of the messages, and the others
  first_asks : (ms : List Message) (m : Message) → slice_get ms 0 ≡ Some m →
      sum_by kind.of_message ms ≡ kind.of_message m + sum_by kind.of_message (drop 1 ms)
  first_asks ms m e = ap (sum_by kind.of_message) (first_and_rest ms m e) ∙ sum_by-cons kind.of_message m (drop 1 ms)

  resource_asks : (ms : List Message) → is_resource (slice_get ms 0) ≡ true →
      sum_by kind.of_message ms ≡ sum_by kind.of_message (drop 1 ms)
  resource_asks ms e = found (slice_get ms 0) refl
    where
      found : (o : Option Message) → slice_get ms 0 ≡ o →
          sum_by kind.of_message ms ≡ sum_by kind.of_message (drop 1 ms)
      found (Some (message.Resource r)) at =
          let none = kind.resource r in omega (arith, first_asks ms (message.Resource r) at, none)
      found _ at = absurd (let none : is_resource (slice_get ms 0) ≡ false = rw at refl in cc)

  -- a request of any kind was taken
  took : (s t : Counts) (m : Message) (w : Worker) → requests_in s ≡ 0 → slice_get s.control.messages 0 ≡ Some m →
      t.control.messages ≡ drop 1 s.control.messages → t.control.worker ≡ w →
      of_worker t.control.why w ≡ kind.of_message m → t.control.closed ≡ s.control.closed → NoneAsked s t
  took s t m w n at messages is asks closed =
      let first = first_asks s.control.messages m at in
      by_parts s t (rw messages (omega (arith, n, first))) (rw is (omega (arith, n, first, asks))) closed

  take_none : (s : Counts) (o : Outcome) (t : Counts) → requests_in s ≡ 0 → TakeRow s o t → NoneAsked s t
  take_none s outcome.Nothing t n row = same_state s t n row.2
  take_none s outcome.NotEnabled t n row = same_state s t n row.1
  take_none s outcome.TookExport t n row =
      took s t message.Export worker.Clearing n row.1 (ap (λ c. c.control.messages) row.2)
      (ap (λ c. c.control.worker) row.2) (let none = kind.wish in omega (arith, none))
      (ap (λ c. c.control.closed) row.2)
  take_none s (outcome.TookFlush p) t n row =
      took s t (message.Flush p) (worker.Loading (why.Flush p)) n row.1 (ap (λ c. c.control.messages) row.2)
      (ap (λ c. c.control.worker) row.2) (kind.flush p) (ap (λ c. c.control.closed) row.2)
  take_none s (outcome.TookShutdown p) t n row =
      took s t (message.Shutdown p) (worker.Loading (why.Shutdown p)) n row.1 (ap (λ c. c.control.messages) row.2)
      (ap (λ c. c.control.worker) row.2) (kind.shutdown p) (ap (λ c. c.control.closed) row.2)
  take_none s outcome.TookResource t n row =
      let first = resource_asks s.control.messages row.1 in
      by_parts s t (rw row.2 (omega (arith, n, first))) (rw row.2 refl) (ap (λ c. c.control.closed) row.2)
  take_none s _ t n row = absurd row

  clear_none : (s : Counts) (o : Outcome) (t : Counts) → requests_in s ≡ 0 → ClearRow s o t → NoneAsked s t
  clear_none s outcome.Cleared t n row =
      let asked = kind.asked in
      by_parts s t (rw row.1 (omega (arith, n))) (rw row.1 asked) (ap (λ c. c.control.closed) row.1)
  clear_none s outcome.NotEnabled t n row = same_state s t n row.1
  clear_none s _ t n row = absurd row

  -- the worker goes on in a drain for the same reason
  drain_none : (s t : Counts) (w : Worker) → t.control.messages ≡ s.control.messages → t.control.worker ≡ w →
      of_worker t.control.why w ≡ 0 → t.control.closed ≡ s.control.closed → requests_in s ≡ 0 → NoneAsked s t
  drain_none s t w messages is none closed n =
      by_parts s t (rw messages (omega (arith, n))) (rw is none) closed

  load_none : (s : Counts) (o : Outcome) (t : Counts) → requests_in s ≡ 0 → LoadRow s o t → NoneAsked s t
  load_none s (outcome.Loaded k) t n row =
      let reason : of_worker s.control.why s.control.worker ≡ kind.of_why row.0 = rw row.1 refl in
      let why : t.control.why ≡ row.0 = ap (λ c. c.control.why) row.3 in
      drain_none s t (if k == 0 then worker.Finishing else worker.Pulling) (ap (λ c. c.control.messages) row.3)
      (ap (λ c. c.control.worker) row.3) (rw why (by_size (k == 0) row.0 (omega (arith, n, reason))))
      (ap (λ c. c.control.closed) row.3) n
    where
      by_size : (b : Bool) (y : Why) → kind.of_why y ≡ 0 →
          of_worker y (if b then worker.Finishing else worker.Pulling) ≡ 0
      by_size true y h = h
      by_size false y h = h
  load_none s outcome.NotEnabled t n row = same_state s t n row.1
  load_none s _ t n row = absurd row

  pull_none : (s : Counts) (o : Outcome) (t : Counts) → requests_in s ≡ 0 → PullRow s o t → NoneAsked s t
  pull_none s outcome.Empty t n row =
      let reason : of_worker s.control.why s.control.worker ≡ kind.of_why s.control.why = rw row.0 refl in
      let why : t.control.why ≡ s.control.why = ap (λ c. c.control.why) row.2 in
      drain_none s t (if s.hand == 0 then worker.Finishing else worker.Handing) (ap (λ c. c.control.messages) row.2)
      (ap (λ c. c.control.worker) row.2) (rw why (by_hand (s.hand == 0) s.control.why (omega (arith, n, reason))))
      (ap (λ c. c.control.closed) row.2) n
    where
      by_hand : (b : Bool) (y : Why) → kind.of_why y ≡ 0 →
          of_worker y (if b then worker.Finishing else worker.Handing) ≡ 0
      by_hand true y h = h
      by_hand false y h = h
  pull_none s outcome.NoMemory t n row =
      let reason : of_worker s.control.why s.control.worker ≡ kind.of_why s.control.why = rw row.0 refl in
      let why : t.control.why ≡ s.control.why = ap (λ c. c.control.why) row.3 in
      drain_none s t worker.Finishing (ap (λ c. c.control.messages) row.3) (ap (λ c. c.control.worker) row.3)
      (rw why (omega (arith, n, reason))) (ap (λ c. c.control.closed) row.3) n
  pull_none s outcome.Pulled t n row =
      let reason : of_worker s.control.why s.control.worker ≡ kind.of_why s.control.why = rw row.0 refl in
      let why : t.control.why ≡ s.control.why = ap (λ c. c.control.why) row.2 in
      drain_none s t (if nat_lt (s.hand + 1) (limit_of s.control) then worker.Pulling else worker.Handing)
      (ap (λ c. c.control.messages) row.2) (ap (λ c. c.control.worker) row.2)
      (rw why (by_room (nat_lt (s.hand + 1) (limit_of s.control)) s.control.why (omega (arith, n, reason))))
      (ap (λ c. c.control.closed) row.2) n
    where
      by_room : (b : Bool) (y : Why) → kind.of_why y ≡ 0 →
          of_worker y (if b then worker.Pulling else worker.Handing) ≡ 0
      by_room true y h = h
      by_room false y h = h
  pull_none s outcome.NotEnabled t n row = same_state s t n row.1
  pull_none s _ t n row = absurd row

  hand_over_none : (s : Counts) (o : Outcome) (t : Counts) → requests_in s ≡ 0 → HandOverRow s o t → NoneAsked s t
  hand_over_none s (outcome.HandedOver k e) t n row =
      let reason : of_worker s.control.why s.control.worker ≡ kind.of_why s.control.why = rw row.0 refl in
      let why : t.control.why ≡ s.control.why = ap (λ c. c.control.why) row.3 in
      drain_none s t (worker.Subtracting k) (ap (λ c. c.control.messages) row.3) (ap (λ c. c.control.worker) row.3)
      (rw why (omega (arith, n, reason))) (ap (λ c. c.control.closed) row.3) n
  hand_over_none s outcome.NotEnabled t n row = same_state s t n row.1
  hand_over_none s _ t n row = absurd row

  subtract_none : (s : Counts) (o : Outcome) (t : Counts) → requests_in s ≡ 0 → SubtractRow s o t → NoneAsked s t
  subtract_none s outcome.Subtracted t n row =
      let reason : of_worker s.control.why s.control.worker ≡ kind.of_why s.control.why = rw row.1 refl in
      let why : t.control.why ≡ s.control.why = ap (λ c. c.control.why) row.2 in
      drain_none s t
      (if nat_lt (s.control.done + row.0) s.control.target then worker.Pulling else worker.Finishing)
      (ap (λ c. c.control.messages) row.2) (ap (λ c. c.control.worker) row.2)
      (rw why (by_target (nat_lt (s.control.done + row.0) s.control.target) s.control.why (omega (arith, n, reason))))
      (ap (λ c. c.control.closed) row.2) n
    where
      by_target : (b : Bool) (y : Why) → kind.of_why y ≡ 0 →
          of_worker y (if b then worker.Pulling else worker.Finishing) ≡ 0
      by_target true y h = h
      by_target false y h = h
  subtract_none s outcome.NotEnabled t n row = same_state s t n row.1
  subtract_none s _ t n row = absurd row

  -- the worker is ready after a drain that was finished
  ready_none : (s t : Counts) → requests_in s ≡ 0 → t.control.messages ≡ s.control.messages →
      t.control.worker ≡ worker.Ready → t.control.closed ≡ s.control.closed → NoneAsked s t
  ready_none s t n messages is closed = drain_none s t worker.Ready messages is refl closed n

  finish_none_for : (y : Why) (s : Counts) (e : Option OTelSdkError) (t : Counts) → requests_in s ≡ 0 →
      kind.of_why y ≡ 0 → FinishRowFor y s e t → NoneAsked s t
  finish_none_for why.Asked s e t n none row = ready_none s t n (ap (λ c. c.control.messages) row.1)
      (ap (λ c. c.control.worker) row.1) (ap (λ c. c.control.closed) row.1)
  finish_none_for why.Timer s e t n none row = ready_none s t n (ap (λ c. c.control.messages) row.1)
      (ap (λ c. c.control.worker) row.1) (ap (λ c. c.control.closed) row.1)
  finish_none_for (why.Flush p) s e t n none row = ready_none s t n (ap (λ c. c.control.messages) row.1)
      (ap (λ c. c.control.worker) row.1) (ap (λ c. c.control.closed) row.1)
  finish_none_for (why.Shutdown p) s e t n none row = shut s.control.refused row.1
    where
      shut : (b : Bool) → t ≡ (if b
          then put_slot (end_of_drain s worker.Ready) p (slot.Answered (Err OutOfMemory))
          else end_of_drain s (worker.Closing p)) → NoneAsked s t
      shut true is = ready_none s t n (ap (λ c. c.control.messages) is)
          (ap (λ c. c.control.worker) is) (ap (λ c. c.control.closed) is)
      shut false is =
          let closing = kind.closing p in
          drain_none s t (worker.Closing p) (ap (λ c. c.control.messages) is) (ap (λ c. c.control.worker) is)
          (omega (arith, none, closing)) (ap (λ c. c.control.closed) is) n

  finish_none : (s : Counts) (o : Outcome) (t : Counts) → requests_in s ≡ 0 → FinishRow s o t → NoneAsked s t
  finish_none s (outcome.Finished e) t n row =
      let reason : of_worker s.control.why s.control.worker ≡ kind.of_why s.control.why = rw row.0 refl in
      finish_none_for s.control.why s e t n (omega (arith, n, reason)) row.1
  finish_none s outcome.NotEnabled t n row = same_state s t n row.1
  finish_none s _ t n row = absurd row

  close_none : (p : ℕ) (s : Counts) (o : Outcome) (t : Counts) → s.control.worker ≡ worker.Closing p →
      requests_in s ≡ 0 → CloseRow s o t → NoneAsked s t
  close_none p s (outcome.ShutDown k) t is n row =
      let at : of_worker s.control.why s.control.worker ≡ kind.of_closing = rw is refl in
      let messages : t.control.messages ≡ [] = ap (λ c. c.control.messages) row.3 in
      let gone : t.control.worker ≡ worker.Gone = ap (λ c. c.control.worker) row.3 in
      record { none = rw (messages, gone) refl; closed = λ some. absurd (omega (arith, n, at, some)) }
  close_none p s outcome.NotEnabled t is n row = same_state s t n row.1
  close_none p s _ t is n row = absurd row

  -- the worker's next step
  pub next_none : (w : Worker) (s : Counts) (o : Outcome) (t : Counts) → s.control.worker ≡ w → requests_in s ≡ 0 →
      IsPermitted s (next_step w) o t → NoneAsked s t
  next_none worker.Ready s o t is n row = take_none s o t n row
  next_none worker.Clearing s o t is n row = clear_none s o t n row
  next_none (worker.Loading y) s o t is n row = load_none s o t n row
  next_none worker.Pulling s o t is n row = pull_none s o t n row
  next_none worker.Handing s o t is n row = hand_over_none s o t n row
  next_none (worker.Subtracting k) s o t is n row = subtract_none s o t n row
  next_none worker.Finishing s o t is n row = finish_none s o t n row
  next_none (worker.Closing p) s o t is n row = close_none p s o t is n row
  next_none worker.Gone s o t is n row = take_none s o t n row

  -- the reason of a drain of which the worker is at the finish
  pub finishing_why : (s : Counts) → requests_in s ≡ 0 → s.control.worker ≡ worker.Finishing →
      kind.of_why s.control.why ≡ 0
  finishing_why s n is =
      let reason : of_worker s.control.why s.control.worker ≡ kind.of_why s.control.why = rw is refl in
      omega (arith, n, reason)

  -- nobody is named, and yet this message names p
  named : {A : Type 0} (p : ℕ) (m : Message) (ms : List Message) → ((q : ℕ) → sum_by (message_names q) (m ∷ ms) ≡ 0) →
      message_names p m ≡ (if p == p then 1 else 0) → A
  named p m ms none is = elim (eqb_tells p p) [
    | inl same ↦ absurd (let one : message_names p m ≡ 1 = is ∙ rw same.0 refl
        in omega (arith, none p, one, sum_by-cons (message_names p) m ms))
    | inr other ↦ absurd (other.1 refl)
  ]

  -- messages that are no producer's request are of no kind
  pub no_request : (ms : List Message) → ((p : ℕ) → sum_by (message_names p) ms ≡ 0) → sum_by kind.of_message ms ≡ 0
  no_request [] none = refl
  no_request (message.Shutdown p ∷ ms) none = named p (message.Shutdown p) ms none refl
  no_request (message.Flush p ∷ ms) none = named p (message.Flush p) ms none refl
  no_request (message.Export ∷ ms) none =
      let rest = no_request ms (λ p. omega (arith, none p, sum_by-cons (message_names p) message.Export ms)) in
      let wish = kind.wish in
      omega (arith, rest, wish, sum_by-cons kind.of_message message.Export ms)
  no_request (message.Resource r ∷ ms) none =
      let rest = no_request ms (λ p. omega (arith, none p, sum_by-cons (message_names p) (message.Resource r) ms)) in
      let posted = kind.resource r in
      omega (arith, rest, posted, sum_by-cons kind.of_message (message.Resource r) ms)

module _ {E : Type 0} (calls : Ghosts E) where
  -- where nobody has asked for a shutdown the worker's run leaves the queue open or closed as it was
  pub goes_open : (s : Machine E) (xs : List Step) (os : List Outcome) (t : Machine E) →
      requests_in shutting (counts s) ≡ 0 → GoesBy calls next_of_worker s xs os t →
      t.control.closed ≡ s.control.closed
  goes_open s [] [] t n goes = ap (λ m. m.control.closed) goes
  goes_open s (x ∷ xs) (o ∷ os) t n goes =
      let has = has_next s.control x goes.0 in
      let stays = next_none shutting s.control.worker (counts s) o (counts goes.1) refl n
      (next_permitted calls s x o goes.1 has goes.2) in
      goes_open goes.1 xs os t stays.none goes.3 ∙ stays.closed (omega arith)
  goes_open s [] (o ∷ os) t n goes = absurd goes
  goes_open s (x ∷ xs) [] t n goes = absurd goes
