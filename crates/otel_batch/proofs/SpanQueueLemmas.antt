-- A queue of spans over chunks in a circle: an empty one, what puts and takings leave, and the item at an index.
use Rattle.std.proofs.Common.{◌≡◌, ℕ, suc, ◌+◌, ◌-◌, ◌/◌, ◌%◌, ◌^◌, ◌<◌, ◌≤◌, List, [], ◌∷◌, ◌++◌, length, drop, set, replicate, slice_get, Some, None}
use Rattle.std.proofs.Common.{true, false, ◌==◌, get_or, Result, Ok, Err, IsOk, refl, sym, ap, ◌∙◌, subst, inl, inr, arith, append-nil, length-append, length-drop}
use Rattle.std.proofs.lemmas.List.{set-get_or, length-set, length-replicate}
use Rattle.std.proofs.lemmas.Option.{same_Some, none-some, slice_get_read}
use Rattle.std.proofs.lemmas.Bool.{false≢true}
use Rattle.std.proofs.lemmas.Bool.Decides.{nat_tests}
use Rattle.circular_buffer.specs.Buffer.{Buffer, buffer}
use Rattle.circular_buffer.specs.Places.{Wraps}
use Rattle.otel_batch.specs.SpanQueue.{circle, items_of, len_of, len_at, IsChunk, IsLaid, IsQueue, IsQueueTo, TakesAt}
use Rattle.otel_batch.proofs.CircleLemmas.{wraps_more, wraps_less, length-circle, slice_get-circle, chunk_at, circle-set, circle-next}
use Rattle.otel_batch.proofs.Chunks.{AllEmpty-replicate, items_of-empty, laid_chunk, laid_within, next_tail, put_in, taken_from, laid_put, laid_take, laid_advance, head_item, rest_within, rest_item}

-- an `Ok` is no `Err`, and a list that has an item has a first one
pub ok_is_no_err : {A E : Type 0} (r : Result A E) (e : E) → IsOk r → r ≡ Err e → ⊥
ok_is_no_err (Ok x) e h is = cc
ok_is_no_err (Err y) e h is = false≢true h

pub first_is_some : {A : Type 0} (xs : List A) → 0 < length xs → slice_get xs 0 ≡ None → ⊥
first_is_some [] lt e = omega arith
first_is_some (x ∷ xs) lt e = none-some x (sym e)

module _ {X : Type 0} where
  -- a queue in which nothing waits
  pub record First (cs : List (Buffer X)) (limit : ℕ) : Type 0 where
    pub queue : IsQueueTo cs 0 0 0 limit
    pub items : items_of (circle 0 cs) ≡ []

  first_chunks : (n limit : ℕ) (cs : List (Buffer X)) → limit < 2 ^ 63 → n ≡ limit / 64 + 1 → cs ≡ replicate (suc n) (buffer [] 64) → First cs limit
  unfolding circle
  first_chunks n limit cs lt e made =
      let all : List (Buffer X) = replicate (suc n) (buffer [] 64) in
      let rest : List (Buffer X) = replicate n (buffer [] 64) in
      let turn : circle 0 all ≡ all = append-nil all in
      let none : items_of rest ≡ [] = items_of-empty rest (AllEmpty-replicate X n) in
      let items : items_of (circle 0 all) ≡ [] = ap items_of turn ∙ none in
      let empty : IsChunk (buffer {X = X} [] 64) = (refl, omega arith) in
      let laid : IsLaid 0 all = (empty, AllEmpty-replicate X n) in
      subst (λ l. First l limit) (sym made) (record {
        queue = record {
          steps = 0;
          queue = record {
            chunks = (length-replicate (suc n) (buffer [] 64) ∙ omega arith, lt);
            place = omega arith;
            laid = subst (IsLaid 0) (sym turn) laid;
            count = (sym (ap length items), omega arith);
          };
          at = (omega arith, inl refl);
        };
        items = items;
      })

  pub first_queue : (limit : ℕ) (cs : List (Buffer X)) → limit < 2 ^ 63 → cs ≡ replicate (limit / 64 + 2) (buffer [] 64) → First cs limit
  first_queue limit cs lt e =
      let count : limit / 64 + 2 ≡ suc (limit / 64 + 1) = omega arith in
      first_chunks (limit / 64 + 1) limit cs lt refl (e ∙ ap (λ m. replicate m (buffer [] 64)) count)

  -- the place p can be the tail's, and its chunk has room
  pub record HasRoom (cs : List (Buffer X)) (head p : ℕ) : Type 0 where
    pub steps : ℕ
    pub laid : IsLaid steps (circle head cs)
    pub room : len_at steps (circle head cs) < 64
    pub at : Wraps head steps (length cs) p

  tail_at : (cs : List (Buffer X)) (head tail len limit : ℕ) (c : Buffer X) (queue : IsQueueTo cs head tail len limit) → slice_get cs tail ≡ Some c → slice_get (circle head cs) queue.steps ≡ Some c
  tail_at cs head tail len limit c queue is =
      let all = length-circle head cs queue.queue.place in
      let within = laid_within queue.steps (circle head cs) queue.queue.laid in
      slice_get-circle head queue.steps tail cs queue.queue.place (omega arith) queue.at ∙ is

  tail_has_room : (cs : List (Buffer X)) (head tail len limit : ℕ) (c : Buffer X) → IsQueueTo cs head tail len limit → slice_get cs tail ≡ Some c
      → length c.items < c.capacity → HasRoom cs head tail
  tail_has_room cs head tail len limit c queue is lt =
      let got = tail_at cs head tail len limit c queue is in
      let chunk = laid_chunk _ _ _ _ queue.queue.laid got in
      record { steps = queue.steps; laid = queue.queue.laid; room = omega (arith, ap len_of got, chunk.0); at = queue.at }

  next_has_room : (cs : List (Buffer X)) (head tail len limit p : ℕ) (c : Buffer X) → IsQueueTo cs head tail len limit → len < limit → slice_get cs tail ≡ Some c
      → (length c.items < c.capacity → ⊥) → Wraps tail 1 (length cs) p → HasRoom cs head p
  next_has_room cs head tail len limit p c queue lt is full next =
      let got = tail_at cs head tail len limit c queue is in
      let chunk = laid_chunk _ _ _ _ queue.queue.laid got in
      let items : length c.items ≡ 64 = grind (arith, full, chunk.0, chunk.1) in
      let all = length-circle head cs queue.queue.place in
      let more = next_tail queue.steps (circle head cs) queue.queue.laid (ap len_of got ∙ items) (omega (arith, queue.queue.chunks.0, queue.queue.count.0)) in
      record {
        steps = queue.steps + 1;
        laid = more.laid;
        room = more.room;
        at = wraps_more head queue.steps (length cs) tail p queue.queue.place (omega (arith, more.within)) queue.at next;
      }

  -- a queue with the item x put into the chunk c, where there is room
  pub record IsPut (cs : List (Buffer X)) (head len limit p : ℕ) (c : Buffer X) (x : X) : Type 0 where
    pub queue : IsQueueTo (set cs p (put_in c x)) head p (len + 1) limit
    pub items : items_of (circle head (set cs p (put_in c x))) ≡ items_of (circle head cs) ++ x ∷ []
    pub room : length c.items < c.capacity

  pub queue_put : (cs : List (Buffer X)) (head tail len limit p : ℕ) (c : Buffer X) (x : X) → IsQueueTo cs head tail len limit → len < limit
      → HasRoom cs head p → c ≡ get_or cs p c → IsPut cs head len limit p c x
  queue_put cs head tail len limit p c x to lt has is =
      let queue = to.queue in
      let k = has.steps in
      let all = length-circle head cs queue.place in
      let within = laid_within k (circle head cs) has.laid in
      let got = chunk_at head k (length cs) p cs c queue.place (omega arith) refl has.at is in
      let turn = circle-set head k p cs (put_in c x) queue.place (omega arith) has.at in
      let few : length c.items < 64 = omega (arith, ap len_of got, has.room) in
      let put = laid_put k (circle head cs) c x has.laid got few in
      let items : items_of (circle head (set cs p (put_in c x))) ≡ items_of (circle head cs) ++ x ∷ [] = ap items_of turn ∙ put.1 in
      let same : length (set cs p (put_in c x)) ≡ length cs = length-set cs p (put_in c x) in
      record {
        queue = record {
          steps = k;
          queue = record {
            chunks = (same ∙ queue.chunks.0, queue.chunks.1);
            place = omega (arith, same, queue.place);
            laid = subst (IsLaid k) (sym turn) put.0;
            count = (omega (arith, ap length items, length-append (items_of (circle head cs)) (x ∷ []), queue.count.0), omega arith);
          };
          at = subst (λ m. Wraps head k m p) (sym same) has.at;
        };
        items = items;
        room = omega (arith, (laid_chunk k (circle head cs) k c has.laid got).0);
      }

  -- a put into the tail chunk c, which has room
  pub tail_put : (cs : List (Buffer X)) (head tail len limit : ℕ) (c : Buffer X) (x : X) → IsQueueTo cs head tail len limit → len < limit
      → c ≡ get_or cs tail c → length c.items < c.capacity → IsPut cs head len limit tail c x
  tail_put cs head tail len limit c x to lt is room =
      let got = slice_get_read cs (length cs) tail c refl to.at.0 is in
      queue_put cs head tail len limit tail c x to lt (tail_has_room cs head tail len limit c to got room) is

  -- a put into the chunk d after the tail chunk c, which is full and was written back as it was
  pub record IsPutNext (cs : List (Buffer X)) (head tail len limit p : ℕ) (c d : Buffer X) (x : X) : Type 0 where
    pub written : (e : Buffer X) → e ≡ put_in d x → set (set cs tail c) p e ≡ set cs p (put_in d x)
    pub put : IsPut cs head len limit p d x

  pub next_put : (cs : List (Buffer X)) (head tail len limit p n : ℕ) (b c d : Buffer X) (x : X) → IsQueueTo cs head tail len limit → len < limit
      → b ≡ get_or cs tail b → (length b.items < b.capacity → false ≡ true) → c ≡ b
      → n ≡ length cs → Wraps tail 1 n p → d ≡ get_or (set cs tail c) p d
      → IsPutNext cs head tail len limit p c d x
  next_put cs head tail len limit p n b c d x to lt is full back e next after =
      let same : set cs tail c ≡ cs = ap (set cs tail) (back ∙ is) ∙ set-get_or cs tail b in
      let got = slice_get_read cs (length cs) tail b refl to.at.0 is in
      let at = subst (λ m. Wraps tail 1 m p) e next in
      let has = next_has_room cs head tail len limit p b to lt got (λ room. false≢true (full room)) at in
      record {
        written = λ e w. ap (set (set cs tail c) p) w ∙ ap (λ l. set l p (put_in d x)) same;
        put = queue_put cs head tail len limit p d x to lt has (after ∙ ap (λ l. get_or l p d) same);
      }

  -- a queue of the items xs, whose head has one
  pub record IsReady (cs : List (Buffer X)) (head tail len limit : ℕ) (xs : List X) : Type 0 where
    pub queue : IsQueueTo cs head tail len limit
    pub items : items_of (circle head cs) ≡ xs
    pub some : 0 < len_at 0 (circle head cs)

  head_at : (cs : List (Buffer X)) (head : ℕ) (c : Buffer X) → head < length cs → c ≡ get_or cs head c → slice_get (circle head cs) 0 ≡ Some c
  head_at cs head c lt is = chunk_at head 0 (length cs) head cs c lt (omega arith) refl (lt, inl (omega arith)) is

  first_at : (cs : List (Buffer X)) (head : ℕ) (c : Buffer X) → head < length cs → slice_get cs head ≡ Some c → len_at 0 (circle head cs) ≡ length c.items
  first_at cs head c lt is = ap len_of (slice_get-circle head 0 head cs lt (omega arith) (lt, inl (omega arith)) ∙ is)

  -- the head is empty, and p is the place after it
  ready_next : (cs : List (Buffer X)) (head tail len limit p : ℕ) (c : Buffer X) → IsQueueTo cs head tail len limit → 0 < len
      → slice_get cs head ≡ Some c → length c.items ≡ 0 → Wraps head 1 (length cs) p → IsReady cs p tail len limit (items_of (circle head cs))
  ready_next cs head tail len limit p c to lt is none w =
      let queue = to.queue in
      let k = to.steps in
      let got = first_at cs head c queue.place is in
      let turn = circle-next head p cs queue.place w in
      let all = length-circle head cs queue.place in
      let within = laid_within k (circle head cs) queue.laid in
      let on = laid_advance k (circle head cs) queue.laid (got ∙ none) (omega (arith, queue.count.0)) in
      let items : items_of (circle p cs) ≡ items_of (circle head cs) = ap items_of turn ∙ on.items in
      record {
        queue = record {
          steps = k - 1;
          queue = record {
            chunks = queue.chunks;
            place = omega (arith, w.0);
            laid = subst (IsLaid (k - 1)) (sym turn) on.laid;
            count = (queue.count.0 ∙ sym (ap length items), queue.count.1);
          };
          at = wraps_less head k (length cs) p tail queue.place (omega arith) on.steps to.at w;
        };
        items = items;
        some = subst (λ l. 0 < len_at 0 l) (sym turn) on.some;
      }

  some_len : (c : Buffer X) → (length c.items == 0) ≡ false → 0 < length c.items
  some_len c f = grind (arith, nat_tests)

  none_len : (c : Buffer X) → (length c.items == 0) ≡ true → length c.items ≡ 0
  none_len c t = grind (arith, nat_tests)

  pub take_is_ready : (cs : List (Buffer X)) (head tail len limit p : ℕ) → IsQueueTo cs head tail len limit → 0 < len → TakesAt cs head p → IsReady cs p tail len limit (items_of (circle head cs))
  take_is_ready cs head tail len limit p queue lt takes =
      let got = first_at cs head takes.chunk queue.queue.place takes.is in
      elim takes.place [
        | inl next ↦ ready_next cs head tail len limit p takes.chunk queue lt takes.is (none_len takes.chunk next.0) next.1
        | inr here ↦
            subst (λ m. IsReady cs m tail len limit (items_of (circle head cs))) (sym here.1)
            (record { queue = queue; items = refl; some = omega (arith, some_len takes.chunk here.0) })
      ]

  -- a queue with the first item of its head taken, which is c
  pub record IsTaken (cs : List (Buffer X)) (head tail len limit : ℕ) (c : Buffer X) (xs : List X) : Type 0 where
    pub queue : IsQueueTo (set cs head (taken_from c)) head tail (len - 1) limit
    pub items : items_of (circle head (set cs head (taken_from c))) ≡ drop 1 xs
    pub value : slice_get c.items 0 ≡ slice_get xs 0
    pub some : 0 < length c.items

  pub queue_take : (cs : List (Buffer X)) (head tail len limit : ℕ) (c : Buffer X) (xs : List X) → IsReady cs head tail len limit xs → c ≡ get_or cs head c → IsTaken cs head tail len limit c xs
  queue_take cs head tail len limit c xs ready is =
      let queue = ready.queue.queue in
      let k = ready.queue.steps in
      let got = head_at cs head c queue.place is in
      let some : 0 < length c.items = omega (arith, ap len_of got, ready.some) in
      let turn = circle-set head 0 head cs (taken_from c) queue.place (omega (arith, queue.place)) (queue.place, inl (omega arith)) in
      let taken = laid_take k (circle head cs) c queue.laid got some in
      let items : items_of (circle head (set cs head (taken_from c))) ≡ drop 1 xs = ap items_of turn ∙ taken.items ∙ ap (drop 1) ready.items in
      let same : length (set cs head (taken_from c)) ≡ length cs = length-set cs head (taken_from c) in
      record {
        queue = record {
          steps = k;
          queue = record {
            chunks = (same ∙ queue.chunks.0, queue.chunks.1);
            place = omega (arith, same, queue.place);
            laid = subst (IsLaid k) (sym turn) taken.laid;
            count = (omega (arith, ap length items, length-drop 1 xs, ap length ready.items, queue.count.0), omega (arith, queue.count.1));
          };
          at = subst (λ m. Wraps head k m tail) (sym same) ready.queue.at;
        };
        items = items;
        value = taken.value ∙ ap (λ l. slice_get l 0) ready.items;
        some = some;
      }

  -- the item at an index in the head, which is read twice
  pub read_head : (cs : List (Buffer X)) (head k len limit i : ℕ) (c d : Buffer X) → IsQueue cs head k len limit → c ≡ get_or cs head c → d ≡ get_or cs head d
      → i < length c.items → slice_get d.items i ≡ slice_get (items_of (circle head cs)) i
  read_head cs head k len limit i c d queue is again lt =
      let got = head_at cs head c queue.place is in
      let more = head_at cs head d queue.place again in
      let same : c ≡ d = same_Some c d (sym got ∙ more) in
      head_item k i (circle head cs) d queue.laid more (subst (λ (b : Buffer X). i < length b.items) same lt)

  -- and after the head, in d, where the head has m items
  pub read_rest : (cs : List (Buffer X)) (head k len limit i m n p : ℕ) (c d : Buffer X) → IsQueue cs head k len limit → c ≡ get_or cs head c → m ≡ length c.items → m ≤ i → i < len
      → n ≡ length cs → Wraps head ((i - m) / 64 + 1) n p → d ≡ get_or cs p d → slice_get d.items ((i - m) % 64) ≡ slice_get (items_of (circle head cs)) i
  read_rest cs head k len limit i m n p c d queue is first le lt same w there =
      let all = length-circle head cs queue.place in
      let got : len_at 0 (circle head cs) ≡ m = ap len_of (head_at cs head c queue.place is) ∙ sym first in
      let within = laid_within k (circle head cs) queue.laid in
      let count = queue.count.0 in
      let steps : (i - m) / 64 + 1 ≤ k = subst (λ l. (i - l) / 64 + 1 ≤ k) got (rest_within k i (circle head cs) queue.laid (omega arith) (omega arith)) in
      let at : slice_get (circle head cs) ((i - m) / 64 + 1) ≡ Some d = chunk_at head _ n p cs d queue.place (omega arith) same w there in
      subst (λ l. slice_get d.items ((i - l) % 64) ≡ slice_get (items_of (circle head cs)) i) got
      (rest_item k i (circle head cs) d queue.laid (omega arith) (omega arith) (ap (λ l. slice_get (circle head cs) ((i - l) / 64 + 1)) got ∙ at))
