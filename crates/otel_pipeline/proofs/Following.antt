-- What each processor of a list was told, after one end and after many.
use Rattle.std.proofs.Common.{◌≡◌, ℕ, ◌+◌, ◌<◌, ◌≤◌, Bool, true, false, ◌&&◌, List, [], ◌∷◌, ◌++◌, map, Option, Some, None, Result, Ok, Err, refl, sym, ◌∙◌, ap, subst, append_assoc, append-nil, arith, inl, inr}
use Rattle.std.specs.Bool.{IsTrue, IsFalse}
use Rattle.std.specs.Result.{IsOk}
use Rattle.std.specs.List.{AllZip}
use Rattle.std.proofs.lemmas.List.{map-append}
use Rattle.otel_export.specs.PlainSpanData.{PlainSpanData, is_sampled}
use Rattle.otel_export.specs.Telling.{Tells}
use Rattle.otel_export.proofs.Tellings.{tells_append, tells_same}
use Rattle.std.specs.declared.alloc.AllocError.{AllocError}
use Rattle.otel_pipeline.specs.ProcessorTelling.{ProcessorTelling, CountsUp, TakesSpan, TakesNothing, HandsOver, HearsNothing}
use Rattle.otel_pipeline.specs.Deliveries.{Delivery, Hears, Follows, EachFollows, EachOpenHears, Reaches, ReachesFirst, spans_of}
use Rattle.otel_pipeline.specs.declared.trace.span_processor.SpanProcessor.{Ghosts}
use Rattle.otel_pipeline.specs.Each.{Each, AsksAll, error_count}
use Rattle.otel_pipeline.specs.Ending.{TakesAndTells, DeliversIf, deliveries}
use Rattle.otel_pipeline.specs.SpanHistory.{ended_at}

-- a count that stays counts up by nothing
counts_nothing : (before after : ℕ) → after ≡ before → CountsUp before 0 after
counts_nothing before after e = record { no_fewer = omega arith; no_more = omega arith; exact = λ _. omega arith; stops = λ small. omega (arith, small) }

-- one count after another
counts_both : (a n b m c : ℕ) → CountsUp a n b → CountsUp b m c → CountsUp a (n + m) c
counts_both a n b m c h k =
    let first : a ≤ b = h.no_fewer in
    let second : b ≤ c = k.no_fewer in
    let first_more : b ≤ a + n = h.no_more in
    let second_more : c ≤ b + m = k.no_more in
    record {
      no_fewer = omega arith;
      no_more = omega arith;
      exact = λ below.
          let late : c ≡ b + m = k.exact below in
          let early : b ≡ a + n = h.exact (omega arith) in
          omega arith;
      stops = λ small. k.stops (h.stops small);
    }

-- one delivery in front of others that are one list after another
first_both : (b all : Bool) (delivery : Delivery) (xs ys : List Delivery) (first second : List PlainSpanData) (n m : ℕ)
    → ((rest : List PlainSpanData) (k : ℕ) → Reaches all xs rest k → Reaches all (xs ++ ys) (rest ++ second) (k + m))
    → ReachesFirst b all delivery (Reaches all xs) first n
    → ReachesFirst b all delivery (Reaches all (xs ++ ys)) (first ++ second) (n + m)
first_both true all delivery xs ys first second n m others (inl (rest, e, h)) =
    inl (rest ++ second, ap (λ (l : List PlainSpanData). l ++ second) e, others rest n h)
first_both true all delivery xs ys first second n m others (inr (inl (may, refused, h))) = inr (inl (may, refused, others first n h))
first_both true all delivery xs ys first second n m others (inr (inr (fewer, e, h))) = inr (inr (fewer + m, omega arith, others first fewer h))
first_both false all delivery xs ys first second n m others h = others first n h

-- what reaches a processor of one list of deliveries after another
Reaches-append : (all : Bool) (xs ys : List Delivery) (first second : List PlainSpanData) (n m : ℕ)
    → Reaches all xs first n → Reaches all ys second m → Reaches all (xs ++ ys) (first ++ second) (n + m)
Reaches-append all [] ys first second n m h k =
    let same : m ≡ n + m = omega (arith, h.1) in
    let missed : Reaches all ys second (n + m) = subst (λ (l : ℕ). Reaches all ys second l) same k in
    subst (λ (l : List PlainSpanData). Reaches all ys (l ++ second) (n + m)) (sym h.0) missed
Reaches-append all (x ∷ xs) ys first second n m h k =
    first_both (is_sampled x.span) all x xs ys first second n m (λ rest fewer l. Reaches-append all xs ys rest second fewer m l k) h

-- an answer that is an error counts
abbrev pub IsCounted : {T E : Type 0} → Result T E → ℕ → Type 0
IsCounted (Ok _) n = Unit {0}
IsCounted (Err _) n = 0 < n

-- what one delivery leads to, at a processor that was open, and at one that was shut
abbrev FollowsOne : Bool → Bool → ProcessorTelling → Delivery → ProcessorTelling → Type 0
FollowsOne true sampled before delivery after =
    (reached : List PlainSpanData) × (missed : ℕ)
    × ReachesFirst sampled before.takes_all delivery (Reaches before.takes_all []) reached missed
    × Tells before.heard reached after.heard × CountsUp before.dropped missed after.dropped
FollowsOne false sampled before delivery after = Hears before [] after

-- nothing more was heard
hears_nothing : (before after : ProcessorTelling) → Tells before.heard [] after.heard → after.dropped ≡ before.dropped
    → after.takes_all ≡ before.takes_all → Hears before [] after
hears_nothing before after heard dropped all = record {
  reached = [];
  missed = 0;
  reaches = (refl, refl);
  heard = heard;
  dropped = counts_nothing before.dropped after.dropped dropped;
  takes_all = all;
}

-- a span that is not due is not heard
hears_none : (before after : ProcessorTelling) → HearsNothing before after → after.takes_all ≡ before.takes_all
    → Hears before [] after
hears_none before after h all = hears_nothing before after (tells_same before.heard after.heard h.heard) h.dropped all

-- a test that fails where it holds is false
refuted : (all : Bool) → (IsTrue all → ⊥) → IsFalse all
refuted true fails = absurd (fails refl)
refuted false fails = refl

-- a span that was handed over reaches the processor, or it was refused or missed
handed_over : {T E : Type 0} (is_open sampled : Bool) (before : ProcessorTelling) (span : PlainSpanData)
    (answer : Result T E) (n : ℕ) (after : ProcessorTelling)
    → HandsOver (is_open && sampled) before span answer after → IsCounted answer n
    → (IsTrue before.takes_all → IsOk answer) → after.takes_all ≡ before.takes_all
    → FollowsOne is_open sampled before (record { span = span; refused = n }) after
handed_over true true before span (Ok _) n after (inl h) counted takes all =
    (span ∷ [], 0, inl ([], refl, (refl, refl)), h.heard, counts_nothing before.dropped after.dropped h.dropped)
handed_over true true before span (Ok _) n after (inr h) counted takes all =
    ([], 1, inr (inr (0, refl, (refl, refl))), tells_same before.heard after.heard h.heard, h.dropped)
handed_over true true before span (Err e) n after h counted takes all =
    ([], 0, inr (inl (refuted before.takes_all (λ all_taken. let no = takes all_taken in cc), counted, (refl, refl))), tells_same before.heard after.heard h.heard, counts_nothing before.dropped after.dropped h.dropped)
handed_over true false before span answer n after h counted takes all =
    ([], 0, (refl, refl), tells_same before.heard after.heard h.heard, counts_nothing before.dropped after.dropped h.dropped)
handed_over false sampled before span answer n after h counted takes all = hears_none before after h all

-- a delivery that leads from one telling to another is followed
follows_by : (is_open : Bool) (before : ProcessorTelling) (delivery : Delivery) (after : ProcessorTelling)
    → before.is_open ≡ is_open → Tells before.spans (delivery.span ∷ []) after.spans
    → FollowsOne is_open (is_sampled delivery.span) before delivery after → after.is_open ≡ before.is_open
    → after.takes_all ≡ before.takes_all → Follows before (delivery ∷ []) after
follows_by true before delivery after e spans (reached, missed, reaches, heard, dropped) stays all = record {
  spans = spans;
  while_open = delivery ∷ [];
  while_shut = [];
  whole = refl;
  still_open = λ _. refl;
  was_shut = λ shut. cc;
  hears = record {
    reached = reached;
    missed = missed;
    reaches = reaches;
    heard = heard;
    dropped = dropped;
    takes_all = all;
  };
  never_reopens = λ open_now. cc;
}
follows_by false before delivery after e spans h stays all = record {
  spans = spans;
  while_open = [];
  while_shut = delivery ∷ [];
  whole = refl;
  still_open = λ open_now. cc;
  was_shut = λ _. refl;
  hears = h;
  never_reopens = λ open_now. cc;
}

-- a processor that was given a span follows that delivery
follows_one : {T E : Type 0} (before : ProcessorTelling) (span : PlainSpanData) (answer : Result T E) (n : ℕ) (after : ProcessorTelling)
    → TakesSpan before span answer after → IsCounted answer n → Follows before (record { span = span; refused = n } ∷ []) after
follows_one before span answer n after h counted =
    follows_by before.is_open before (record { span = span; refused = n }) after refl h.spans
    (handed_over before.is_open (is_sampled span) before span answer n after h.handed counted h.not_refused h.takes_all)
    h.is_open h.takes_all

-- a processor that was asked to flush or to shut down follows no delivery
follows_nothing : (before after : ProcessorTelling) → TakesNothing before after → Follows before [] after
follows_nothing before after h = record {
  spans = tells_same before.spans after.spans h.spans;
  while_open = [];
  while_shut = [];
  whole = refl;
  still_open = λ _. refl;
  was_shut = λ _. refl;
  hears = hears_nothing before after h.heard h.dropped h.takes_all;
  never_reopens = h.never_reopens;
}

-- and so does one that was not asked
takes_nothing : (telling : ProcessorTelling) → TakesNothing telling telling
takes_nothing telling = record {
  spans = refl;
  heard = tells_same telling.heard telling.heard refl;
  dropped = refl;
  takes_all = refl;
  never_reopens = λ is_open. is_open;
}

-- one list of deliveries after another, at a processor that was open for both
hears_append : (a b c : ProcessorTelling) (xs ys : List Delivery) → Hears a xs b → Hears b ys c → Hears a (xs ++ ys) c
hears_append a b c xs ys h k = record {
  reached = h.reached ++ k.reached;
  missed = h.missed + k.missed;
  reaches = Reaches-append a.takes_all xs ys h.reached k.reached h.missed k.missed h.reaches
      (subst (λ (all : Bool). Reaches all ys k.reached k.missed) h.takes_all k.reaches);
  heard = tells_append a.heard h.reached b.heard k.reached c.heard h.heard k.heard;
  dropped = counts_both a.dropped h.missed b.dropped k.missed c.dropped h.dropped k.dropped;
  takes_all = k.takes_all ∙ h.takes_all;
}

-- the spans of one list of deliveries after another
spans_both : (a b c : Option (List PlainSpanData)) (xs ys : List Delivery)
    → Tells a (spans_of xs) b → Tells b (spans_of ys) c → Tells a (spans_of (xs ++ ys)) c
spans_both a b c xs ys h k =
    let both : Tells a (spans_of xs ++ spans_of ys) c = tells_append a (spans_of xs) b (spans_of ys) c h k in
    subst (λ (l : List PlainSpanData). Tells a l c) (sym (map-append (λ d. d.span) xs ys)) both

-- one list of deliveries after another, where the processor was open or shut between them
follows_both : (between : Bool) (a b c : ProcessorTelling) (xs ys : List Delivery)
    → b.is_open ≡ between → Follows a xs b → Follows b ys c → Follows a (xs ++ ys) c
follows_both true a b c xs ys e h k =
    let none : h.while_shut ≡ [] = h.still_open e in
    record {
      spans = spans_both a.spans b.spans c.spans xs ys h.spans k.spans;
      while_open = h.while_open ++ k.while_open;
      while_shut = k.while_shut;
      whole =
          let later : (List Delivery) → List Delivery = λ l. h.while_open ++ l in
          let first : xs ≡ h.while_open = h.whole ∙ ap later none ∙ append-nil h.while_open in
          let regrouped = sym (append_assoc h.while_open k.while_open k.while_shut) in
          ap (λ (l : List Delivery). l ++ ys) first ∙ ap later k.whole ∙ regrouped;
      still_open = k.still_open;
      was_shut = λ shut. let was : IsTrue a.is_open = h.never_reopens e in cc;
      hears = hears_append a b c h.while_open k.while_open h.hears k.hears;
      never_reopens = λ is_open. h.never_reopens (k.never_reopens is_open);
    }
follows_both false a b c xs ys e h k =
    let none : k.while_open ≡ [] = k.was_shut e in
    let nothing : Hears b [] c = subst (λ (l : List Delivery). Hears b l c) none k.hears in
    record {
      spans = spans_both a.spans b.spans c.spans xs ys h.spans k.spans;
      while_open = h.while_open;
      while_shut = h.while_shut ++ ys;
      whole = ap (λ (l : List Delivery). l ++ ys) h.whole ∙ append_assoc h.while_open h.while_shut ys;
      still_open = λ is_open. let was : IsTrue b.is_open = k.never_reopens is_open in cc;
      was_shut = h.was_shut;
      hears = subst (λ (l : List Delivery). Hears a l c) (append-nil h.while_open) (hears_append a b c h.while_open [] h.hears nothing);
      never_reopens = λ is_open. h.never_reopens (k.never_reopens is_open);
    }

-- one list of deliveries after another
follows_append : (a b c : ProcessorTelling) (xs ys : List Delivery) → Follows a xs b → Follows b ys c → Follows a (xs ++ ys) c
follows_append a b c xs ys h k = follows_both b.is_open a b c xs ys refl h k

-- each processor of a list, one list of deliveries after another
pub EachFollows-append : {P : Type 0} (calls : Ghosts P) (xs ys : List Delivery) (ps qs us : List P) → EachFollows calls xs ps qs → EachFollows calls ys qs us → EachFollows calls (xs ++ ys) ps us
EachFollows-append calls xs ys [] [] [] h k = tt
EachFollows-append calls xs ys [] [] (u ∷ us) h k = absurd k
EachFollows-append calls xs ys [] (q ∷ qs) us h k = absurd h
EachFollows-append calls xs ys (p ∷ ps) [] us h k = absurd h
EachFollows-append calls xs ys (p ∷ ps) (q ∷ qs) [] h k = absurd k
EachFollows-append calls xs ys (p ∷ ps) (q ∷ qs) (u ∷ us) h k = (follows_append (calls.told p) (calls.told q) (calls.told u) xs ys h.0 k.0, EachFollows-append calls xs ys ps qs us h.1 k.1)

-- processors that tell what they told follow no delivery
pub EachFollows-same : {P : Type 0} (calls : Ghosts P) (ps qs : List P) → map calls.told qs ≡ map calls.told ps → EachFollows calls [] ps qs
EachFollows-same calls [] [] e = tt
EachFollows-same calls [] (q ∷ qs) e = cc
EachFollows-same calls (p ∷ ps) [] e = cc
EachFollows-same calls (p ∷ ps) (q ∷ qs) e =
    let first : calls.told q ≡ calls.told p = cc in
    let others : map calls.told qs ≡ map calls.told ps = cc in
    let stays : Follows (calls.told p) [] (calls.told p) = follows_nothing _ _ (takes_nothing (calls.told p)) in
    (subst (λ (t : ProcessorTelling). Follows (calls.told p) [] t) (sym first) stays, EachFollows-same calls ps qs others)

each_takes_nothing : {P R : Type 0} (calls : Ghosts P) (G : P → R → P → Type 0)
    → ((p : P) (r : R) (q : P) → G p r q → TakesNothing (calls.told p) (calls.told q))
    → (ps : List P) (rs : List R) (qs : List P) → Each G ps rs qs → EachFollows calls [] ps qs
each_takes_nothing calls G takes [] [] [] h = tt
each_takes_nothing calls G takes [] [] (q ∷ qs) h = absurd h
each_takes_nothing calls G takes [] (r ∷ rs) qs h = absurd h
each_takes_nothing calls G takes (p ∷ ps) [] qs h = absurd h
each_takes_nothing calls G takes (p ∷ ps) (r ∷ rs) [] h = absurd h
each_takes_nothing calls G takes (p ∷ ps) (r ∷ rs) (q ∷ qs) h =
    (follows_nothing (calls.told p) (calls.told q) (takes p r q h.0), each_takes_nothing calls G takes ps rs qs h.1)

-- processors of which each was asked to flush or to shut down follow no delivery
pub EachFollows-asked : {P T E : Type 0} (calls : Ghosts P) (G : P → Result T E → P → Type 0)
    → ((p : P) (r : Result T E) (q : P) → G p r q → TakesNothing (calls.told p) (calls.told q))
    → (ps qs : List P) (n : ℕ) → AsksAll G ps qs n → EachFollows calls [] ps qs
EachFollows-asked calls G takes ps qs n h = each_takes_nothing calls G takes ps h.0 qs h.2

-- the errors among more answers are no fewer
counted_first : {T E : Type 0} (r : Result T E) (rs : List (Result T E)) (n : ℕ) → error_count (r ∷ rs) ≤ n → IsCounted r n
counted_first (Ok _) rs n h = tt
counted_first (Err _) rs n h = omega arith

error_count-rest : {T E : Type 0} (r : Result T E) (rs : List (Result T E)) (n : ℕ) → error_count (r ∷ rs) ≤ n → error_count rs ≤ n
error_count-rest (Ok _) rs n h = h
error_count-rest (Err _) rs n h = omega arith

each_follows : {P : Type 0} (calls : Ghosts P) (span : PlainSpanData) (n : ℕ) (ps : List P) (rs : List (Result (Unit {0}) AllocError)) (qs : List P)
    → error_count rs ≤ n → Each (TakesAndTells calls span) ps rs qs → EachFollows calls (record { span = span; refused = n } ∷ []) ps qs
each_follows calls span n [] [] [] m h = tt
each_follows calls span n [] [] (q ∷ qs) m h = absurd h
each_follows calls span n [] (r ∷ rs) qs m h = absurd h
each_follows calls span n (p ∷ ps) [] qs m h = absurd h
each_follows calls span n (p ∷ ps) (r ∷ rs) [] m h = absurd h
each_follows calls span n (p ∷ ps) (r ∷ rs) (q ∷ qs) m h =
    (follows_one (calls.told p) span r n (calls.told q) h.0.told (counted_first r rs n m), each_follows calls span n ps rs qs (error_count-rest r rs n m) h.1)

-- the processors of a provider follow what an end delivers
pub delivered_follows : {P : Type 0} (calls : Ghosts P) (shut : Bool) (moment : ℕ) (recorded : Option PlainSpanData) (ps qs : List P) (n : ℕ)
    → DeliversIf calls shut moment recorded ps qs n → EachFollows calls (deliveries shut moment recorded n) ps qs
delivered_follows calls shut moment None ps qs n h = EachFollows-same calls ps qs (ap (map calls.told) h.0)
delivered_follows calls true moment (Some recorded) ps qs n h = EachFollows-same calls ps qs (ap (map calls.told) h.0)
delivered_follows calls false moment (Some recorded) ps qs n h = each_follows calls (ended_at moment recorded) n ps h.0 qs (omega (arith, h.1)) h.2

-- a processor that stays open hears all that it follows
follows_open : (before after : ProcessorTelling) (deliveries : List Delivery) → Follows before deliveries after → IsTrue after.is_open → Hears before deliveries after
follows_open before after deliveries h is_open =
    let all : deliveries ≡ h.while_open = h.whole ∙ ap (λ (l : List Delivery). h.while_open ++ l) (h.still_open is_open) ∙ append-nil h.while_open in
    subst (λ (l : List Delivery). Hears before l after) (sym all) h.hears

-- one that follows no delivery hears none
follows_none : (before after : ProcessorTelling) → Follows before [] after → Hears before [] after
follows_none before after h = subst (λ (l : List Delivery). Hears before l after) (none_first h.while_open h.while_shut h.whole) h.hears
  where
    none_first : (xs ys : List Delivery) → [] ≡ xs ++ ys → xs ≡ []
    none_first [] ys e = refl
    none_first (x ∷ xs) ys e = cc

-- each processor is as open or shut as it was
abbrev pub EachStays : {P : Type 0} → Ghosts P → List P → List P → Type 0
EachStays calls ps qs = AllZip (λ p q. (calls.told q).is_open ≡ (calls.told p).is_open) ps qs

-- where no processor closes, each open one hears what it follows
pub hears_first : {P : Type 0} (calls : Ghosts P) (deliveries : List Delivery) (ps qs : List P) → EachFollows calls deliveries ps qs → EachStays calls ps qs → EachOpenHears calls deliveries ps qs
hears_first calls deliveries [] [] h s = tt
hears_first calls deliveries [] (q ∷ qs) h s = absurd h
hears_first calls deliveries (p ∷ ps) [] h s = absurd h
hears_first calls deliveries (p ∷ ps) (q ∷ qs) h s =
    (λ is_open. follows_open (calls.told p) (calls.told q) deliveries h.0 (s.0 ∙ is_open), hears_first calls deliveries ps qs h.1 s.1)

-- where nothing is delivered, each open processor hears nothing, also one that closes
pub hears_no_delivery : {P : Type 0} (calls : Ghosts P) (ps qs : List P) → EachFollows calls [] ps qs → EachOpenHears calls [] ps qs
hears_no_delivery calls [] [] h = tt
hears_no_delivery calls [] (q ∷ qs) h = absurd h
hears_no_delivery calls (p ∷ ps) [] h = absurd h
hears_no_delivery calls (p ∷ ps) (q ∷ qs) h = (λ _. follows_none (calls.told p) (calls.told q) h.0, hears_no_delivery calls ps qs h.1)

-- one list of deliveries, over which no processor closes, and then another
pub hears_on : {P : Type 0} (calls : Ghosts P) (xs ys : List Delivery) (ps qs us : List P) → EachOpenHears calls xs ps qs → EachStays calls ps qs → EachOpenHears calls ys qs us → EachOpenHears calls (xs ++ ys) ps us
hears_on calls xs ys [] [] [] h s k = tt
hears_on calls xs ys [] [] (u ∷ us) h s k = absurd k
hears_on calls xs ys [] (q ∷ qs) us h s k = absurd h
hears_on calls xs ys (p ∷ ps) [] us h s k = absurd h
hears_on calls xs ys (p ∷ ps) (q ∷ qs) [] h s k = absurd k
hears_on calls xs ys (p ∷ ps) (q ∷ qs) (u ∷ us) h s k =
    (λ is_open. hears_append (calls.told p) (calls.told q) (calls.told u) xs ys (h.0 is_open) (k.0 (s.0 ∙ is_open)), hears_on calls xs ys ps qs us h.1 s.1 k.1)

-- processors that tell what they told stay open or shut
pub stays_same : {P : Type 0} (calls : Ghosts P) (ps qs : List P) → map calls.told qs ≡ map calls.told ps → EachStays calls ps qs
stays_same calls [] [] e = tt
stays_same calls [] (q ∷ qs) e = cc
stays_same calls (p ∷ ps) [] e = cc
stays_same calls (p ∷ ps) (q ∷ qs) e =
    let first : calls.told q ≡ calls.told p = cc in
    let others : map calls.told qs ≡ map calls.told ps = cc in
    (ap (λ (t : ProcessorTelling). t.is_open) first, stays_same calls ps qs others)

-- and so do those of which each was asked what closes none
pub stays_asked : {P T E : Type 0} (calls : Ghosts P) (G : P → Result T E → P → Type 0)
    → ((p : P) (r : Result T E) (q : P) → G p r q → (calls.told q).is_open ≡ (calls.told p).is_open)
    → (ps qs : List P) (n : ℕ) → AsksAll G ps qs n → EachStays calls ps qs
stays_asked {P} {T} {E} calls G stays ps qs n h = each ps h.0 qs h.2
  where
    each : (ps : List P) (rs : List (Result T E)) (qs : List P) → Each G ps rs qs → EachStays calls ps qs
    each [] [] [] h = tt
    each [] [] (q ∷ qs) h = absurd h
    each [] (r ∷ rs) qs h = absurd h
    each (p ∷ ps) [] qs h = absurd h
    each (p ∷ ps) (r ∷ rs) [] h = absurd h
    each (p ∷ ps) (r ∷ rs) (q ∷ qs) h = (stays p r q h.0, each ps rs qs h.1)
