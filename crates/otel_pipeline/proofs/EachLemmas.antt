-- Loops over processors: one more was asked, and the others are as they were.
use Rattle.std.proofs.Common.{◌≡◌, ℕ, ◌+◌, ◌<◌, true, false, List, [], ◌∷◌, ◌++◌, Result, Ok, Err, refl, sym, ◌∙◌, ap, subst, length, take, drop, get_or, map, arith, add-zero, zero, suc, replicate, length-append}
use Rattle.std.specs.Result.{is_err, result_and}
use Rattle.std.proofs.Math.ListN.{set}
use Rattle.std.proofs.Math.Seq.{take-append_seam}
use Rattle.std.proofs.lemmas.List.{take_all, take_more, take_more_set, drop-set-lt, get_or-drop, drop-drop, length-drop, length-set}
use Rattle.std.proofs.lemmas.Slice.{drop-append-drop}
use Rattle.opentelemetry.specs.Plain.{PlainContext}
use Rattle.otel_pipeline.specs.Each.{Each, AsksAll, AsksFirst, error_count, first_failure}
use Rattle.otel_pipeline.specs.SpanHistory.{PlainSpan}
use Rattle.otel_pipeline.specs.Starting.{PassesThrough, TakesPart}
use Rattle.otel_pipeline.specs.declared.trace.span_processor.SpanProcessor.{Ghosts}

-- one more place
Each-push : {P R : Type 0} (G : P → R → P → Type 0) (ps : List P) (rs : List R) (qs : List P) {p : P} {r : R} {q : P} → Each G ps rs qs → G p r q → Each G (ps ++ p ∷ []) (rs ++ r ∷ []) (qs ++ q ∷ [])
Each-push G [] [] [] e h = (h, tt)
Each-push G [] [] (q ∷ qs) e h = absurd e
Each-push G [] (r ∷ rs) qs e h = absurd e
Each-push G (p ∷ ps) [] qs e h = absurd e
Each-push G (p ∷ ps) (r ∷ rs) [] e h = absurd e
Each-push G (p ∷ ps) (r ∷ rs) (q ∷ qs) e h = (e.0, Each-push G ps rs qs e.1 h)

-- the count with one answer more
abbrev pub with_answer : {T E : Type 0} → Result T E → ℕ → ℕ
with_answer (Ok _) n = n
with_answer (Err _) n = n + 1

-- one more answer
error_count-push : {T E : Type 0} (rs : List (Result T E)) (r : Result T E) → error_count (rs ++ r ∷ []) ≡ with_answer r (error_count rs)
error_count-push [] (Ok _) = refl
error_count-push [] (Err _) = refl
error_count-push (Ok _ ∷ rs) r = error_count-push rs r
error_count-push (Err _ ∷ rs) (Ok a) = ap (λ n. n + 1) (error_count-push rs (Ok a))
error_count-push (Err _ ∷ rs) (Err a) = ap (λ n. n + 1) (error_count-push rs (Err a))

-- one more was asked
pub asked_push : {P T E : Type 0} (G : P → Result T E → P → Type 0) (ps qs : List P) (n : ℕ) (p : P) (r : Result T E) (q : P) → AsksAll G ps qs n → G p r q → AsksAll G (ps ++ p ∷ []) (qs ++ q ∷ []) (with_answer r n)
asked_push G ps qs n p r q (rs, counted, each) h = (rs ++ r ∷ [], error_count-push rs r ∙ ap (with_answer r) counted, Each-push G ps rs qs each h)

-- the processor that comes next is as it was
pub at_front : {P : Type 0} (init now : List P) (i : ℕ) (d : P) → drop i now ≡ drop i init → get_or now i d ≡ get_or init i d
at_front init now i d h = sym (rw add-zero at (get_or-drop i now 0 d)) ∙ ap (λ xs. get_or xs 0 d) h ∙ (rw add-zero at (get_or-drop i init 0 d))

asked_more : {P T E : Type 0} (G : P → Result T E → P → Type 0) (init now : List P) (i n : ℕ) (d q : P) (r : Result T E)
    → i < length init → length now ≡ length init → drop i now ≡ drop i init → AsksAll G (take i init) (take i now) n → G (get_or now i d) r q
    → AsksAll G (take (i + 1) init) (take (i + 1) (set now i q)) (with_answer r n)
asked_more G init now i n d q r short same rest asked h =
    rw (take_more init i d short, take_more_set now i q (omega arith))
    (asked_push G (take i init) (take i now) n (get_or init i d) r q asked (subst (λ x. G x r q) (at_front init now i d rest) h))

-- the others stay as they were
pub rest_more : {P : Type 0} (init now : List P) (i : ℕ) (q : P) → drop i now ≡ drop i init → drop (i + 1) (set now i q) ≡ drop (i + 1) init
rest_more init now i q h = drop-set-lt (i + 1) now i q (omega arith) ∙ sym (drop-drop 1 i now) ∙ ap (drop 1) h ∙ drop-drop 1 i init

-- an error counts
pub err_answer : {T E : Type 0} (r : Result T E) (n : ℕ) → is_err r ≡ true → with_answer r n ≡ n + 1
err_answer (Ok _) n h = cc
err_answer (Err _) n h = refl

-- Ok does not
pub ok_answer : {T E : Type 0} (r : Result T E) (n : ℕ) → is_err r ≡ false → with_answer r n ≡ n
ok_answer (Ok _) n h = refl
ok_answer (Err _) n h = cc

-- one more was asked, and the count is as the answer says
pub asked_next : {P T E : Type 0} (G : P → Result T E → P → Type 0) (init now : List P) (i n m : ℕ) (d q : P) (r : Result T E)
    → i < length init → length now ≡ length init → drop i now ≡ drop i init → AsksAll G (take i init) (take i now) n → G (get_or now i d) r q → with_answer r n ≡ m
    → AsksAll G (take (i + 1) init) (take (i + 1) (set now i q)) m
asked_next G init now i n m d q r short same rest asked h e = subst (λ k. AsksAll G (take (i + 1) init) (take (i + 1) (set now i q)) k) e (asked_more G init now i n d q r short same rest asked h)

-- the last of several copies
pub last_copy : {X : Type 0} (n : ℕ) (d : X) (xs : List X) (x : X) → xs ++ x ∷ [] ≡ replicate (suc n) d → (xs ≡ replicate n d) × (x ≡ d)
last_copy zero d [] x h = (refl, cc)
last_copy zero d (y ∷ ys) x h = absurd (omega (arith, ap length h, length-append ys (x ∷ [])))
last_copy (suc n) d [] x h = absurd (omega (arith, ap length h))
last_copy (suc n) d (y ∷ ys) x h =
    let first : y ≡ d = cc in
    let others : ys ++ x ∷ [] ≡ replicate (suc n) d = cc in
    let r = last_copy n d ys x others in
    (ap (λ z. z ∷ ys) first ∙ ap (λ zs. d ∷ zs) r.0, r.1)

-- a change that keeps what a function says of the item keeps what it says of each
pub map_kept : {X Y : Type 0} (f : X → Y) (xs : List X) (i : ℕ) (d x : X) → i < length xs → f x ≡ f (get_or xs i d) → map f (set xs i x) ≡ map f xs
map_kept f [] i d x h e = absurd (omega arith)
map_kept f (y ∷ xs) zero d x h e = ap (λ z. z ∷ map f xs) e
map_kept f (y ∷ xs) (suc i) d x h e = ap (λ zs. f y ∷ zs) (map_kept f xs i d x (omega arith) e)

-- a span passed through one processor more
PassesThrough-push : {P : Type 0} (calls : Ghosts P) (cx : PlainContext) (x : PlainSpan) (ps qs : List P) (y z : PlainSpan) (p q : P)
    → PassesThrough calls cx x ps qs y → TakesPart calls cx y p z q → PassesThrough calls cx x (ps ++ p ∷ []) (qs ++ q ∷ []) z
PassesThrough-push calls cx x [] [] y z p q e h = (z, subst (λ (w : PlainSpan). TakesPart calls cx w p z q) e h, refl)
PassesThrough-push calls cx x [] (r ∷ qs) y z p q e h = absurd e
PassesThrough-push calls cx x (r ∷ ps) [] y z p q e h = absurd e
PassesThrough-push calls cx x (r ∷ ps) (s ∷ qs) y z p q e h = (e.0, e.1, PassesThrough-push calls cx e.0 ps qs y z p q e.2 h)

-- the same in a loop by index
pub passes_next : {P : Type 0} (calls : Ghosts P) (cx : PlainContext) (x : PlainSpan) (init now : List P) (i : ℕ) (d q : P) (y z : PlainSpan)
    → i < length init → length now ≡ length init → drop i now ≡ drop i init → PassesThrough calls cx x (take i init) (take i now) y
    → TakesPart calls cx y (get_or now i d) z q → PassesThrough calls cx x (take (i + 1) init) (take (i + 1) (set now i q)) z
passes_next calls cx x init now i d q y z short same rest passed h =
    rw (take_more init i d short, take_more_set now i q (omega arith))
    (PassesThrough-push calls cx x (take i init) (take i now) y z (get_or init i d) q passed (subst (λ w. TakesPart calls cx y w z q) (at_front init now i d rest) h))

-- all but the last were asked, and then the last
pub asked_last : {P T E : Type 0} (G : P → Result T E → P → Type 0) (init front : List P) (last n m : ℕ) (d q : P) (r : Result T E)
    → last + 1 ≡ length init → length front ≡ last → AsksAll G (take last init) front n → G (get_or (front ++ drop last init) last d) r q → with_answer r n ≡ m
    → AsksAll G init (set (front ++ drop last init) last q) m
asked_last {P} {T} {E} G init front last n m d q r whole size asked h e =
    let now : List P = front ++ drop last init in
    let same : length now ≡ length init = omega (arith, length-append front (drop last init), length-drop last init) in
    let rest : drop last now ≡ drop last init = drop-append-drop last init front last (omega arith) size in
    let front_is : take last now ≡ front = subst (λ (k : ℕ). take k now ≡ front) size (take-append_seam front (drop last init)) in
    let step = asked_next G init now last n m d q r (omega arith) same rest (subst (λ (l : List P). AsksAll G (take last init) l n) (sym front_is) asked) h e in
    let init_is : take (last + 1) init ≡ init = take_all (last + 1) init (omega arith) in
    let now_is : take (last + 1) (set now last q) ≡ set now last q = take_all (last + 1) (set now last q) (omega (arith, length-set now last q)) in
    subst (λ (l : List P). AsksAll G init l m) now_is (subst (λ (l : List P). AsksAll G l (take (last + 1) (set now last q)) m) init_is step)

-- one more answer: the first error stays the first
first_failure-push : {E : Type 0} (rs : List (Result (Unit {0}) E)) (r : Result (Unit {0}) E) → first_failure (rs ++ r ∷ []) ≡ result_and (first_failure rs) r
first_failure-push [] (Ok _) = refl
first_failure-push [] (Err _) = refl
first_failure-push (Ok _ ∷ rs) r = first_failure-push rs r
first_failure-push (Err _ ∷ rs) r = refl

-- one more was asked, and the answer is the first error so far
pub first_next : {P E : Type 0} (G : P → Result (Unit {0}) E → P → Type 0) (init now : List P) (i : ℕ) (d q : P) (answer r said : Result (Unit {0}) E)
    → i < length init → length now ≡ length init → drop i now ≡ drop i init → AsksFirst G (take i init) (take i now) answer → G (get_or now i d) r q → said ≡ result_and answer r
    → AsksFirst G (take (i + 1) init) (take (i + 1) (set now i q)) said
first_next G init now i d q answer r said short same rest (rs, first, each) h e =
    let asked : G (get_or init i d) r q = subst (λ x. G x r q) (at_front init now i d rest) h in
    let answered = first_failure-push rs r ∙ ap (λ x. result_and x r) first ∙ sym e in
    rw (take_more init i d short, take_more_set now i q (omega arith))
    (rs ++ r ∷ [], answered, Each-push G (take i init) rs (take i now) each asked)
