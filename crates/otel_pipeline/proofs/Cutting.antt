-- Lists that are cut at a limit.
use Rattle.std.proofs.Common.{◌≡◌, ℕ, ◌+◌, ◌-◌, ◌++◌, ◌≤◌, ◌<◌, List, [], ◌∷◌, take, drop, map, get_or, set, length, ap, ◌∙◌, sym, arith, append-nil}
use native.Mathlib.Decide.{dec_lt}
use Rattle.std.proofs.Math.Seq.{take-append-add}
use Rattle.std.proofs.lemmas.List.{length-take-le, take-append-le, take_all, take_more, take_more_set, map-append, map-id}
use Rattle.otel_export.specs.PlainSpanData.{cut_at}
use Rattle.otel_pipeline.proofs.EachLemmas.{at_front}

-- the first list fills the limit
full : {X : Type 0} (limit : ℕ) (xs ys : List X) → limit ≤ length xs → cut_at limit xs ++ cut_at (limit - length (cut_at limit xs)) ys ≡ cut_at limit (xs ++ ys)
full limit xs ys h =
    let size : length (take limit xs) ≡ limit = length-take-le limit xs h in
    let none : limit - length (take limit xs) ≡ 0 = omega (arith, size) in
    ap (λ n. take limit xs ++ take n ys) none ∙ append-nil (take limit xs) ∙ sym (take-append-le limit xs ys h)

-- it does not
short : {X : Type 0} (limit : ℕ) (xs ys : List X) → length xs ≤ limit → cut_at limit xs ++ cut_at (limit - length (cut_at limit xs)) ys ≡ cut_at limit (xs ++ ys)
short limit xs ys h =
    let same : take limit xs ≡ xs = take_all limit xs h in
    let whole : length xs + (limit - length xs) ≡ limit = omega arith in
    ap (λ zs. zs ++ take (limit - length zs) ys) same ∙ sym (take-append-add xs ys (limit - length xs)) ∙ ap (λ n. take n (xs ++ ys)) whole

-- what is kept of two lists joined: of the second what finds room after the first
pub cut_joined : {X : Type 0} (limit : ℕ) (xs ys : List X) → cut_at limit xs ++ cut_at (limit - length (cut_at limit xs)) ys ≡ cut_at limit (xs ++ ys)
cut_joined limit xs ys = elim (dec_lt (length xs) limit) [ Prim.yes h ↦ short limit xs ys (omega arith) | Prim.no h ↦ full limit xs ys (omega arith) ]

-- in a loop by index that changes each item, of which g shows what h makes of it, one more is changed
pub shown_next : {X Y : Type 0} (g h : X → Y) (init now : List X) (i : ℕ) (d q : X) → i < length init → length now ≡ length init → drop i now ≡ drop i init → map g (take i now) ≡ map h (take i init) → g q ≡ h (get_or now i d)
    → map g (take (i + 1) (set now i q)) ≡ map h (take (i + 1) init)
shown_next {X} {Y} g h init now i d q short same rest changed e =
    let item : g q ≡ h (get_or init i d) = e ∙ ap h (at_front init now i d rest) in
    rw (take_more init i d short, take_more_set now i q (omega arith))
    (map-append g (take i now) (q ∷ []) ∙ ap (λ (ys : List Y). ys ++ g q ∷ []) changed ∙ ap (λ (y : Y). map h (take i init) ++ y ∷ []) item ∙ sym (map-append h (take i init) (get_or init i d ∷ [])))

-- the same where each item is seen whole
pub changed_next : {X : Type 0} (f : X → X) (init now : List X) (i : ℕ) (d q : X) → i < length init → length now ≡ length init → drop i now ≡ drop i init → take i now ≡ map f (take i init) → q ≡ f (get_or now i d)
    → take (i + 1) (set now i q) ≡ map f (take (i + 1) init)
changed_next {X} f init now i d q short same rest changed e =
    sym (map-id (take (i + 1) (set now i q))) ∙ shown_next (λ (x : X). x) f init now i d q short same rest (map-id (take i now) ∙ changed) e
