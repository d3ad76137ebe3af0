-- What was read in pieces, and where their lines end.
use Rattle.std.specs.Prelude.{OnErr}
use Rattle.std.proofs.Common.{◌≡◌, ◌≢◌, ℕ, true, false, Result, Ok, Err, ◌+◌, ◌-◌, ◌<◌, ◌≤◌, List, [], ◌∷◌, ◌++◌, length, get_or, take, drop, Option, sym, ap, subst, ◌∙◌, arith, length-drop, length-take, drop-cons, add-one}
use Rattle.std.proofs.Math.Seq.{drop-append-add, paste, take-add}
use Rattle.std.proofs.lemmas.List.{drop-append-le, drop-take, drop_all, get_or-append-add, take-append-drop, take-take}
use Rattle.std.proofs.lemmas.List.Edits.{take-paste}
use Rattle.std.proofs.lemmas.List.Elements.{All-append, All-cons, All-nil}
use Rattle.std.proofs.KnownBytes.{Consumes-trans}
use Rattle.std.specs.Io.KnownBytes.{Consumes}
use Rattle.std.specs.List.{All}
use Rattle.std.proofs.lemmas.List.{get_or-take}
use Rattle.std.specs.Io.KnownBytes.{IsAtEnd}
use Rattle.otel_trace_session.specs.Pieces.{EndsNoLine, GivesLines, KeepsAll}

-- what stood after the lines, moved to the front
pub moved : (buffer now : List ℕ) (complete filled : ℕ) → complete ≤ filled → filled ≤ length buffer → now ≡ paste buffer 0 (drop complete buffer) (filled - complete)
    → take (filled - complete) now ≡ drop complete (take filled buffer)
moved buffer now complete filled within room e =
    let n = filled - complete in
    let most : n ≤ length (drop complete buffer) = omega (arith, length-drop complete buffer) in
    let joined : complete + n ≡ filled = omega arith in
    let first : take n (paste buffer 0 (drop complete buffer) n) ≡ take n (drop complete buffer) =
    ap (λ k. take k (paste buffer 0 (drop complete buffer) n)) (omega arith) ∙ take-paste buffer 0 (drop complete buffer) n (omega arith) most in
    ap (take n) e ∙ first ∙ sym (drop-take complete n buffer) ∙ ap (λ k. drop complete (take k buffer)) joined

-- no line ends after the end
pub ends_none : (bytes : List ℕ) (end : ℕ) → length bytes ≤ end → EndsNoLine (drop end bytes)
ends_none bytes end past = subst (λ (bs : List ℕ). All (λ b. b ≢ 10) bs) (sym (drop_all end bytes past)) (All-nil (λ b. b ≢ 10))

-- nor where one byte more is no line feed
pub ends_none_more : (bytes : List ℕ) (end : ℕ) → 0 < end → end ≤ length bytes → get_or bytes (end - 1) 0 ≢ 10 → EndsNoLine (drop end bytes) → EndsNoLine (drop (end - 1) bytes)
ends_none_more bytes end some within other after =
    let here : end - 1 < length bytes = omega arith in
    let next : (end - 1) + 1 ≡ end = omega arith in
    let parts : drop (end - 1) bytes ≡ get_or bytes (end - 1) 0 ∷ drop end bytes = drop-cons bytes (end - 1) 0 here ∙ ap (λ k. get_or bytes (end - 1) 0 ∷ drop k bytes) (sym (add-one (end - 1)) ∙ next) in
    subst (λ (bs : List ℕ). All (λ b. b ≢ 10) bs) (sym parts) (All-cons (λ b. b ≢ 10) (get_or bytes (end - 1) 0) (drop end bytes) other after)

-- a buffer that was read into keeps what stood in front
pub front_kept : (start old new : List ℕ) (before filled : ℕ) → before ≤ filled → take before old ≡ take before start → take filled new ≡ take filled old → take before new ≡ take before start
front_kept start old new before filled grown kept front =
    sym (take-take before filled new grown) ∙ ap (take before) front ∙ take-take before filled old grown ∙ kept

-- what was read so far, and what one read brought
read_parts : (old new : List ℕ) (before filled count : ℕ) → before ≤ filled → filled ≤ length new → take filled new ≡ take filled old
    → drop before (take (filled + count) new) ≡ drop before (take filled old) ++ take count (drop filled new)
read_parts old new before filled count grown within front =
    let long : before ≤ length (take filled new) = omega (arith, length-take filled new) in
    ap (drop before) (take-add filled count new) ∙ drop-append-le before (take filled new) (take count (drop filled new)) long
    ∙ ap (λ t. drop before t ++ take count (drop filled new)) front

pub read_more : (a b c : Option (List ℕ)) (old new : List ℕ) (before filled count : ℕ) → before ≤ filled → filled ≤ length new → take filled new ≡ take filled old
    → Consumes a b (drop before (take filled old)) → Consumes b c (take count (drop filled new)) → Consumes a c (drop before (take (filled + count) new))
read_more a b c old new before filled count grown within front first second =
    subst (Consumes a c) (sym (read_parts old new before filled count grown within front))
    (Consumes-trans a b c (drop before (take filled old)) (take count (drop filled new)) first second)

-- no line ended, and none ends in what one read brought
pub none_more : (old new piece : List ℕ) (before filled count : ℕ) → before ≤ filled → filled ≤ length new → take filled new ≡ take filled old
    → piece ≡ take count (drop filled new) → EndsNoLine (drop before (take filled old)) → EndsNoLine piece → EndsNoLine (drop before (take (filled + count) new))
none_more old new piece before filled count grown within front is first second =
    subst (λ (bs : List ℕ). All (λ b. b ≢ 10) bs) (sym (read_parts old new before filled count grown within front ∙ ap (λ t. drop before (take filled old) ++ t) (sym is)))
    (All-append (λ b. b ≢ 10) (drop before (take filled old)) piece first second)

-- a line ends in what one read brought
pub ends_in_more : (new piece : List ℕ) (before filled count end : ℕ) → before ≤ filled → filled + count ≤ length new → piece ≡ take count (drop filled new) → 0 < end → end ≤ length piece
    → get_or piece (end - 1) 0 ≡ 10 → EndsNoLine (drop end piece)
    → (before < filled + end) × (filled + end ≤ length (take (filled + count) new)) × (get_or (take (filled + count) new) (filled + end - 1) 0 ≡ 10) × EndsNoLine (drop (filled + end) (take (filled + count) new))
ends_in_more new piece before filled count end grown within is some most feed after =
    let parts : take (filled + count) new ≡ take filled new ++ piece = take-add filled count new ∙ ap (λ t. take filled new ++ t) (sym is) in
    let long : length (take filled new) ≡ filled = omega (arith, length-take filled new) in
    let last : filled + end - 1 ≡ length (take filled new) + (end - 1) = omega (arith, long) in
    let here : get_or (take (filled + count) new) (filled + end - 1) 0 ≡ 10 =
    ap (λ t. get_or t (filled + end - 1) 0) parts ∙ ap (λ k. get_or (take filled new ++ piece) k 0) last ∙ get_or-append-add (take filled new) piece (end - 1) 0 ∙ feed in
    let left : drop (filled + end) (take (filled + count) new) ≡ drop end piece =
    ap (drop (filled + end)) parts ∙ ap (λ k. drop (k + end) (take filled new ++ piece)) (sym long) ∙ drop-append-add (take filled new) piece end in (
      omega arith,
      omega (arith, length-take (filled + count) new, length-take count (drop filled new), length-drop filled new, ap length is),
      here,
      subst (λ (bs : List ℕ). All (λ b. b ≢ 10) bs) (sym left) after,
    )

-- what was there and what was read, cut after a line
pub cut_read : (new rest : List ℕ) (before filled end : ℕ) → before ≤ filled → end ≤ length (take filled new) → take before new ≡ rest
    → rest ++ drop before (take filled new) ≡ take end new ++ drop end (take filled new)
cut_read new rest before filled end grown within e =
    let most : end ≤ filled = omega (arith, length-take filled new) in
    ap (λ r. r ++ drop before (take filled new)) (sym e ∙ sym (take-take before filled new grown)) ∙ take-append-drop before (take filled new)
    ∙ sym (take-append-drop end (take filled new)) ∙ ap (λ t. t ++ drop end (take filled new)) (take-take end filled new most)

-- the one slice that was looked at
pub slice_read : (new seen : List ℕ) (filled count : ℕ) → seen ≡ new → take ((filled + count) - filled) (drop filled seen) ≡ take count (drop filled new)
slice_read new seen filled count same =
    let long : (filled + count) - filled ≡ count = omega arith in
    ap (λ k. take k (drop filled seen)) long ∙ ap (λ t. take count (drop filled t)) same

-- where no lines stand in front, the rest is all that was read
pub no_lines : (buffer : List ℕ) (complete filled : ℕ) → complete ≤ filled → filled ≤ length buffer → take complete buffer ≡ [] → complete ≡ 0
no_lines buffer complete filled within room e = let none : length (take complete buffer) ≡ 0 = ap length e in omega (arith, length-take complete buffer)

-- reading on gave lines
pub gives_lines : (a b : Option (List ℕ)) (old new rest : List ℕ) (complete filled now end : ℕ) → complete ≡ 0 → drop complete (take filled old) ≡ rest → take filled new ≡ take filled old → filled ≤ now
    → Consumes a b (drop filled (take now new))
    → (filled < end) × (end ≤ length (take now new)) × (get_or (take now new) (end - 1) 0 ≡ 10) × EndsNoLine (drop end (take now new))
    → GivesLines a b rest true (record { lines = take end new; rest = drop end (take now new) })
gives_lines a b old new rest complete filled now end zero is_rest front grown consumed ended =
    let was : take filled new ≡ rest = front ∙ ap (λ k. drop k (take filled old)) (sym zero) ∙ is_rest in
    let short : end ≤ now = let most = ended.1 in omega (arith, most, length-take now new) in
    let long : length (take end new) ≡ end = let most = ended.1 in omega (arith, most, length-take now new, length-take end new) in
    let above : filled < end = ended.0 in
    let same : get_or (take end new) (end - 1) 0 ≡ get_or (take now new) (end - 1) 0 = ap (λ t. get_or t (end - 1) 0) (sym (take-take end now new short)) ∙ get_or-take end (take now new) (end - 1) 0 (omega arith) in
    record {
      read = drop filled (take now new);
      consumed = consumed;
      joined = cut_read new rest filled now end grown ended.1 was;
      unended = ended.3;
      some = λ _. (omega arith, λ _. ap (λ k. get_or (take end new) (k - 1) 0) long ∙ same ∙ ended.2);
      last = λ (no : true ≡ false). let never : ⊥ = cc in absurd never;
    }

-- reading on came to the end
pub gives_last : (a b : Option (List ℕ)) (old new rest : List ℕ) (complete filled now : ℕ) → complete ≡ 0 → drop complete (take filled old) ≡ rest → take filled new ≡ take filled old → filled ≤ now → now ≤ length new
    → Consumes a b (drop filled (take now new)) → IsAtEnd b → GivesLines a b rest false (record { lines = take now new; rest = drop now (take now new) })
gives_last a b old new rest complete filled now zero is_rest front grown room consumed at_end =
    let was : take filled new ≡ rest = front ∙ ap (λ k. drop k (take filled old)) (sym zero) ∙ is_rest in
    let long : length (take now new) ≡ now = omega (arith, length-take now new) in
    let none : drop now (take now new) ≡ [] = drop_all now (take now new) (omega arith) in
    record {
      read = drop filled (take now new);
      consumed = consumed;
      joined = cut_read new rest filled now now grown (omega arith) was;
      unended = subst (λ (bs : List ℕ). All (λ b. b ≢ 10) bs) (sym none) (All-nil (λ b. b ≢ 10));
      some = λ (no : false ≡ true). let never : ⊥ = cc in absurd never;
      last = λ _. (none, at_end);
    }

-- reading on failed
pub unended_still : (old new : List ℕ) (complete filled now : ℕ) → complete ≡ 0 → take filled new ≡ take filled old → filled ≤ now
    → EndsNoLine (drop complete (take filled old)) → EndsNoLine (drop filled (take now new)) → EndsNoLine (drop complete (take now new))
unended_still old new complete filled now zero front grown first second =
    let whole : drop complete (take now new) ≡ drop complete (take filled old) ++ drop filled (take now new) =
    ap (λ k. drop k (take now new)) zero ∙ sym (take-append-drop filled (take now new)) ∙ ap (λ t. t ++ drop filled (take now new)) (take-take filled now new grown ∙ front ∙ ap (λ k. drop k (take filled old)) (sym zero)) in
    subst (λ (bs : List ℕ). All (λ b. b ≢ 10) bs) (sym whole) (All-append (λ b. b ≢ 10) (drop complete (take filled old)) (drop filled (take now new)) first second)

pub keeps_all : (a b : Option (List ℕ)) (old new rest : List ℕ) (complete filled now : ℕ) → complete ≡ 0 → drop complete (take filled old) ≡ rest → take filled new ≡ take filled old → filled ≤ now
    → Consumes a b (drop filled (take now new)) → EndsNoLine (drop complete (take filled old)) → EndsNoLine (drop filled (take now new))
    → KeepsAll a b rest (record { lines = take complete new; rest = drop complete (take now new) })
keeps_all a b old new rest complete filled now zero is_rest front grown consumed first second =
    let was : take filled new ≡ rest = front ∙ ap (λ k. drop k (take filled old)) (sym zero) ∙ is_rest in
    record {
      read = drop filled (take now new);
      consumed = consumed;
      joined = ap (λ r. r ++ drop filled (take now new)) (sym was ∙ sym (take-take filled now new grown)) ∙ take-append-drop filled (take now new) ∙ ap (λ k. drop k (take now new)) (sym zero);
      unended = unended_still old new complete filled now zero front grown first second;
      none = ap (λ k. take k new) zero;
    }

-- what holds, holds at an error
pub always_err : {T E : Type 0} {P : Type 0} (r : Result T E) → P → OnErr r P
always_err (Ok x) h = tt
always_err (Err e) h = h
