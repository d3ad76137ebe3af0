-- What comes next, piece by piece.
use Rattle.std.proofs.Common.{◌≡◌, ℕ, ◌+◌, Bool, true, false, cond, List, [], ◌∷◌, ◌++◌, length}
use Rattle.std.proofs.Common.{ap, sym, subst, refl, ◌∙◌, append_assoc, append-nil, length-append, arith, ◌-◌, IsTrue}
use Rattle.std.proofs.lemmas.List.{map-append}
use Rattle.otel_protobuf.specs.Wire.{after_length, fields_of, message, nested, repeated}
use Rattle.otel_protobuf.specs.Wire.{Field, Wire, key_bytes, message_bytes, varint_bytes, wire_bytes, wire_type}
use Rattle.otel_protobuf.specs.Progress.{Progress, Takes, TakesFields}

both_written : (counts : Bool) (old middle new a b : List ℕ) → middle ≡ cond counts old (b ++ old)
    → new ≡ cond counts middle (a ++ middle) → new ≡ cond counts old ((a ++ b) ++ old)
both_written true old middle new a b h k = k ∙ h
both_written false old middle new a b h k = k ∙ ap (λ bs. a ++ bs) h ∙ sym (append_assoc a b old)

-- bytes, and others before them, which are taken after them
pub and_then : {old middle new : Progress} {a b : List ℕ} → Takes middle new a → Takes old middle b
    → Takes old new (a ++ b)
and_then {old} {middle} {new} {a} {b} k h = record {
  before = k.before ∙ h.before;
  only_counts = k.only_counts ∙ h.only_counts;
  whole = λ w. h.whole (k.whole w);
  left = λ w. omega (arith, h.left (k.whole w), k.left w, length-append a b);
  written = λ w. both_written old.only_counts old.written middle.written new.written a b (h.written (k.whole w))
      (subst (λ (counts : Bool). new.written ≡ cond counts middle.written (a ++ middle.written)) h.only_counts
      (k.written w));
}

none_written : (counts : Bool) (old : List ℕ) → old ≡ cond counts old old
none_written true old = refl
none_written false old = refl

-- nothing
pub nothing : (old : Progress) → Takes old old []
nothing old = record {
  before = refl;
  only_counts = refl;
  whole = λ w. w;
  left = λ w. omega arith;
  written = λ w. none_written old.only_counts old.written;
}

-- what is the same bytes where nothing went wrong
pub when_whole : {old new : Progress} {a b : List ℕ} → (IsTrue new.is_whole → a ≡ b) → Takes old new a
    → Takes old new b
when_whole {old} {new} {a} {b} e h = record {
  before = h.before;
  only_counts = h.only_counts;
  whole = h.whole;
  left = λ w. subst (λ (bs : List ℕ). old.left ≡ new.left + length bs) (e w) (h.left w);
  written = λ w. subst (λ (bs : List ℕ). new.written ≡ cond old.only_counts old.written (bs ++ old.written)) (e w)
      (h.written w);
}

-- the same bytes, put otherwise
pub as_bytes : {old new : Progress} {a b : List ℕ} → a ≡ b → Takes old new a → Takes old new b
as_bytes {old} {new} e h = subst (λ (bs : List ℕ). Takes old new bs) e h

-- fields, and others before them, which are taken after them
pub fields_joined : (a b : List Field) → message_bytes (a ++ b) ≡ message_bytes a ++ message_bytes b
fields_joined [] b = refl
fields_joined (f ∷ fs) b =
    ap (λ bs. key_bytes f.0 (wire_type f.1) ++ (wire_bytes f.1 ++ bs)) (fields_joined fs b)
    ∙ ap (λ bs. key_bytes f.0 (wire_type f.1) ++ bs)
    (sym (append_assoc (wire_bytes f.1) (message_bytes fs) (message_bytes b)))
    ∙ sym (append_assoc (key_bytes f.0 (wire_type f.1)) (wire_bytes f.1 ++ message_bytes fs) (message_bytes b))

pub and_fields : {old middle new : Progress} (a b : List Field) → TakesFields middle new a
    → TakesFields old middle b → TakesFields old new (a ++ b)
and_fields a b k h = as_bytes (sym (fields_joined a b)) (and_then k h)

-- one field: its key, and what it holds
pub one_field : {old middle new : Progress} (number : ℕ) (wire : Wire)
    → Takes middle new (key_bytes number (wire_type wire)) → Takes old middle (wire_bytes wire)
    → TakesFields old new ((number, wire) ∷ [])
one_field number wire k h =
    as_bytes (ap (λ bs. key_bytes number (wire_type wire) ++ bs) (sym (append-nil (wire_bytes wire)))) (and_then k h)

-- the same fields, put otherwise
pub as_fields : {old new : Progress} {a b : List Field} → a ≡ b → TakesFields old new a → TakesFields old new b
as_fields {old} {new} e h = subst (λ (fs : List Field). TakesFields old new fs) e h

-- bytes, and then how many they are
pub length_taken : {old middle new : Progress} {bs : List ℕ} (end : ℕ) → end ≡ old.left → Takes old middle bs
    → Takes middle new (varint_bytes (end - middle.left)) → Takes old new (after_length bs)
length_taken {old} {middle} {new} {bs} end e h k =
    let size : IsTrue new.is_whole → end - middle.left ≡ length bs =
    λ w. let taken = h.left (k.whole w) in omega (arith, e, taken) in
    and_then (when_whole (λ w. ap varint_bytes (size w)) k) h

-- the last message, and those before it
pub last_message : {X : Type 0} (number : ℕ) (fields : X → List Field) (xs : List X) (x : X)
    → repeated number fields xs ++ nested number (fields x) ≡ repeated number fields (xs ++ x ∷ [])
last_message {X} number fields xs x =
    let wrap : X → Field = λ y. (number, message (fields_of (fields y))) in sym (map-append wrap xs (x ∷ []))
