-- The fields of a message, member by member.
use Rattle.std.proofs.Common.{◌≡◌, ℕ, List, [], ◌∷◌, ◌++◌, Option, ap, arith, length, refl, map, ◌∙◌}
use Rattle.otel_resource.specs.Resource.{non_empty}
use Rattle.otel_otlp.specs.Otlp.{or_empty}
use Rattle.otel_otlp_protobuf.specs.Said.{Member, items_fields, items_of, message_fields}
use Rattle.otel_protobuf.proofs.Taking.{and_fields, as_fields, nothing}
use Rattle.otel_protobuf.specs.Progress.{Progress, TakesFields}
use Rattle.otel_protobuf.specs.Wire.{Field, fields_of, message, repeated}

-- messages of one name, as they are written
pub many_fields : {X : Type 0} (n : ℕ) (members : X → List Member) (xs : List X)
    → repeated n (λ x. message_fields (members x)) xs ≡ items_fields n (items_of (map members xs))
many_fields n members [] = refl
many_fields n members (x ∷ xs) =
    let first : Field = (n, message (fields_of (message_fields (members x)))) in
    ap (λ (fs : List Field). first ∷ fs) (many_fields n members xs)

pub many_taken : {X : Type 0} {old new : Progress} (n : ℕ) (members : X → List Member) (xs ys : List X) → xs ≡ ys
    → TakesFields old new (repeated n (λ x. message_fields (members x)) xs)
    → TakesFields old new (items_fields n (items_of (map members ys)))
many_taken {X} n members xs ys e h =
    as_fields (ap (λ (zs : List X). items_fields n (items_of (map members zs))) e)
    (as_fields (many_fields n members xs) h)

-- the last member
pub last : {old new : Progress} (a : List Field) → TakesFields old new a → TakesFields old new (a ++ [])
last {old} {new} a h = and_fields a [] h (nothing old)

-- a list without an item
pub none_left : {X : Type 0} (xs : List X) → length xs ≡ 0 → [] ≡ xs
none_left [] e = refl
none_left (x ∷ xs) e = absurd (omega arith)

-- a text that is none where it is empty
or_none : (text : List ℕ) → or_empty (non_empty text) ≡ text
or_none [] = refl
or_none (b ∷ bs) = refl

pub known_text : (given : Option (List ℕ)) (text : List ℕ) → given ≡ non_empty text → or_empty given ≡ text
known_text given text e = ap or_empty e ∙ or_none text

-- a change of each item and then another one
pub mapped_twice : {X Y Z : Type 0} (f : Y → Z) (g : X → Y) (xs : List X) → map (λ x. f (g x)) xs ≡ map f (map g xs)
mapped_twice f g [] = refl
mapped_twice {Z = Z} f g (x ∷ xs) = ap (λ (zs : List Z). f (g x) ∷ zs) (mapped_twice f g xs)
