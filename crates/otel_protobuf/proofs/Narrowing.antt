-- What a reader of numbers of 64 bits reads, the grammar reads so too.
use Rattle.std.proofs.Common.{◌≡◌, ℕ, zero, suc, ◌+◌, ◌-◌, ◌*◌, ◌/◌, ◌%◌, ◌^◌, Bool, true, false, cond, List, [], ◌∷◌, Option, Some, None, ap, refl, ◌∙◌}
use Rattle.std.specs.Prelude.{nat_lt, option_and_then, option_map}
use Rattle.otel_protobuf.specs.Reading.{Raw, Read, number, sized, fields_in, fitting, read_64, read_field, read_fields}
use Rattle.otel_protobuf.specs.Reading.{read_raw, read_short, read_some, read_varint}

-- what is read by one reader is read so by another
abbrev Reads : {X : Type 0} → Read X → Read X → Type 0
Reads {X} narrow wide = (r : X × List ℕ) → narrow ≡ Some r → wide ≡ Some r

fits_is : (is_small : Bool) (n : ℕ) (rest : List ℕ) (r : ℕ × List ℕ)
    → ◌≡◌ {A = Read ℕ} (cond is_small (Some (n, rest)) None) (Some r) → ◌≡◌ {A = Read ℕ} (Some (n, rest)) (Some r)
fits_is true n rest r h = h
fits_is false n rest r h = absurd cc

byte_is : (is_last : Bool) (b : ℕ) (bs : List ℕ) (narrow wide : Read ℕ) → Reads narrow wide
    → Reads (cond is_last (Some (b, bs)) (option_and_then (λ r. fitting (b - 128 + 128 * r.0) r.1) narrow))
    (cond is_last (Some (b, bs)) (option_map (λ r. (b - 128 + 128 * r.0, r.1)) wide))
byte_is true b bs narrow wide reads = λ r h. h
byte_is false b bs None wide reads = λ r h. absurd cc
byte_is false b bs (Some q) wide reads = λ r h.
    ap (option_map (λ (p : ℕ × List ℕ). (b - 128 + 128 * p.0, p.1))) (reads q refl)
    ∙ fits_is (nat_lt (b - 128 + 128 * q.0) (2 ^ 64)) (b - 128 + 128 * q.0) q.1 r h

short_is : (more : ℕ) (bs : List ℕ) → Reads (read_short more bs) (read_varint bs)
short_is zero bs = λ r h. absurd cc
short_is (suc more) [] = λ r h. absurd cc
short_is (suc more) (b ∷ bs) =
    byte_is (nat_lt b 128) b bs (read_short more bs) (read_varint bs) (short_is more bs)

-- what goes on with what was read
then_is : {X Y : Type 0} (next other : X × List ℕ → Read Y) → ((p : X × List ℕ) → Reads (next p) (other p))
    → (narrow wide : Read X) → Reads narrow wide → Reads (option_and_then next narrow) (option_and_then other wide)
then_is next other follows None wide reads = λ r h. absurd cc
then_is next other follows (Some p) wide reads = λ r h. ap (option_and_then other) (reads p refl) ∙ follows p r h

map_is : {X Y : Type 0} (f : X × List ℕ → Y × List ℕ) (narrow wide : Read X) → Reads narrow wide
    → Reads (option_map f narrow) (option_map f wide)
map_is f None wide reads = λ r h. absurd cc
map_is f (Some p) wide reads = λ r h. ap (option_map f) (reads p refl) ∙ h

raw_is : (kind : ℕ) (bs : List ℕ) → Reads (read_raw read_64 kind bs) (read_raw read_varint kind bs)
raw_is zero bs = map_is (λ r. (number r.0, r.1)) (read_64 bs) (read_varint bs) (short_is 10 bs)
raw_is (suc zero) bs = λ r h. h
raw_is (suc (suc zero)) bs =
    then_is (λ (p : ℕ × List ℕ). option_map (λ r. (sized r.0, r.1)) (read_some p.0 p.1))
    (λ (p : ℕ × List ℕ). option_map (λ r. (sized r.0, r.1)) (read_some p.0 p.1)) (λ p r h. h) (read_64 bs)
    (read_varint bs) (short_is 10 bs)
raw_is (suc (suc (suc zero))) bs = λ r h. h
raw_is (suc (suc (suc (suc zero)))) bs = λ r h. h
raw_is (suc (suc (suc (suc (suc zero))))) bs = λ r h. h
raw_is (suc (suc (suc (suc (suc (suc kind)))))) bs = λ r h. h

field_is : (bs : List ℕ) → Reads (read_field read_64 bs) (read_field read_varint bs)
field_is bs =
    then_is (λ (key : ℕ × List ℕ). option_map (λ r. ((key.0 / 8, r.0), r.1)) (read_raw read_64 (key.0 % 8) key.1))
    (λ (key : ℕ × List ℕ). option_map (λ r. ((key.0 / 8, r.0), r.1)) (read_raw read_varint (key.0 % 8) key.1))
    (λ key. map_is (λ r. ((key.0 / 8, r.0), r.1)) (read_raw read_64 (key.0 % 8) key.1)
    (read_raw read_varint (key.0 % 8) key.1) (raw_is (key.0 % 8) key.1)) (read_64 bs) (read_varint bs)
    (short_is 10 bs)

-- lists of fields
abbrev Lists : Option (List (ℕ × Raw)) → Option (List (ℕ × Raw)) → Type 0
Lists narrow wide = (fs : List (ℕ × Raw)) → narrow ≡ Some fs → wide ≡ Some fs

more_is : (f : ℕ × Raw) (narrow wide : Option (List (ℕ × Raw))) → Lists narrow wide
    → Lists (option_map (λ fs. f ∷ fs) narrow) (option_map (λ fs. f ∷ fs) wide)
more_is f None wide reads = λ fs h. absurd cc
more_is f (Some gs) wide reads = λ fs h. ap (option_map (λ (xs : List (ℕ × Raw)). f ∷ xs)) (reads gs refl) ∙ h

first_is : (next other : List ℕ → Option (List (ℕ × Raw))) → ((bs : List ℕ) → Lists (next bs) (other bs))
    → (narrow wide : Read (ℕ × Raw)) → Reads narrow wide
    → Lists (option_and_then (λ r. option_map (λ fs. r.0 ∷ fs) (next r.1)) narrow)
    (option_and_then (λ r. option_map (λ fs. r.0 ∷ fs) (other r.1)) wide)
first_is next other follows None wide reads = λ fs h. absurd cc
first_is next other follows (Some r) wide reads = λ fs h.
    ap (option_and_then (λ (p : (ℕ × Raw) × List ℕ). option_map (λ fs. p.0 ∷ fs) (other p.1))) (reads r refl)
    ∙ more_is r.0 (next r.1) (other r.1) (follows r.1) fs h

fields_are : (more : ℕ) (bs : List ℕ) → Lists (read_fields read_64 more bs) (read_fields read_varint more bs)
unfolding read_fields
fields_are zero [] = λ fs h. h
fields_are (suc more) [] = λ fs h. h
fields_are zero (b ∷ bs) = λ fs h. absurd cc
fields_are (suc more) (b ∷ bs) =
    first_is (read_fields read_64 more) (read_fields read_varint more) (fields_are more)
    (read_field read_64 (b ∷ bs)) (read_field read_varint (b ∷ bs)) (field_is (b ∷ bs))

pub narrow_reading : (bs : List ℕ) (fs : List (ℕ × Raw)) → fields_in read_64 bs ≡ Some fs
    → fields_in read_varint bs ≡ Some fs
narrow_reading bs fs h = fields_are _ bs fs h
