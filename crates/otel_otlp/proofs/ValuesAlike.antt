-- Values and attributes that are written alike are seen alike.
use Rattle.std.proofs.Common.{◌≡◌, ℕ, ℤ, Bool, true, false, List, [], ◌∷◌, Some, get_or, length, map, arith}
use Rattle.std.proofs.Common.{ap, sym, refl, ◌∙◌}
use Rattle.std.proofs.lemmas.Fmt.{signed_decimal_injective}
use Rattle.std.proofs.lemmas.List.{map-id}
use Rattle.std.specs.Bool.{passes}
use Rattle.std.specs.Float.Ieee.{Float, binary64, nan, inf, fin}
use Rattle.std.specs.Float.Parse.{parse_float}
use Rattle.std.specs.Int.{w64}
use Rattle.std.specs.List.{AllByRecursion}
use Rattle.std.specs.Prelude.{FitsSigned, ⊤}
use Rattle.json.specs.Json.{Json}
use Rattle.opentelemetry.specs.Plain.{PlainKeyValue, PlainValue, boolean, integer, text, booleans, integers, texts}
use Rattle.opentelemetry.specs.Plain.{double, doubles}
use Rattle.otel_float.proofs.Texts.{reads}
use Rattle.otel_otlp.specs.Fields.{list_json}
use Rattle.otel_otlp.specs.Fits.{AttributeFits, FloatFits, PairFits, ValueFits}
use Rattle.otel_otlp.specs.OtlpValues.{attribute_json, bool_json, double_json, integer_json, pair_json, text_json}
use Rattle.otel_otlp.specs.OtlpValues.{value_json}
use Rattle.otel_otlp.specs.Seen.{seen_attribute, seen_pair, seen_value}
use Rattle.otel_otlp.proofs.JsonParts.{first_in, lists_alike, name_in, part, text_part, truth_in}

bools_same : (a b : Bool) → ⊤ → ⊤ → bool_json a ≡ bool_json b → a ≡ b
bools_same a b h k e = ap (λ j. truth_in (part 0 j)) e

integers_same : (a b : ℤ) → FitsSigned w64 a → FitsSigned w64 b → integer_json a ≡ integer_json b → a ≡ b
integers_same a b h k e = signed_decimal_injective a b h.sfits k.sfits (ap (text_part 0) e)

texts_same : (a b : List ℕ) → ⊤ → ⊤ → text_json a ≡ text_json b → a ≡ b
texts_same a b h k e = ap (text_part 0) e

-- a number is of one float, and the three words are apart by their lengths
floats_same : (a b : Float) → FloatFits a → FloatFits b → double_json a ≡ double_json b → a ≡ b
floats_same nan nan h k e = refl
floats_same (inf true) (inf true) h k e = refl
floats_same (inf false) (inf false) h k e = refl
floats_same (fin s m x) (fin t n y) h k e =
    let one = reads (fin s m x) (passes _ h) in
    let other = reads (fin t n y) (passes _ k) in
    let same : Some (fin s m x) ≡ Some (fin t n y) =
    sym one.parses ∙ ap (λ j. parse_float binary64 (text_part 0 j)) e ∙ other.parses in
    cc
floats_same nan (inf true) h k e = absurd (omega (arith, ap (λ j. length (text_part 0 j)) e))
floats_same nan (inf false) h k e = absurd (omega (arith, ap (λ j. length (text_part 0 j)) e))
floats_same (inf true) nan h k e = absurd (omega (arith, ap (λ j. length (text_part 0 j)) e))
floats_same (inf false) nan h k e = absurd (omega (arith, ap (λ j. length (text_part 0 j)) e))
floats_same (inf true) (inf false) h k e = absurd (omega (arith, ap (λ j. length (text_part 0 j)) e))
floats_same (inf false) (inf true) h k e = absurd (omega (arith, ap (λ j. length (text_part 0 j)) e))
floats_same nan (fin t n y) h k e = absurd cc
floats_same (inf true) (fin t n y) h k e = absurd cc
floats_same (inf false) (fin t n y) h k e = absurd cc
floats_same (fin s m x) nan h k e = absurd cc
floats_same (fin s m x) (inf true) h k e = absurd cc
floats_same (fin s m x) (inf false) h k e = absurd cc

-- of texts and truths nothing is asked
pub anything : {X : Type 0} (xs : List X) → AllByRecursion (λ x. ⊤) xs
anything [] = tt
anything (x ∷ xs) = (tt, anything xs)

-- a text is no float
text_apart : (a : List ℕ) (x : Float) → text_json a ≡ double_json x → ⊥
text_apart a x e = omega (arith, ap (λ j. get_or (name_in j) 0 0) e)

-- the same of lists
lists_same : {X : Type 0} (json : X → Json) (P : X → Type 0)
    → ((x y : X) → P x → P y → json x ≡ json y → x ≡ y)
    → (xs ys : List X) → AllByRecursion P xs → AllByRecursion P ys
    → list_json json xs ≡ list_json json ys → xs ≡ ys
lists_same json P same xs ys h k e =
    sym (map-id xs) ∙ lists_alike json (λ x. x) P P same xs ys h k e ∙ map-id ys

-- lists of two kinds are written alike where both are empty alone
empty_alike : {X Y : Type 0} (json : X → Json) (other : Y → Json) (one : List X → PlainValue)
    (two : List Y → PlainValue) → seen_value (one []) ≡ seen_value (two [])
    → ((x : X) (y : Y) → json x ≡ other y → ⊥)
    → (xs : List X) (ys : List Y) → list_json json xs ≡ list_json other ys → seen_value (one xs) ≡ seen_value (two ys)
empty_alike json other one two none apart [] [] e = none
empty_alike json other one two none apart [] (y ∷ ys) e = absurd cc
empty_alike json other one two none apart (x ∷ xs) [] e = absurd cc
empty_alike json other one two none apart (x ∷ xs) (y ∷ ys) e = absurd (apart x y (ap first_in e))

values_alike : (v w : PlainValue) → ValueFits v → ValueFits w → value_json v ≡ value_json w
    → seen_value v ≡ seen_value w
values_alike (boolean a) (boolean b) h k e = ap (λ x. boolean x) (bools_same a b tt tt e)
values_alike (integer a) (integer b) h k e = ap (λ x. integer x) (integers_same a b h k e)
values_alike (text a) (text b) h k e = ap (λ x. text x) (texts_same a b tt tt e)
values_alike (booleans a) (booleans b) h k e =
    ap (λ x. booleans x)
    (lists_same bool_json (λ x. ⊤) bools_same a b (anything a) (anything b) (ap (λ j. part 0 (part 0 j)) e))
values_alike (integers a) (integers b) h k e =
    ap (λ x. seen_value (integers x))
    (lists_same integer_json (FitsSigned w64) integers_same a b h k (ap (λ j. part 0 (part 0 j)) e))
values_alike (texts a) (texts b) h k e =
    ap (λ x. seen_value (texts x))
    (lists_same text_json (λ x. ⊤) texts_same a b (anything a) (anything b) (ap (λ j. part 0 (part 0 j)) e))
values_alike (double a) (double b) h k e = ap (λ x. double x) (floats_same a b h k e)
values_alike (doubles a) (doubles b) h k e =
    ap (λ x. seen_value (doubles x))
    (lists_same double_json FloatFits floats_same a b h k (ap (λ j. part 0 (part 0 j)) e))
values_alike (booleans a) (integers b) h k e =
    empty_alike bool_json integer_json booleans integers refl (λ x y same. cc) a b (ap (λ j. part 0 (part 0 j)) e)
values_alike (booleans a) (texts b) h k e =
    empty_alike bool_json text_json booleans texts refl (λ x y same. cc) a b (ap (λ j. part 0 (part 0 j)) e)
values_alike (integers a) (booleans b) h k e =
    empty_alike integer_json bool_json integers booleans refl (λ x y same. cc) a b (ap (λ j. part 0 (part 0 j)) e)
values_alike (integers a) (texts b) h k e =
    empty_alike integer_json text_json integers texts refl (λ x y same. cc) a b (ap (λ j. part 0 (part 0 j)) e)
values_alike (texts a) (booleans b) h k e =
    empty_alike text_json bool_json texts booleans refl (λ x y same. cc) a b (ap (λ j. part 0 (part 0 j)) e)
values_alike (texts a) (integers b) h k e =
    empty_alike text_json integer_json texts integers refl (λ x y same. cc) a b (ap (λ j. part 0 (part 0 j)) e)
values_alike (booleans a) (doubles b) h k e =
    empty_alike bool_json double_json booleans doubles refl (λ x y same. cc) a b (ap (λ j. part 0 (part 0 j)) e)
values_alike (doubles a) (booleans b) h k e =
    empty_alike double_json bool_json doubles booleans refl (λ x y same. cc) a b (ap (λ j. part 0 (part 0 j)) e)
values_alike (integers a) (doubles b) h k e =
    empty_alike integer_json double_json integers doubles refl (λ x y same. cc) a b (ap (λ j. part 0 (part 0 j)) e)
values_alike (doubles a) (integers b) h k e =
    empty_alike double_json integer_json doubles integers refl (λ x y same. cc) a b (ap (λ j. part 0 (part 0 j)) e)
values_alike (texts a) (doubles b) h k e =
    empty_alike text_json double_json texts doubles refl text_apart a b (ap (λ j. part 0 (part 0 j)) e)
values_alike (doubles a) (texts b) h k e =
    empty_alike double_json text_json doubles texts refl (λ x y same. text_apart y x (sym same)) a b
    (ap (λ j. part 0 (part 0 j)) e)
values_alike (text a) (double b) h k e = absurd (text_apart a b e)
values_alike (double a) (text b) h k e = absurd (text_apart b a (sym e))
values_alike v w h k e = absurd cc

pub pairs_alike : (p q : List ℕ × PlainValue) → PairFits p → PairFits q → pair_json p ≡ pair_json q
    → seen_pair p ≡ seen_pair q
pairs_alike p q h k e =
    let key : p.0 ≡ q.0 = ap (text_part 0) e in
    let value : seen_value p.1 ≡ seen_value q.1 = values_alike p.1 q.1 h k (ap (part 1) e) in
    λ i. (key i, value i)

attribute_alike : (a b : PlainKeyValue) → AttributeFits a → AttributeFits b → attribute_json a ≡ attribute_json b
    → seen_attribute a ≡ seen_attribute b
attribute_alike a b h k e =
    let key : a.key ≡ b.key = ap (text_part 0) e in
    let value : seen_value a.value ≡ seen_value b.value = values_alike a.value b.value h k (ap (part 1) e) in
    λ i. record { key = key i; value = value i }

pub attributes_alike : (xs ys : List PlainKeyValue) → AllByRecursion AttributeFits xs → AllByRecursion AttributeFits ys
    → list_json attribute_json xs ≡ list_json attribute_json ys → map seen_attribute xs ≡ map seen_attribute ys
attributes_alike xs ys h k e =
    lists_alike attribute_json seen_attribute AttributeFits AttributeFits attribute_alike xs ys h k e
