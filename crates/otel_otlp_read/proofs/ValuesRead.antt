-- Values and attributes that are written are read back as their texts.
use Rattle.std.proofs.Common.{◌≡◌, ℕ, ℤ, suc, Bool, true, false, cond, List, [], ◌∷◌, ◌++◌, map, codes}
use Rattle.std.proofs.Common.{Some, None, Option, Result, Ok, FitsSigned, refl, sym, ap, ◌∙◌, flat_map, append-nil}
use Rattle.std.proofs.Common.{option_map}
use Rattle.std.proofs.lemmas.List.Concat.{flat_map-cons}
use Rattle.std.specs.Bool.{passes}
use Rattle.std.specs.Float.Ieee.{Float, nan, inf, fin}
use Rattle.std.specs.Fmt.{signed_decimal}
use Rattle.std.specs.Int.{w64}
use Rattle.std.specs.List.{AllByRecursion, join_with_byte}
use Rattle.fast_float.specs.Parse.{read_float}
use Rattle.fast_float.specs.Text.{scan}
use Rattle.json.specs.Json.{Json}
use Rattle.json.specs.Json as json
use Rattle.opentelemetry.specs.Plain.{PlainKeyValue, PlainValue, boolean, integer, text, booleans, integers, texts}
use Rattle.opentelemetry.specs.Plain.{double, doubles}
use Rattle.opentelemetry.specs.ValueText.{list_text, quoted_text, truth_text, value_text}
use Rattle.otel_float.proofs.Texts.{reads}
use Rattle.otel_float.specs.FloatText.{float_text}
use Rattle.otel_otlp.specs.Fields.{items_of}
use Rattle.otel_otlp.specs.Fits.{AttributeFits, FloatFits, ValueFits}
use Rattle.otel_otlp.specs.OtlpValues.{array_items, array_json, attribute_json, bool_json, double_json, float_json}
use Rattle.otel_otlp.specs.OtlpValues.{integer_json, pair_json, text_json, value_json}
use Rattle.otel_shown.specs.Shown as shown
use Rattle.otel_otlp_read.specs.declared.fault.Fault.{Fault}
use Rattle.otel_otlp_read.specs.declared.fault.Fault.TheVariants as faults
use Rattle.otel_otlp_read.specs.Reading.{◌>>=◌, joined, needed}
use Rattle.otel_otlp_read.specs.Members.{first_of, listed, or_default, own_name, unless_null}
use Rattle.otel_otlp_read.specs.AnyValue.{after_comma, comma_joined, double_of, kind_count, shown_item, shown_list}
use Rattle.otel_otlp_read.specs.AnyValue.{shown_pair, shown_scalar, shown_value, shown_with}
use Rattle.otel_otlp_read.specs.SpanLists.{attribute_line}
use Rattle.otel_otlp_read.proofs.DigitsRead.{signed_integer}

-- the items of an array that was written
pub listed-items_of : (js : List Json) → listed (items_of js) ≡ js
listed-items_of [] = refl
listed-items_of (j ∷ js) = ap (λ rest. j ∷ rest) (listed-items_of js)

-- items that are each read back are read back one after the other
joined_back : {X A : Type 0} (json : X → Json) (read : Json → Result (List A) Fault) (out : X → List A)
    (P : X → Type 0) → ((x : X) → P x → read (json x) ≡ Ok (out x)) → (xs : List X) → AllByRecursion P xs
    → joined read (map json xs) ≡ Ok (flat_map out xs)
joined_back json read out P back [] h = refl
joined_back json read out P back (x ∷ xs) h =
    ap (λ r. r >>= λ first. joined read (map json xs) >>= λ others. Ok (first ++ others)) (back x h.0)
    ∙ ap (λ r. r >>= λ others. Ok (out x ++ others)) (joined_back json read out P back xs h.1)
    ∙ ap Ok (sym (flat_map-cons out x xs))

-- texts with a comma in front of each but the first
commas : {X : Type 0} (out : X → List ℕ) (x : X) (xs : List X)
    → out x ++ flat_map (λ y. 44 ∷ out y) xs ≡ join_with_byte 44 (out x ∷ map out xs)
commas out x [] = append-nil (out x)
commas out x (y ∷ ys) =
    ap (λ w. out x ++ w) (flat_map-cons (λ z. 44 ∷ out z) y ys)
    ∙ ap (λ w. out x ++ 44 ∷ w) (commas out y ys)

-- items that are each read back, with commas
commas_back : {X : Type 0} (json : X → Json) (read : Json → Result (List ℕ) Fault) (out : X → List ℕ)
    (P : X → Type 0) → ((x : X) → P x → read (json x) ≡ Ok (out x)) → (xs : List X) → AllByRecursion P xs
    → comma_joined read (map json xs) ≡ Ok (join_with_byte 44 (map out xs))
commas_back json read out P back [] h = refl
commas_back json read out P back (x ∷ xs) h =
    let others = joined_back json (after_comma read) (λ y. 44 ∷ out y) P
    (λ y k. ap (λ r. r >>= λ t. Ok (44 ∷ t)) (back y k)) xs h.1 in
    ap (λ r. r >>= λ first. joined (after_comma read) (map json xs) >>= λ rest. Ok (first ++ rest)) (back x h.0)
    ∙ ap (λ r. r >>= λ rest. Ok (out x ++ rest)) others ∙ ap Ok (commas out x xs)

-- values that are no lists
truth_back : (depth : ℕ) (is_quoted truth : Bool) → shown_value (suc depth) is_quoted (bool_json truth) ≡ Ok (truth_text truth)
unfolding shown_value shown_with shown_scalar kind_count own_name
truth_back depth is_quoted truth = refl

integer_back : (depth : ℕ) (is_quoted : Bool) (number : ℤ) → FitsSigned w64 number
    → shown_value (suc depth) is_quoted (integer_json number) ≡ Ok (signed_decimal number)
unfolding shown_value shown_with shown_scalar kind_count own_name
integer_back depth is_quoted number h =
    ap (λ t. needed faults.IntForm (cond t (Some (signed_decimal number)) None)) (signed_integer number h)

text_back : (depth : ℕ) (is_quoted : Bool) (bytes : List ℕ)
    → shown_value (suc depth) is_quoted (text_json bytes) ≡ Ok (cond is_quoted (quoted_text bytes) bytes)
unfolding shown_value shown_with shown_scalar kind_count own_name
text_back depth is_quoted bytes = refl

-- a float is read back as itself, and shown by its text
float_read : (x : Float) → FloatFits x → double_of (float_json x) ≡ Some x
unfolding read_float scan
float_read nan h = refl
float_read (inf true) h = refl
float_read (inf false) h = refl
float_read (fin s m e) h = (reads (fin s m e) (passes _ h)).parses

abbrev shown_found : Option Float → Result (List ℕ) Fault
shown_found found = needed faults.DoubleForm (option_map float_text found)

float_back : (depth : ℕ) (is_quoted : Bool) (x : Float) → FloatFits x
    → shown_value (suc depth) is_quoted (double_json x) ≡ Ok (float_text x)
unfolding shown_value shown_with shown_scalar kind_count own_name
float_back depth is_quoted nan h = ap shown_found (float_read nan h)
float_back depth is_quoted (inf true) h = ap shown_found (float_read (inf true) h)
float_back depth is_quoted (inf false) h = ap shown_found (float_read (inf false) h)
float_back depth is_quoted (fin s m e) h = ap shown_found (float_read (fin s m e) h)

-- a list of values that are each read back
list_back : {X : Type 0} (depth : ℕ) (is_quoted : Bool) (written : X → Json) (out : X → List ℕ) (P : X → Type 0)
    → ((x : X) → P x → shown_value (suc depth) true (written x) ≡ Ok (out x)) → (xs : List X) → AllByRecursion P xs
    → shown_list (shown_value (suc depth) true) false
    (json.object (json.member (codes "values") (json.array (items_of (map written xs))) json.no_members))
    ≡ Ok (list_text (map out xs))
unfolding shown_list
list_back depth is_quoted written out P back xs h =
    ap (λ js. comma_joined (shown_item (shown_value (suc depth) true) false) js >>= λ t. Ok (91 ∷ (t ++ 93 ∷ [])))
    (listed-items_of (map written xs))
    ∙ ap (λ r. r >>= λ t. Ok (91 ∷ (t ++ 93 ∷ []))) (commas_back written (shown_value (suc depth) true) out P back xs h)

array_back : (depth : ℕ) (is_quoted : Bool) (value : PlainValue)
    → shown_value (suc (suc depth)) is_quoted (array_json value)
    ≡ shown_list (shown_value (suc depth) true) false
    (json.object (json.member (codes "values") (json.array (items_of (array_items value))) json.no_members))
unfolding shown_value shown_with kind_count own_name
array_back depth is_quoted value = refl

always : {X : Type 0} (xs : List X) → AllByRecursion (λ x. Unit {0}) xs
always [] = tt
always (x ∷ xs) = (tt, always xs)

-- each value is read back as its text
pub value_back : (depth : ℕ) (value : PlainValue) → ValueFits value
    → shown_value (suc (suc depth)) false (value_json value) ≡ Ok (value_text value)
value_back depth (boolean truth) h = truth_back (suc depth) false truth
value_back depth (integer number) h = integer_back (suc depth) false number h
value_back depth (text bytes) h = text_back (suc depth) false bytes
value_back depth (booleans truths) h =
    array_back depth false (booleans truths)
    ∙ list_back depth false bool_json truth_text (λ t. Unit {0}) (λ t k. truth_back depth true t) truths (always truths)
value_back depth (integers numbers) h =
    array_back depth false (integers numbers)
    ∙ list_back depth false integer_json signed_decimal (FitsSigned w64) (integer_back depth true) numbers h
value_back depth (texts many) h =
    array_back depth false (texts many)
    ∙ list_back depth false text_json quoted_text (λ t. Unit {0}) (λ t k. text_back depth true t) many (always many)
value_back depth (double x) h = float_back (suc depth) false x h
value_back depth (doubles xs) h =
    array_back depth false (doubles xs)
    ∙ list_back depth false double_json float_text FloatFits (float_back depth true) xs h

-- a value is there
pub value_given : (value : PlainValue) → unless_null (value_json value) ≡ Some (value_json value)
value_given (boolean truth) = refl
value_given (integer number) = refl
value_given (text bytes) = refl
value_given (booleans truths) = refl
value_given (integers numbers) = refl
value_given (texts many) = refl
value_given (double x) = refl
value_given (doubles xs) = refl

-- what is read of it in its place
pub member_back : (value : PlainValue) → ValueFits value
    → or_default [] (shown_value 64 false) (first_of (unless_null (value_json value)) None) ≡ Ok (value_text value)
member_back value h =
    ap (λ found. or_default [] (shown_value 64 false) (first_of found None)) (value_given value) ∙ value_back 62 value h

-- a key and its value
pub pair_back : (pair : List ℕ × PlainValue) → ValueFits pair.1
    → shown_pair (shown_value 64 false) (pair_json pair) ≡ Ok (pair.0 ++ 61 ∷ value_text pair.1)
unfolding own_name
pair_back pair h = ap (λ r. r >>= λ t. Ok (pair.0 ++ 61 ∷ t)) (member_back pair.1 h)

pub attribute_back : (attribute : PlainKeyValue) → AttributeFits attribute
    → attribute_line (attribute_json attribute) ≡ Ok (shown.attribute_line attribute)
unfolding attribute_line
attribute_back attribute h =
    ap (λ r. r >>= λ t. Ok (10 ∷ t)) (pair_back (attribute.key, attribute.value) h)
