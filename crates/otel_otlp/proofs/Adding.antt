-- What is written in turn.
use Rattle.std.proofs.Common.{◌≡◌, ◌<◌, ◌+◌, ℕ, List, [], ◌∷◌, ◌++◌, Result, Ok, Err, length, take, get_or, map}
use Rattle.std.proofs.Common.{ap, sym, subst, refl, ◌∙◌}
use Rattle.std.proofs.Common.{append_assoc, append-nil}
use Rattle.std.proofs.lemmas.List.{map-append, take_more}
use Rattle.json.specs.Json.{Json, array}
use Rattle.json.specs.Token.{Token}
use Rattle.json.specs.Tree.{json_tokens, items_tokens, members_tokens}
use Rattle.otel_otlp.specs.Fields.{Adds, Begun, Field, each_tokens, fields_tokens, items_of, list_tokens}
use Rattle.otel_otlp.specs.Fields.{members_of, object_json}

-- tokens, and others after them
pub and_then : {E F : Type 0} {done : Unit {0}} {answer : Result (Unit {0}) F} {old middle new : Begun}
    {first second : List Token} → Adds {E = E} (Ok done) old middle first → Adds answer middle new second
    → Adds answer old new (first ++ second)
and_then {answer = Ok _} {old} {middle} {new} {first} {second} h k = record {
  before = k.before ∙ h.before;
  written = k.written ∙ ap (λ ts. ts ++ second) h.written ∙ append_assoc old.tokens first second;
}
and_then {answer = Err _} h k = record { before = k.before ∙ h.before; written = tt }

-- the same tokens, put otherwise
pub as_tokens : {E : Type 0} {answer : Result (Unit {0}) E} {old new : Begun} {first second : List Token}
    → first ≡ second → Adds answer old new first → Adds answer old new second
as_tokens {answer = answer} {old} {new} e h = subst (λ (ts : List Token). Adds answer old new ts) e h

-- nothing
pub nothing : {E : Type 0} {done : Unit {0}} (old : Begun) → Adds {E = E} (Ok done) old old []
nothing old = record { before = refl; written = sym (append-nil old.tokens) }

-- values, and others after them
pub each_joined : (first second : List Json) → each_tokens (first ++ second) ≡ each_tokens first ++ each_tokens second
each_joined [] second = refl
each_joined (j ∷ js) second =
    ap (λ ts. json_tokens j ++ ts) (each_joined js second)
    ∙ sym (append_assoc (json_tokens j) (each_tokens js) (each_tokens second))

-- members, and others after them
pub fields_joined : (first second : List Field)
    → fields_tokens (first ++ second) ≡ fields_tokens first ++ fields_tokens second
fields_joined [] second = refl
fields_joined (f ∷ fs) second =
    ap (λ ts. Token.key f.0 ∷ ts)
    (ap (λ ts. json_tokens f.1 ++ ts) (fields_joined fs second)
    ∙ sym (append_assoc (json_tokens f.1) (fields_tokens fs) (fields_tokens second)))

-- the same of what is written
pub and_fields : {E F : Type 0} {done : Unit {0}} {answer : Result (Unit {0}) F} {old middle new : Begun}
    (first second : List Field) → Adds {E = E} (Ok done) old middle (fields_tokens first)
    → Adds answer middle new (fields_tokens second) → Adds answer old new (fields_tokens (first ++ second))
and_fields first second h k = as_tokens (sym (fields_joined first second)) (and_then h k)

-- one item more
pub list_more : {X : Type 0} (json : X → Json) (xs : List X) (i : ℕ) (x : X) → i < length xs → x ≡ get_or xs i x
    → list_tokens json (take i xs) ++ json_tokens (json x) ≡ list_tokens json (take (i + 1) xs)
list_more json xs i x l is =
    ap (λ ts. list_tokens json (take i xs) ++ ts) (sym (append-nil (json_tokens (json x))))
    ∙ sym (each_joined (map json (take i xs)) (json x ∷ []))
    ∙ ap each_tokens (sym (map-append json (take i xs) (x ∷ [])))
    ∙ ap (λ y. list_tokens json (take i xs ++ y ∷ [])) is
    ∙ ap (list_tokens json) (sym (take_more xs i x l))

pub item_more : {X E F : Type 0} {done more : Unit {0}} {old middle new : Begun} (json : X → Json) (xs : List X)
    (i : ℕ) (x : X) → i < length xs → x ≡ get_or xs i x
    → Adds {E = E} (Ok done) old middle (list_tokens json (take i xs))
    → Adds {E = F} (Ok more) middle new (json_tokens (json x))
    → Adds {E = F} (Ok more) old new (list_tokens json (take (i + 1) xs))
item_more json xs i x l is h k = as_tokens (list_more json xs i x l is) (and_then h k)

-- what is left to write, once the first of it is written
pub first_written : {X E : Type 0} {done : Unit {0}} {old new : Begun} (json : X → Json) (x : X) (xs : List X)
    (whole : List Token) → old.tokens ++ list_tokens json (x ∷ xs) ≡ whole
    → Adds {E = E} (Ok done) old new (json_tokens (json x)) → new.tokens ++ list_tokens json xs ≡ whole
first_written {old = old} json x xs whole h k =
    ap (λ ts. ts ++ list_tokens json xs) k.written
    ∙ append_assoc old.tokens (json_tokens (json x)) (list_tokens json xs) ∙ h

-- an array is its items and a bracket
pub array_tokens : (js : List Json) → items_tokens (items_of js) ≡ each_tokens js ++ Token.end_array ∷ []
array_tokens [] = refl
array_tokens (j ∷ js) =
    ap (λ ts. json_tokens j ++ ts) (array_tokens js)
    ∙ sym (append_assoc (json_tokens j) (each_tokens js) (Token.end_array ∷ []))

-- an object is its members and a bracket
pub object_tokens : (fs : List Field) → members_tokens (members_of fs) ≡ fields_tokens fs ++ Token.end_object ∷ []
object_tokens [] = refl
object_tokens (f ∷ fs) =
    ap (λ ts. Token.key f.0 ∷ ts)
    (ap (λ ts. json_tokens f.1 ++ ts) (object_tokens fs)
    ∙ sym (append_assoc (json_tokens f.1) (fields_tokens fs) (Token.end_object ∷ [])))

-- an object: its bracket, its members, and the bracket after them
pub as_object : {E : Type 0} {done more : Unit {0}} {answer : Result (Unit {0}) E} {old begun all new : Begun}
    (fields : List Field) → Adds {E = E} (Ok done) old begun (Token.begin_object ∷ [])
    → Adds {E = E} (Ok more) begun all (fields_tokens fields) → Adds answer all new (Token.end_object ∷ [])
    → Adds answer old new (json_tokens (object_json fields))
as_object fields h k l =
    as_tokens (ap (λ ts. Token.begin_object ∷ ts) (sym (object_tokens fields))) (and_then h (and_then k l))

-- a member: its key and its value
pub as_field : {E : Type 0} {done : Unit {0}} {answer : Result (Unit {0}) E} {old middle new : Begun}
    (key : List ℕ) (value : Json) → Adds {E = E} (Ok done) old middle (Token.key key ∷ [])
    → Adds answer middle new (json_tokens value) → Adds answer old new (fields_tokens ((key, value) ∷ []))
as_field key value h k =
    as_tokens (ap (λ ts. Token.key key ∷ ts) (sym (append-nil (json_tokens value)))) (and_then h k)

-- an array: its bracket, its items, and the bracket after them
pub as_array : {E : Type 0} {done more : Unit {0}} {answer : Result (Unit {0}) E} {old begun all new : Begun}
    (items : List Json) → Adds {E = E} (Ok done) old begun (Token.begin_array ∷ [])
    → Adds {E = E} (Ok more) begun all (each_tokens items) → Adds answer all new (Token.end_array ∷ [])
    → Adds answer old new (json_tokens (array (items_of items)))
as_array items h k l =
    as_tokens (ap (λ ts. Token.begin_array ∷ ts) (sym (array_tokens items))) (and_then h (and_then k l))
