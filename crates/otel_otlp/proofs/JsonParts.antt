-- What a JSON value is made of, taken out of it again.
use Rattle.std.proofs.Common.{◌≡◌, ℕ, zero, suc, Bool, false, List, [], ◌∷◌, map, ap, refl}
use Rattle.std.specs.List.{AllByRecursion}
use Rattle.json.specs.Json.{Json, Items, Members}
use Rattle.json.specs.Json as json
use Rattle.otel_otlp.specs.Fields.{Field, list_json}

-- a truth
abbrev pub truth_in : Json → Bool
truth_in json.null = false
truth_in (json.boolean truth) = truth
truth_in (json.number text) = false
truth_in (json.string text) = false
truth_in (json.array items) = false
truth_in (json.object object) = false

-- the text of a number or a string
abbrev text_in : Json → List ℕ
text_in json.null = []
text_in (json.boolean truth) = []
text_in (json.number text) = text
text_in (json.string text) = text
text_in (json.array items) = []
text_in (json.object object) = []

-- the first of some items, and an array of the others
abbrev first_of : Items → Json
first_of json.no_items = json.null
first_of (json.item first others) = first

abbrev others_of : Items → Items
others_of json.no_items = json.no_items
others_of (json.item first others) = others

abbrev pub first_in : Json → Json
first_in json.null = json.null
first_in (json.boolean truth) = json.null
first_in (json.number text) = json.null
first_in (json.string text) = json.null
first_in (json.array items) = first_of items
first_in (json.object object) = json.null

abbrev others_in : Json → Json
others_in json.null = json.null
others_in (json.boolean truth) = json.null
others_in (json.number text) = json.null
others_in (json.string text) = json.null
others_in (json.array items) = json.array (others_of items)
others_in (json.object object) = json.null

-- the members of an object
abbrev fields_of : Members → List Field
fields_of json.no_members = []
fields_of (json.member key value others) = (key, value) ∷ fields_of others

abbrev pub fields_in : Json → List Field
fields_in json.null = []
fields_in (json.boolean truth) = []
fields_in (json.number text) = []
fields_in (json.string text) = []
fields_in (json.array items) = []
fields_in (json.object object) = fields_of object

-- the name of the first member
abbrev first_name : List Field → List ℕ
first_name [] = []
first_name (field ∷ fields) = field.0

abbrev pub name_in : Json → List ℕ
name_in j = first_name (fields_in j)

abbrev value_at : ℕ → List Field → Json
value_at place [] = json.null
value_at zero (field ∷ fields) = field.1
value_at (suc place) (field ∷ fields) = value_at place fields

-- the value of the member at a place, and its text
abbrev pub part : ℕ → Json → Json
part place j = value_at place (fields_in j)

abbrev pub text_part : ℕ → Json → List ℕ
text_part place j = text_in (part place j)

-- lists that are written as one array are seen alike, where each two items that are written alike are
pub lists_alike : {X Y : Type 0} (json : X → Json) (seen : X → Y) (P Q : X → Type 0)
    → ((x y : X) → P x → Q y → json x ≡ json y → seen x ≡ seen y)
    → (xs ys : List X) → AllByRecursion P xs → AllByRecursion Q ys
    → list_json json xs ≡ list_json json ys → map seen xs ≡ map seen ys
lists_alike json seen P Q alike [] [] h k e = refl
lists_alike json seen P Q alike [] (y ∷ ys) h k e = absurd cc
lists_alike json seen P Q alike (x ∷ xs) [] h k e = absurd cc
lists_alike json seen P Q alike (x ∷ xs) (y ∷ ys) h k e =
    let first : seen x ≡ seen y = alike x y h.0 k.0 (ap first_in e) in
    let others : map seen xs ≡ map seen ys = lists_alike json seen P Q alike xs ys h.1 k.1 (ap others_in e) in
    λ i. first i ∷ others i
