-- A map whose names and texts are strings, seen as a finite map from bytes to bytes.
use Rattle.std.specs.Prelude.{◌≡◌, ℕ, List, [], ◌∷◌, map, Option, Some, None, if◌then◌else◌}
use Rattle.std.specs.Prelude.{string_bytes, String}
use Rattle.std.specs.Ordering.{nat_cmp}
use Rattle.std.specs.Cmp.Lexicographic.{slice_cmp}
use Rattle.std.specs.FinMap.{FinMap, from_entries, get}
use Rattle.std.specs.BTreeMap.{BTreeMap}
use Rattle.std.specs.Str.{str_to_ascii_lowercase, str_eq_ignore_ascii_case}
use Rattle.opentelemetry.specs.Carrier.{Texts}

-- a finite map from texts to texts
abbrev pub TextMap : Type 0
TextMap = FinMap (slice_cmp nat_cmp) (List ℕ)

-- the bytes of each name and text
abbrev pub text_entries : {Y Z : Type 0} → List (String Y × String Z) → List (List ℕ × List ℕ)
text_entries es = map (λ e. (string_bytes e.0, string_bytes e.1)) es

-- a map from the bytes of its names to those of its texts
abbrev pub text_map : {Y Z : Type 0} → BTreeMap (String Y) (String Z) → TextMap
text_map m = from_entries (text_entries m.entries)

-- the texts of a map by name, whose names are in ASCII lower case
abbrev pub texts_of : TextMap → Texts
texts_of m name = get m (str_to_ascii_lowercase name)

-- no letter of the name is in ASCII upper case
abbrev pub IsLowerName : List ℕ → Type 0
IsLowerName name = str_to_ascii_lowercase name ≡ name

-- no letter of any name is in ASCII upper case
abbrev pub AllLowerNames : {Y X : Type 0} → List (String Y × X) → Type 0
AllLowerNames [] = Unit {0}
AllLowerNames (e ∷ es) = IsLowerName (string_bytes e.0) × AllLowerNames es

-- the text of the first name that differs from this one in ASCII case at most
abbrev pub first_text : {Y Z : Type 0} → List ℕ → List (String Y × String Z) → Option (List ℕ)
first_text name [] = None
first_text name (e ∷ es) =
    if str_eq_ignore_ascii_case (string_bytes e.0) name then Some (string_bytes e.1) else first_text name es
