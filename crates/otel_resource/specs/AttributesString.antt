-- The string of resource attributes that configuration hands in, as `key=value,key=value` (OpenTelemetry
-- specification, "Specifying resource information via an environment variable"). Nothing in it is percent-decoded.
use Rattle.std.specs.Prelude.{◌≡◌, ◌⊎◌, ℕ, List, [], ◌∷◌, ◌++◌}
use Rattle.std.specs.Str.{trim}
use Rattle.opentelemetry.specs.Plain.{PlainKeyValue, text}
use Rattle.opentelemetry.specs.Members.{HasNo, comma, equals_sign}

-- the pair of a key and a value, without the white space around them
abbrev pub trimmed_pair : List ℕ → List ℕ → PlainKeyValue
trimmed_pair key value = record { key = trim key; value = text (trim value) }

-- a member without an equals sign gives nothing; another gives one pair, cut at its first equals sign
abbrev pub IsMember : List ℕ → List PlainKeyValue → Type 0
IsMember member pairs =
    (HasNo equals_sign member × (pairs ≡ []))
    ⊎ ((key : List ℕ) × (value : List ℕ) × (member ≡ key ++ equals_sign ∷ value)
    × HasNo equals_sign key × (pairs ≡ trimmed_pair key value ∷ []))

-- a text is these members with a comma after each; after the last one it may be left out
abbrev pub IsCut : List ℕ → List (List ℕ) → Type 0
IsCut given [] = given ≡ []
IsCut given (member ∷ more) =
    HasNo comma member
    × (((given ≡ member) × (more ≡ []))
    ⊎ ((rest : List ℕ) × (given ≡ member ++ comma ∷ rest) × IsCut rest more))

-- members give these pairs, in order
abbrev pub AreRead : List (List ℕ) → List PlainKeyValue → Type 0
AreRead [] pairs = pairs ≡ []
AreRead (member ∷ more) pairs =
    (first : List PlainKeyValue) × (others : List PlainKeyValue)
    × IsMember member first × AreRead more others × (pairs ≡ first ++ others)

-- a text reads as these pairs
abbrev pub IsAttributesString : List ℕ → List PlainKeyValue → Type 0
IsAttributesString given pairs = (members : List (List ℕ)) × IsCut given members × AreRead members pairs
