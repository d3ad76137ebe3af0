-- Objects whose members are given as a list, and their tokens, piece by piece as they are written.
use Rattle.std.specs.Prelude.{◌≡◌, ℕ, List, [], ◌∷◌, ◌++◌, OnOk, Result, map}
use Rattle.std.specs.List.{flat_map}
use Rattle.json.specs.Token.{Token}
use Rattle.json.specs.Json.{Json, array, object, Items, no_items, item, Members, no_members, member}
use Rattle.json.specs.Tree.{json_tokens}

-- a member of an object: its key and its value
abbrev pub Field : Type 0
Field = List ℕ × Json

-- the items of an array
abbrev pub items_of : List Json → Items
items_of [] = no_items
items_of (j ∷ js) = item j (items_of js)

-- the members of an object
abbrev pub members_of : List Field → Members
members_of [] = no_members
members_of (f ∷ fs) = member f.0 f.1 (members_of fs)

-- an array of what these are written as
abbrev pub list_json : {X : Type 0} → (X → Json) → List X → Json
list_json json xs = array (items_of (map json xs))

-- an object with these members, in this order
abbrev pub object_json : List Field → Json
object_json fields = object (members_of fields)

-- the tokens of members, without the bracket after them
abbrev pub fields_tokens : List Field → List Token
fields_tokens [] = []
fields_tokens (f ∷ fs) = Token.key f.0 ∷ (json_tokens f.1 ++ fields_tokens fs)

-- the tokens of values, one after the other
abbrev pub each_tokens : List Json → List Token
each_tokens = flat_map json_tokens

-- the tokens of items, without the bracket after them
abbrev pub list_tokens : {X : Type 0} → (X → Json) → List X → List Token
list_tokens json xs = each_tokens (map json xs)

-- what a writer was given: the bytes in front of its text, and the tokens of that
pub record Begun : Type 0 where
  pub before : List ℕ
  pub tokens : List Token

-- where that went well, these tokens were written; what stands in front stays
pub record Adds {E : Type 0} (answer : Result (Unit {0}) E) (old new : Begun) (tokens : List Token) : Type 0 where
  pub before : new.before ≡ old.before
  pub written : OnOk answer (new.tokens ≡ old.tokens ++ tokens)
