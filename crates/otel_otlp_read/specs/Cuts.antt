-- What of an input is read: not the mark in front of it, and each of its parts.
use Rattle.std.specs.Prelude.{ℕ, ◌&&◌, ◌==◌, Bool, false, List, [], ◌∷◌, Option, Some, None, drop, if◌then◌else◌, take}
use Rattle.std.specs.List.{onto_first}
use Rattle.std.specs.Str.{bytes_eq}

-- the bytes that may stand in front of a text, to say that it is UTF-8
abbrev pub mark : List ℕ
mark = 239 ∷ 187 ∷ 191 ∷ []

-- a text without them
abbrev pub without_mark : List ℕ → List ℕ
without_mark text = if bytes_eq mark (take 3 text) then drop 3 text else text

-- a brace in front of a text
abbrev pub opens : List ℕ → Bool
opens [] = false
opens (b ∷ bs) = b == 123

-- a line feed in front of a text, and a brace after it
abbrev pub cuts : List ℕ → Bool
cuts [] = false
cuts (b ∷ bs) = (b == 10) && opens bs

-- the parts of a text: one begins in each line that begins with a brace
unfoldable pub parts : List ℕ → List (List ℕ)
parts [] = [] ∷ []
parts (b ∷ bs) = if cuts (b ∷ bs) then [] ∷ parts bs else onto_first b (parts bs)

-- those of the text after a line feed, if there is one
abbrev pub parts_after : Option (List ℕ) → List (List ℕ)
parts_after None = []
parts_after (Some text) = parts text
