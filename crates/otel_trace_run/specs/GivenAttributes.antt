-- Which member of the attributes that the mode `otlp` is given does not read.
use Rattle.std.specs.Prelude.{◌≡◌, ◌≢◌, ◌⊎◌, ℕ, List, [], ◌∷◌, ◌++◌, Option, Some, None, All}
use Rattle.std.specs.Str.{trim}
use Rattle.opentelemetry.specs.Members.{comma, equals_sign, pieces_at}

-- a member reads where it is empty, and says nothing; or where a key stands in front of its first equals sign
abbrev pub ReadsMember : List ℕ → Type 0
ReadsMember member = (member ≡ []) ⊎ ((key : List ℕ) × (value : List ℕ)
    × (member ≡ key ++ equals_sign ∷ value) × All (λ b. b ≢ equals_sign) key × (trim key ≢ []))

-- the first of these members that does not read; none where each does
abbrev pub FirstUnread : List (List ℕ) → Option (List ℕ) → Type 0
FirstUnread members None = All ReadsMember members
FirstUnread members (Some member) = (before : List (List ℕ)) × (after : List (List ℕ))
    × (members ≡ before ++ member ∷ after) × All ReadsMember before × ¬ ReadsMember member

-- the same of the members of an attributes string, if one is given
abbrev pub GivesUnread : List (List ℕ) → Option (List ℕ) → Type 0
GivesUnread [] found = found ≡ None
GivesUnread (text ∷ more) found = FirstUnread (pieces_at comma text) found
