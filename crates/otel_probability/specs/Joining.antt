-- Members that are put after others one by one, with a semicolon between two.
use Rattle.std.specs.Prelude.{ℕ, List, [], ◌∷◌, ◌++◌}
use Rattle.opentelemetry.specs.Members.{semicolon}

-- a text with a member more
abbrev pub with_member : List ℕ → List ℕ → List ℕ
with_member [] member = member
with_member (b ∷ text) member = (b ∷ text) ++ semicolon ∷ member

-- a text with these members more
abbrev pub with_members : List ℕ → List (List ℕ) → List ℕ
with_members text [] = text
with_members text (member ∷ more) = with_members (with_member text member) more
