-- How texts of several members are cut: what parts them, and that it stands in none.
use Rattle.std.specs.Prelude.{◌≢◌, ◌==◌, ℕ, List, [], ◌∷◌}
use Rattle.std.specs.List.{slice_split}

-- a comma parts the members, an equals sign parts key and value, and a semicolon parts the properties of a member
abbrev pub comma : ℕ
comma = 44

abbrev pub equals_sign : ℕ
equals_sign = 61

abbrev pub semicolon : ℕ
semicolon = 59

-- a byte does not stand in a text
abbrev pub HasNo : ℕ → List ℕ → Type 0
HasNo c [] = Unit {0}
HasNo c (b ∷ bs) = (b ≢ c) × HasNo c bs

-- a text cut at each byte of a kind: what stands before, between and after them
abbrev pub pieces_at : ℕ → List ℕ → List (List ℕ)
pieces_at c text = slice_split (λ b. b == c) text
