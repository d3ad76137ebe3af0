-- What the pages say.
use Rattle.std.specs.Prelude.{ℕ, List, [], ◌∷◌, ◌++◌, codes}

-- the end of a line
abbrev pub newline : List ℕ
newline = 10 ∷ []

-- what the pages say
abbrev pub price_text : List ℕ
price_text = codes "7.50" ++ newline

abbrev pub broken_text : List ℕ
broken_text = codes "out of order" ++ newline

abbrev pub unknown_text : List ℕ
unknown_text = codes "no such page" ++ newline

abbrev pub method_text : List ℕ
method_text = codes "only to be read" ++ newline

abbrev pub unpriced_text : List ℕ
unpriced_text = codes "no price" ++ newline

abbrev pub nobody_text : List ℕ
nobody_text = codes "nobody to ask" ++ newline

-- what stands in front of the price in a cart
abbrev pub cart_text : List ℕ
cart_text = codes "tea: "

-- the field that says which methods are answered
abbrev pub allow_field : List ℕ × List ℕ
allow_field = (codes "allow", codes "GET, HEAD")
