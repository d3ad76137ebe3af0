-- Texts that grow.
use Rattle.std.specs.Prelude.{◌≡◌, ℕ, List, ◌++◌, string_bytes, String}

-- a text was given more bytes at its end
abbrev pub TextGrows : {Y : Type 0} → String Y → List ℕ → String Y → Type 0
TextGrows old more new = string_bytes new ≡ string_bytes old ++ more
