-- What a walk over a baggage header reads and writes next.
use Rattle.std.specs.Prelude.{◌≢◌, ◌≤◌, ℕ, Bool, true, false, List, [], ◌∷◌, ◌++◌, Option, None, Some, String, string_bytes}
use Rattle.std.specs.Borrow.{Bor}
use Rattle.opentelemetry.specs.Baggage.{PlainBaggageEntry, entry_bytes, entry_of}
use Rattle.opentelemetry.specs.Members.{pieces_at, semicolon}

-- the properties that stand after a first semicolon; none where there is no semicolon
abbrev pub properties_after : Option (Bor (List ℕ)) → List (List ℕ)
properties_after None = []
properties_after (Some text) = pieces_at semicolon text.now

-- the entry of a name and a value, with metadata
abbrev pub entry_with : {Y Z : Type 0} → List ℕ → String Y × String Z → PlainBaggageEntry
entry_with metadata pair = entry_of (string_bytes pair.0) (string_bytes pair.1) metadata

-- what stands in front of a text, unless it is the first
abbrev pub unless_first : Bool → List ℕ → List ℕ
unless_first true separator = []
unless_first false separator = separator

-- what a property adds to metadata: nothing where it is not UTF-8, and else its text after a semicolon
abbrev pub next_property : Bool → Option (List ℕ) → List ℕ
next_property is_first None = []
next_property is_first (Some text) = unless_first is_first (semicolon ∷ []) ++ text

-- an entry that has a name and is no longer than so many bytes
pub record IsNamedWithin (bound : ℕ) (e : PlainBaggageEntry) : Type 0 where
  pub named : e.key ≢ []
  pub short : entry_bytes e ≤ bound
