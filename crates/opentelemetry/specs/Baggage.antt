-- A baggage: names with values and metadata, in order of insertion (W3C Baggage, section 3.3.1).
use Rattle.std.specs.Prelude.{◌≡◌, ◌≢◌, ℕ, ◌+◌, ◌<◌, ◌≤◌, ◌⊎◌, List, [], ◌∷◌}
use Rattle.std.specs.Prelude.{Option, None, Some, map, length, find, sum_by, if◌then◌else◌, string_bytes, String}
use Rattle.std.specs.Option.{option_map, option_map_or}
use Rattle.std.specs.Str.{bytes_eq}
use denote.Ref.{Bor}

-- a name with its value and metadata
pub record PlainBaggageEntry : Type 0 where
  pub key : List ℕ
  pub value : List ℕ
  pub metadata : List ℕ

-- a baggage without where it lies
abbrev pub PlainBaggage : Type 0
PlainBaggage = List PlainBaggageEntry

-- the value and the metadata of an entry
abbrev pub value_and_metadata : PlainBaggageEntry → List ℕ × List ℕ
value_and_metadata e = (e.value, e.metadata)

-- the entry of a name, a value and metadata
abbrev pub entry_of : List ℕ → List ℕ → List ℕ → PlainBaggageEntry
entry_of name value metadata = record { key = name; value = value; metadata = metadata }

-- the bytes that an entry counts for: those of its name, value and metadata
abbrev pub entry_bytes : PlainBaggageEntry → ℕ
entry_bytes e = length e.key + length e.value + length e.metadata

-- the bytes that all entries count for
abbrev pub baggage_bytes : PlainBaggage → ℕ
baggage_bytes es = sum_by entry_bytes es

-- the entry under a name
abbrev pub entry_at : PlainBaggage → List ℕ → Option PlainBaggageEntry
entry_at es name = find (λ e. bytes_eq name e.key) es

-- the value and the metadata that stand under a name
abbrev pub found_at : PlainBaggage → List ℕ → Option (List ℕ × List ℕ)
found_at es name = option_map value_and_metadata (entry_at es name)

-- the bytes that what was found counts for with a name of this length; none where nothing was found
abbrev pub found_bytes : ℕ → Option (List ℕ × List ℕ) → ℕ
found_bytes name_len found = option_map_or (λ pair. name_len + length pair.0 + length pair.1) found 0

-- a value and metadata that were handed out, without where they lie
abbrev pub handed_out : {Y : Type 0} → Option (String Y × List ℕ) → Option (List ℕ × List ℕ)
handed_out given = option_map (λ pair. (string_bytes pair.0, pair.1)) given

-- the baggage with an entry: in the place of the one of its name, else last
abbrev pub with_entry : PlainBaggage → PlainBaggageEntry → PlainBaggage
with_entry [] new = new ∷ []
with_entry (e ∷ es) new = if bytes_eq new.key e.key then new ∷ es else e ∷ with_entry es new

-- the baggage without the entry of a name; the others keep their order
abbrev pub without_entry : PlainBaggage → List ℕ → PlainBaggage
without_entry [] name = []
without_entry (e ∷ es) name = if bytes_eq name e.key then es else e ∷ without_entry es name

-- a baggage may not take an entry: its name is empty, or too many entries or bytes would stand then
abbrev pub BreaksLimit : PlainBaggage → PlainBaggageEntry → Type 0
BreaksLimit es new =
    (new.key ≡ []) ⊎ (64 < length (with_entry es new)) ⊎ (8192 < baggage_bytes (with_entry es new))

-- no entry has this name
abbrev pub IsFreeName : List ℕ → PlainBaggage → Type 0
IsFreeName name [] = Unit {0}
IsFreeName name (e ∷ es) = (name ≢ e.key) × IsFreeName name es

-- no two entries have one name
abbrev pub HasDistinctNames : PlainBaggage → Type 0
HasDistinctNames [] = Unit {0}
HasDistinctNames (e ∷ es) = IsFreeName e.key es × HasDistinctNames es

-- no name is empty
abbrev pub HasNames : PlainBaggage → Type 0
HasNames [] = Unit {0}
HasNames (e ∷ es) = (e.key ≢ []) × HasNames es

-- within the limits: at most 64 entries, at most 8192 bytes, and each has a name
pub record IsWithinLimits (es : PlainBaggage) : Type 0 where
  pub few : length es ≤ 64
  pub small : baggage_bytes es ≤ 8192
  pub have_names : HasNames es

-- an entry of a map, without where it lies
abbrev pub plain_entry : {Y Z : Type 0} → String Y × (String Z × List ℕ) → PlainBaggageEntry
plain_entry e = record { key = string_bytes e.0; value = string_bytes e.1.0; metadata = e.1.1 }

-- the entries of a map, without where they lie
abbrev pub plain_entries : {Y Z : Type 0} → List (String Y × (String Z × List ℕ)) → PlainBaggage
plain_entries es = map (λ e. plain_entry e) es

-- the entries that are kept; none where nothing is
abbrev pub entries_or_none : Option PlainBaggage → PlainBaggage
entries_or_none None = []
entries_or_none (Some entries) = entries

-- what an iterator over a baggage gives, without where it lies
abbrev pub plain_item : Bor (List ℕ) × (Bor (List ℕ) × Bor (List ℕ)) → PlainBaggageEntry
plain_item item = record { key = item.0.now; value = item.1.0.now; metadata = item.1.1.now }

-- the entries that an iterator has left; none where it goes over nothing
abbrev pub left_entries : {Y Z : Type 0} → Option (List (String Y × (String Z × List ℕ))) → PlainBaggage
left_entries None = []
left_entries (Some es) = plain_entries es
