-- What the strict baggage propagator reads and writes: the grammar of the header (W3C Baggage, section 3.3.1) and no
-- more. A text is kept as it came, without the optional white space; nothing is percent-decoded.
use Rattle.std.specs.Prelude.{◌≡◌, ◌≢◌, ℕ, Bool, false, ◌&&◌, ◌==◌, List, [], ◌∷◌, ◌++◌, if◌then◌else◌}
use Rattle.std.specs.Prelude.{Option, None, Some, Result, OnOk, OnErr, IsOk, is_some, map, unwrap_or}
use Rattle.std.specs.List.{filter, filter_map, flat_map, join_with_byte, list_all}
use Rattle.std.specs.Option.{option_map}
use Rattle.std.specs.Borrow.{Bor}
use Rattle.std.specs.declared.alloc.AllocError.{AllocError}
use Rattle.percent_encoding.specs.Percent.{percent_encode_byte}
use Rattle.opentelemetry.specs.Baggage.{PlainBaggage, PlainBaggageEntry, entry_of}
use Rattle.opentelemetry.specs.Carrier.{Texts, SetsText, SameTexts}
use Rattle.opentelemetry.specs.Members.{comma, equals_sign, pieces_at, semicolon}
use Rattle.opentelemetry.specs.Plain.{PlainContext}
use Rattle.opentelemetry.specs.Tracestate.{trimmed}
use Rattle.otel_propagation.specs.BaggageHeader.{baggage_field, after_semicolon, entries_said, read_short}
use Rattle.otel_propagation.specs.BaggagePieces.{unless_first}
use Rattle.otel_propagation.specs.StrictGrammar.{is_octet, is_token, are_octets}

-- a key, and a value if there is one
abbrev pub StrictPair : Type 0
StrictPair = List ℕ × Option (List ℕ)

-- what stands in front of the first of a byte, and what stands after it; none where it does not stand
abbrev pub split_once : ℕ → List ℕ → Option (List ℕ × List ℕ)
split_once c [] = None
split_once c (b ∷ bs) = if b == c then Some ([], bs) else option_map (λ cut. (b ∷ cut.0, cut.1)) (split_once c bs)

-- a key alone, where it is a token
abbrev pub checked_key : List ℕ → Option StrictPair
checked_key key = if is_token key then Some (key, None) else None

-- a key with a value, where the one is a token and the other of octets
abbrev pub checked_pair : List ℕ → List ℕ → Option StrictPair
checked_pair key value = if is_token key && are_octets value then Some (key, Some value) else None

-- the pair of a text that was cut, or was not
abbrev pub pair_of_cut : List ℕ → Option (List ℕ × List ℕ) → Option StrictPair
pair_of_cut text None = checked_key (trimmed text)
pair_of_cut text (Some cut) = checked_pair (trimmed cut.0) (trimmed cut.1)

-- the pair that a text says, cut at its first equals sign; none where it breaks the grammar
unfoldable pub strict_pair : List ℕ → Option StrictPair
strict_pair text = pair_of_cut text (split_once equals_sign text)

-- a key and a value with an equals sign between them
abbrev pub spelled : List ℕ → Option (List ℕ) → List ℕ
spelled key None = key
spelled key (Some value) = key ++ equals_sign ∷ value

-- a pair without optional white space
abbrev pub spelled_pair : StrictPair → List ℕ
spelled_pair pair = spelled pair.0 pair.1

-- a property without optional white space; none where it breaks the grammar
abbrev pub strict_property : List ℕ → Option (List ℕ)
strict_property text = option_map spelled_pair (strict_pair text)

-- each text is a property
abbrev pub are_properties : List (List ℕ) → Bool
are_properties texts = list_all (λ text. is_some (strict_pair text)) texts

-- those of the texts that are properties, between semicolons
unfoldable pub strict_metadata_of : List (List ℕ) → List ℕ
strict_metadata_of texts = join_with_byte semicolon (filter_map strict_property texts)

-- the metadata of properties; none where one breaks the grammar
abbrev pub checked_metadata : List (List ℕ) → Option (List ℕ)
checked_metadata properties = if are_properties properties then Some (strict_metadata_of properties) else None

-- the entry of a key, a value and properties; none without an equals sign, or where a property breaks the grammar
abbrev pub valued_entry : List ℕ → Option (List ℕ) → List (List ℕ) → Option PlainBaggageEntry
valued_entry key None properties = None
valued_entry key (Some value) properties = option_map (entry_of key value) (checked_metadata properties)

-- the entry of a pair and properties
abbrev pub strict_paired_entry : Option StrictPair → List (List ℕ) → Option PlainBaggageEntry
strict_paired_entry None properties = None
strict_paired_entry (Some pair) properties = valued_entry pair.0 pair.1 properties

-- the entry of what stands between semicolons: a pair, then properties
abbrev pub strict_entry_of_parts : List (List ℕ) → Option PlainBaggageEntry
strict_entry_of_parts [] = None
strict_entry_of_parts (pair ∷ properties) = strict_paired_entry (strict_pair pair) properties

-- the entry that a member says; none where it breaks the grammar
unfoldable pub strict_entry_of_member : List ℕ → Option PlainBaggageEntry
strict_entry_of_member member = strict_entry_of_parts (pieces_at semicolon member)

-- the baggage of a header: of its first 64 members those of the grammar, one a name
unfoldable pub strict_entries_of : List ℕ → PlainBaggage
strict_entries_of header = entries_said strict_entry_of_member header

-- the baggage that a header says, if there is a header, and one of at most 8192 bytes
abbrev pub read_strict : Option (List ℕ) → Option PlainBaggage
read_strict header = read_short strict_entries_of header

-- a byte of a value as a header has it: a percent sign and two upper-case digits, where it is no baggage octet
abbrev pub written_octet : ℕ → List ℕ
written_octet b = if is_octet b then b ∷ [] else percent_encode_byte b

-- a value as a header has it
unfoldable pub written_value : List ℕ → List ℕ
written_value value = flat_map written_octet value

-- an entry as a header has it: of its metadata the properties of the grammar
abbrev pub written_entry : PlainBaggageEntry → PlainBaggageEntry
written_entry e = entry_of e.key (written_value e.value) (strict_metadata_of (pieces_at semicolon e.metadata))

-- the name of an entry is a token
abbrev pub has_token_name : PlainBaggageEntry → Bool
has_token_name e = is_token e.key

-- a baggage as a header has it: the entries whose names are tokens
unfoldable pub written_entries : PlainBaggage → PlainBaggage
written_entries es = map written_entry (filter has_token_name es)

-- the member that spells an entry as it is
abbrev pub spelled_member : PlainBaggageEntry → List ℕ
spelled_member e = e.key ++ equals_sign ∷ (e.value ++ after_semicolon e.metadata)

-- the header that spells entries as they are
abbrev pub spelled_header : PlainBaggage → List ℕ
spelled_header es = join_with_byte comma (map spelled_member es)

-- the header of a baggage
unfoldable pub strict_header_of : PlainBaggage → List ℕ
strict_header_of es = spelled_header (written_entries es)

-- what a strict baggage propagator injects: the header; where nothing is left to write nothing, which needs no memory
pub record InjectsStrictBaggage (cx : PlainContext) (old : Texts) (result : Result (Unit {0}) AllocError)
    (new : Texts) : Type 0 where
  pub set : strict_header_of cx.baggage ≢ []
      → OnOk result (SetsText old new baggage_field (strict_header_of cx.baggage))
  pub nothing : strict_header_of cx.baggage ≡ [] → IsOk result × SameTexts old new
  pub err : OnErr result (SameTexts old new)

-- what it extracts: the context with the baggage that the header says, if one is read
abbrev pub ExtractsStrictBaggage : PlainContext → Texts → PlainContext → Type 0
ExtractsStrictBaggage cx texts found =
    found ≡ record cx { baggage = unwrap_or (read_strict (texts baggage_field)) cx.baggage }

-- a pair of texts that lie somewhere
abbrev pub plain_pair : Bor (List ℕ) × Option (Bor (List ℕ)) → StrictPair
plain_pair pair = (pair.0.now, option_map (λ value. value.now) pair.1)

-- properties after a text, each after a semicolon; the first has none where nothing stands before it
abbrev pub properties_onto : Bool → List (List ℕ) → List ℕ
properties_onto is_first [] = []
properties_onto is_first (p ∷ ps) = unless_first is_first (semicolon ∷ []) ++ (p ++ properties_onto false ps)

-- what one entry adds: its member after a comma, unless it is the first; nothing where its name is no token
abbrev pub next_written : Bool → PlainBaggageEntry → List ℕ
next_written is_first e =
    if has_token_name e then unless_first is_first (comma ∷ []) ++ spelled_member (written_entry e) else []
