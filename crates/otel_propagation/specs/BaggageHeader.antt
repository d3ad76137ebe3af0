-- The header of a baggage (W3C Baggage, section 3.3): members `name=value` between commas, each with properties after
-- semicolons. Names and values are percent-encoded, and white space around them and around properties says nothing.
use Rattle.std.specs.Prelude.{◌≡◌, ◌≢◌, ◌≤◌, ℕ, Bool, not, ◌||◌, ◌==◌, nat_lt, nat_le, List, [], ◌∷◌, ◌++◌}
use Rattle.std.specs.Prelude.{Option, None, Some, All, IsUtf8, length, take, map, codes, unwrap_or, if◌then◌else◌}
use Rattle.std.specs.Prelude.{Result, OnOk, OnErr, IsOk}
use Rattle.std.specs.List.{filter, filter_map, flat_map, join_with_byte}
use Rattle.std.specs.Str.{bytes_eq, is_utf8, trim}
use Rattle.std.specs.declared.alloc.AllocError.{AllocError}
use Rattle.percent_encoding.specs.Percent.{percent_encode_byte, percent_decode, percent_sign}
use Rattle.opentelemetry.specs.Baggage.{PlainBaggage, PlainBaggageEntry, entry_of, HasDistinctNames, IsWithinLimits}
use Rattle.opentelemetry.specs.Carrier.{Texts, SetsText, SameTexts}
use Rattle.opentelemetry.specs.Plain.{PlainContext}
use Rattle.opentelemetry.specs.PlainContexts.{current_span_context}
use Rattle.opentelemetry.specs.Members.{HasNo, comma, equals_sign, pieces_at, semicolon}

-- the name under which the header travels
abbrev pub baggage_field : List ℕ
baggage_field = codes "baggage"

-- a byte that a name or a value cannot have in a header: a control, a space, one of `"%,;=`, or one past ASCII
abbrev pub needs_escape : ℕ → Bool
needs_escape b = nat_lt b 33 || (nat_lt 126 b || (b == 34 || (b == 37 || (b == 44 || (b == 59 || b == 61)))))

-- a byte as a header has it: a percent sign and two upper-case digits, where it needs them
abbrev pub escaped_byte : ℕ → List ℕ
escaped_byte b = if needs_escape b then percent_encode_byte b else b ∷ []

-- a name or a value as a header has it, without the white space around it
unfoldable pub escaped : List ℕ → List ℕ
escaped text = flat_map escaped_byte (trim text)

-- metadata after its semicolon; where it is empty, nothing
abbrev pub after_semicolon : List ℕ → List ℕ
after_semicolon [] = []
after_semicolon (b ∷ bs) = semicolon ∷ b ∷ bs

-- the member of an entry; its metadata stands as it is, without the white space around it
unfoldable pub member_of : PlainBaggageEntry → List ℕ
member_of e = escaped e.key ++ (equals_sign ∷ (escaped e.value ++ after_semicolon (trim e.metadata)))

-- the header of a baggage: the members of its entries, in order
unfoldable pub header_of : PlainBaggage → List ℕ
header_of es = join_with_byte comma (map member_of es)

-- what a name, a value or a property says: percent-decoded, without the white space around it; none where not UTF-8
unfoldable pub said_by : List ℕ → Option (List ℕ)
said_by text = if is_utf8 (percent_decode text) then Some (trim (percent_decode text)) else None

-- the metadata of a member's properties: those that are UTF-8, in order
unfoldable pub metadata_of : List (List ℕ) → List ℕ
metadata_of properties = join_with_byte semicolon (filter_map said_by properties)

-- the entry of a name, a value and metadata; none where a name or a value does not read, or the name is empty
abbrev pub named_entry : Option (List ℕ) → Option (List ℕ) → List ℕ → Option PlainBaggageEntry
named_entry None value metadata = None
named_entry (Some name) None metadata = None
named_entry (Some []) (Some value) metadata = None
named_entry (Some (b ∷ name)) (Some value) metadata = Some (entry_of (b ∷ name) value metadata)

-- the entry of what stands between equals signs, a name, then a value, and of metadata; none without an equals sign
abbrev pub paired_entry : List (List ℕ) → List ℕ → Option PlainBaggageEntry
paired_entry [] metadata = None
paired_entry (name ∷ []) metadata = None
paired_entry (name ∷ value ∷ more) metadata = named_entry (said_by name) (said_by value) metadata

-- the entry of what stands between semicolons: a pair, then properties
abbrev pub entry_of_parts : List (List ℕ) → Option PlainBaggageEntry
entry_of_parts [] = None
entry_of_parts (pair ∷ properties) = paired_entry (pieces_at equals_sign pair) (metadata_of properties)

-- the entry that a member says, if it reads
unfoldable pub entry_of_member : List ℕ → Option PlainBaggageEntry
entry_of_member member = entry_of_parts (pieces_at semicolon member)

-- the last entry of this one's name: this one, or one of those after it
abbrev pub last_of_name : PlainBaggageEntry → PlainBaggage → PlainBaggageEntry
last_of_name e [] = e
last_of_name e (later ∷ more) = if bytes_eq e.key later.key then last_of_name later more else last_of_name e more

-- the entries of other names than this one's
abbrev pub of_other_names : PlainBaggageEntry → PlainBaggage → PlainBaggage
of_other_names e es = filter (λ other. not (bytes_eq e.key other.key)) es

-- one entry a name: at the place of its first one, with what its last one says
abbrev pub one_a_name : PlainBaggage → PlainBaggage
one_a_name [] = []
one_a_name (e ∷ es) = last_of_name e es ∷ of_other_names e (one_a_name es)

-- the baggage of a header whose members say entries so: of its first 64 members those that say one, one a name
abbrev pub entries_said : (List ℕ → Option PlainBaggageEntry) → List ℕ → PlainBaggage
entries_said says header = one_a_name (filter_map says (take 64 (pieces_at comma header)))

-- the baggage of a header: of its first 64 members those that read, one a name
unfoldable pub entries_of : List ℕ → PlainBaggage
entries_of header = entries_said entry_of_member header

-- the baggage that a header says to a reader, if there is a header, and one of at most 8192 bytes
abbrev pub read_short : (List ℕ → PlainBaggage) → Option (List ℕ) → Option PlainBaggage
read_short reads None = None
read_short reads (Some header) = if nat_le (length header) 8192 then Some (reads header) else None

-- what it says to a baggage propagator
abbrev pub read_baggage : Option (List ℕ) → Option PlainBaggage
read_baggage header = read_short entries_of header

-- what a baggage propagator injects: the header; for an empty baggage nothing, which needs no memory
pub record InjectsBaggage (cx : PlainContext) (old : Texts) (result : Result (Unit {0}) AllocError)
    (new : Texts) : Type 0 where
  pub set : cx.baggage ≢ [] → OnOk result (SetsText old new baggage_field (header_of cx.baggage))
  pub nothing : cx.baggage ≡ [] → IsOk result × SameTexts old new
  pub err : OnErr result (SameTexts old new)

-- what it extracts: the context with the baggage that the header says, if one is read
abbrev pub ExtractsBaggage : PlainContext → Texts → PlainContext → Type 0
ExtractsBaggage cx texts found =
    found ≡ record cx { baggage = unwrap_or (read_baggage (texts baggage_field)) cx.baggage }

-- reading wants no memory: there is no trace state to share; a header that is read has no equals sign, and so says no
-- entry; and where none is read, there is no baggage to share
pub record BaggageIsInfallible (cx : PlainContext) (texts : Texts) : Type 0 where
  pub shares_no_state : (current_span_context cx).trace_state ≡ []
  pub reads_no_entry : (header : List ℕ) → texts baggage_field ≡ Some header → length header ≤ 8192
      → HasNo equals_sign header
  pub shares_no_baggage : read_baggage (texts baggage_field) ≡ None → cx.baggage ≡ []

-- an entry is of texts
pub record HasTexts (e : PlainBaggageEntry) : Type 0 where
  pub key : IsUtf8 e.key
  pub value : IsUtf8 e.value
  pub metadata : IsUtf8 e.metadata

-- an entry as a baggage has it: texts, within the limits, and one a name
pub record IsBaggage (es : PlainBaggage) : Type 0 where
  pub within : IsWithinLimits es
  pub distinct : HasDistinctNames es
  pub texts : All HasTexts es

-- an entry that its member says unchanged: no white space around its name, its value and the parts of its metadata, and
-- neither comma nor percent sign in that
pub record IsSaidUnchanged (e : PlainBaggageEntry) : Type 0 where
  pub key : trim e.key ≡ e.key
  pub value : trim e.value ≡ e.value
  pub parts : All (λ part. trim part ≡ part) (pieces_at semicolon e.metadata)
  pub no_comma : HasNo comma e.metadata
  pub no_percent : HasNo percent_sign e.metadata

-- a baggage that a header carries unchanged: not empty, each entry said unchanged, in a header short enough to be read
pub record IsCarriedUnchanged (es : PlainBaggage) : Type 0 where
  pub some : es ≢ []
  pub entries : All IsSaidUnchanged es
  pub short : length (header_of es) ≤ 8192

-- whatever is extracted from the texts has this baggage
abbrev pub Carries : Texts → PlainBaggage → Type 0
Carries texts es = (cx found : PlainContext) → ExtractsBaggage cx texts found → found.baggage ≡ es
