-- The entry `ot` of a trace state (OpenTelemetry specification, "TraceState Handling" and "TraceState: Probability
-- Sampling"): sub-keys `key:value` between semicolons. A sub-key that stands twice is read where it stands first.
use Rattle.std.specs.Prelude.{ℕ, Bool, not, ◌&&◌, nat_lt, ◌==◌, if◌then◌else◌, List}
use Rattle.std.specs.Prelude.{[], ◌∷◌, ◌++◌, length, Option, Some, None}
use Rattle.std.specs.List.{after_first, before_first, filter, join_with_byte, position_or_len}
use Rattle.std.specs.Option.{option_map_or}
use Rattle.opentelemetry.specs.Members.{pieces_at, semicolon}
use Rattle.opentelemetry.specs.Same.{same_text}
use Rattle.opentelemetry.specs.Tracestate.{is_some_text, is_value, value_of_key, without_key}
use Rattle.otel_probability.specs.Numbers.{every_number, randomness_of_id, randomness_of_text, threshold_of_text}
use Rattle.otel_probability.specs.Numbers.{threshold_text}

-- a trace state: pairs of a key and a value
abbrev pub Pairs : Type 0
Pairs = List (List ℕ × List ℕ)

-- the names `ot`, `th` and `rv`
abbrev pub ot : List ℕ
ot = 111 ∷ 116 ∷ []

abbrev pub th : List ℕ
th = 116 ∷ 104 ∷ []

abbrev pub rv : List ℕ
rv = 114 ∷ 118 ∷ []

-- a colon
abbrev pub is_colon : ℕ → Bool
is_colon b = b == 58

-- a member has a sub-key: it stands in front of the member's first colon
abbrev pub has_sub_key : List ℕ → List ℕ → Bool
has_sub_key name member =
    nat_lt (position_or_len is_colon member) (length member) && same_text (before_first is_colon member) name

-- the members of the entry: what stands between semicolons
abbrev pub entry_members : List ℕ → List (List ℕ)
entry_members entry = pieces_at semicolon entry

-- the first value of a sub-key among members
abbrev pub sub_value : List ℕ → List (List ℕ) → Option (List ℕ)
sub_value name [] = None
sub_value name (member ∷ more) =
    if has_sub_key name member then Some (after_first is_colon member) else sub_value name more

-- a member that stays where the threshold is changed: any but `th`; an empty one is none
abbrev pub stays : List ℕ → Bool
stays member = is_some_text member && not (has_sub_key th member)

-- the members that stay, in their order
abbrev pub other_members : List ℕ → List (List ℕ)
other_members entry = filter stays (entry_members entry)

-- the text of an entry of these members
abbrev pub entry_text : List (List ℕ) → List ℕ
entry_text members = join_with_byte semicolon members

-- the entry of a trace state; the empty one where there is none
abbrev pub entry_of : Pairs → List ℕ
entry_of state = option_map_or (λ entry. entry) (value_of_key ot state) []

-- the text of the first `th`, and of the first `rv`
abbrev pub th_text : Pairs → Option (List ℕ)
th_text state = sub_value th (entry_members (entry_of state))

abbrev pub rv_text : Pairs → Option (List ℕ)
rv_text state = sub_value rv (entry_members (entry_of state))

-- what two readings in a row give
abbrev pub then_read : {A B : Type 0} → Option A → (A → Option B) → Option B
then_read None read = None
then_read (Some a) read = read a

-- the threshold that a trace state has; none where it has no `th`, or one of another form
abbrev pub threshold_in : Pairs → Option ℕ
threshold_in state = then_read (th_text state) threshold_of_text

-- the randomness of a trace: that of `rv`; where there is none, or one of another form, that of the trace id
abbrev pub randomness_in : Pairs → ℕ → ℕ
randomness_in state trace_id =
    option_map_or (λ randomness. randomness) (then_read (rv_text state) randomness_of_text) (randomness_of_id trace_id)

-- the trace state with another entry, in front as W3C Trace Context demands (section 3.5); without one where the
-- entry has no member, or is no value of a trace state
abbrev pub with_entry : List ℕ → Pairs → Pairs
with_entry entry state =
    if is_some_text entry && is_value entry then (ot, entry) ∷ without_key ot state else without_key ot state

-- the trace state without a threshold; as it is where it has no `th`
abbrev pub without_threshold : Pairs → Pairs
without_threshold state =
    option_map_or (λ text. with_entry (entry_text (other_members (entry_of state))) state) (th_text state) state

-- the entry with a threshold, which stands in front of the other members
abbrev pub entry_with : ℕ → List ℕ → List ℕ
entry_with threshold entry = entry_text ((th ++ 58 ∷ threshold_text threshold) ∷ other_members entry)

-- the trace state with a threshold; without one where that keeps no span, or where the entry would be longer than a
-- value may be
abbrev pub with_threshold : ℕ → Pairs → Pairs
with_threshold threshold state =
    if nat_lt threshold every_number && is_value (entry_with threshold (entry_of state))
    then (ot, entry_with threshold (entry_of state)) ∷ without_key ot state
    else without_threshold state
