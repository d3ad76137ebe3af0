-- The count of rejected spans in an `ExportTraceServiceResponse { partial_success = 1 { rejected_spans = 1 } }` (OTLP
-- 1.7), as protobuf writes it. Of a field that comes twice the last one counts, other fields are passed over, and what
-- does not read gives no count.
use Rattle.std.specs.Prelude.{ℕ, ◌==◌, List, [], ◌∷◌, Option, Some, option_map, option_and_then, if◌then◌else◌}
use Rattle.otel_protobuf.specs.Reading.{Raw, number, eight, four, sized, fields_in, read_64}

-- the number that a field holds, or the one before
abbrev pub number_or : ℕ → Raw → ℕ
number_or before (number n) = n
number_or before (eight n) = before
number_or before (four n) = before
number_or before (sized bs) = before

-- the count after a field of a partial success, after its fields, and after its bytes
abbrev pub count_after : ℕ → ℕ × Raw → ℕ
count_after before f = if f.0 == 1 then number_or before f.1 else before

abbrev pub counts : ℕ → List (ℕ × Raw) → ℕ
counts count [] = count
counts count (f ∷ fs) = counts (count_after count f) fs

abbrev pub partial_count : ℕ → List ℕ → Option ℕ
partial_count before bs = option_map (counts before) (fields_in read_64 bs)

-- the count after a message within a response, after a field of it, and after its fields
abbrev pub partial_or : ℕ → Raw → Option ℕ
partial_or before (number n) = Some before
partial_or before (eight n) = Some before
partial_or before (four n) = Some before
partial_or before (sized bs) = partial_count before bs

abbrev pub response_after : ℕ → ℕ × Raw → Option ℕ
response_after before f = if f.0 == 1 then partial_or before f.1 else Some before

abbrev pub responses : ℕ → List (ℕ × Raw) → Option ℕ
responses count [] = Some count
responses count (f ∷ fs) = option_and_then (λ n. responses n fs) (response_after count f)

-- what the bytes of a response say
abbrev pub rejected_in : List ℕ → Option ℕ
rejected_in bs = option_and_then (responses 0) (fields_in read_64 bs)
