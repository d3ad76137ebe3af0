-- Texts among the values of attributes, cut at a length (OpenTelemetry specification, "Attribute Limits"). A length
-- counts characters.
use Rattle.std.specs.Prelude.{ℕ, List, Option, Some, None, map, take}
use Rattle.std.specs.Str.{chars, encode_utf8_all}
use Rattle.opentelemetry.specs.Plain.{PlainKeyValue, PlainValue, boolean, integer, text, booleans, integers, texts, double, doubles}
use Rattle.otel_sampling.specs.declared.trace.span_limit.SpanLimits.{SpanLimits}

-- the beginning of a text that has its first characters, at most so many of them
abbrev pub first_chars : ℕ → List ℕ → List ℕ
first_chars count bytes = encode_utf8_all (take count (chars bytes))

-- a value of which each text has its first characters alone
abbrev pub cut_value : ℕ → PlainValue → PlainValue
cut_value count (boolean b) = boolean b
cut_value count (integer n) = integer n
cut_value count (text bytes) = text (first_chars count bytes)
cut_value count (booleans bs) = booleans bs
cut_value count (integers ns) = integers ns
cut_value count (texts list) = texts (map (first_chars count) list)
cut_value count (double x) = double x
cut_value count (doubles xs) = doubles xs

-- the same where there is a limit
abbrev pub value_under : Option ℕ → PlainValue → PlainValue
value_under None value = value
value_under (Some count) value = cut_value count value

-- what is kept of a value
abbrev pub value_within : SpanLimits → PlainValue → PlainValue
value_within limits value = value_under limits.max_attribute_value_length value

-- what is kept of an attribute: its key whole
abbrev pub attribute_within : SpanLimits → PlainKeyValue → PlainKeyValue
attribute_within limits attribute = record attribute { value = value_within limits attribute.value }
