-- The names of propagators in a text, between commas (OpenTelemetry specification, "General SDK Configuration",
-- OTEL_PROPAGATORS). White space around a name says nothing, nor does an empty name.
use Rattle.std.specs.Prelude.{ℕ, Bool, IsTrue, not, ◌||◌, List, [], ◌∷◌, Option, None, Some, codes, map, string_bytes}
use Rattle.std.specs.Prelude.{if◌then◌else◌}
use Rattle.std.specs.List.{filter}
use Rattle.std.specs.Str.{bytes_eq, trim}
use Rattle.opentelemetry.specs.Members.{comma, pieces_at}
use Rattle.otel_propagation.specs.Composite.{joined_onto, with_name}
use Rattle.otel_propagation.specs.declared.propagation.named.NamedPropagator.{NamedPropagator}
use Rattle.otel_propagation.specs.declared.propagation.named.NamedPropagator.TheVariants as named

-- the names of the built-in propagators
abbrev pub trace_context_name : List ℕ
trace_context_name = codes "tracecontext"

abbrev pub baggage_name : List ℕ
baggage_name = codes "baggage"

abbrev pub strict_baggage_name : List ℕ
strict_baggage_name = codes "baggage-strict"

-- a name of a built-in propagator
abbrev pub is_built_in : List ℕ → Bool
is_built_in name =
    bytes_eq name trace_context_name || (bytes_eq name baggage_name || bytes_eq name strict_baggage_name)

-- what names a propagator: neither the empty name nor that of none
abbrev pub is_name : List ℕ → Bool
is_name name = not (bytes_eq name [] || bytes_eq name (codes "none"))

-- what stands between the commas of a text, without the white space around it
abbrev pub members_of : List ℕ → List (List ℕ)
members_of text = map trim (pieces_at comma text)

-- the members that pass a test, each once, at its first place
abbrev pub names_where : (List ℕ → Bool) → List (List ℕ) → List (List ℕ)
names_where test members = joined_onto [] (filter test members)

-- the names of propagators in a text
unfoldable pub names_in : List ℕ → List (List ℕ)
names_in text = names_where is_name (members_of text)

-- the text, where it is not blank; the default where it is
abbrev pub unless_blank : List ℕ → List ℕ → List ℕ
unless_blank [] text = codes "tracecontext,baggage"
unless_blank (b ∷ bs) text = text

-- the text that counts: an absent or blank one counts as both names of W3C's propagators
abbrev pub text_or_default : Option (List ℕ) → List ℕ
text_or_default None = codes "tracecontext,baggage"
text_or_default (Some text) = unless_blank (trim text) text

-- the name of a propagator that a text names
abbrev pub name_of : NamedPropagator → List ℕ
name_of named.TraceContext = trace_context_name
name_of named.Baggage = baggage_name
name_of named.StrictBaggage = strict_baggage_name
name_of (named.Unknown name) = string_bytes name

-- what is built in does not count as unknown
abbrev pub HasItsKind : NamedPropagator → Type 0
HasItsKind named.TraceContext = Unit {0}
HasItsKind named.Baggage = Unit {0}
HasItsKind named.StrictBaggage = Unit {0}
HasItsKind (named.Unknown name) = IsTrue (not (is_built_in (string_bytes name)))

-- a name after those that are given, where it passes a test and is not one of them
abbrev pub with_name_where : (List ℕ → Bool) → List (List ℕ) → List ℕ → List (List ℕ)
with_name_where test given name = if test name then with_name given name else given
