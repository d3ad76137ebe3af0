-- What contracts see of the values: numbers, lists, and texts as their bytes. A plain value lies nowhere in memory.
use Rattle.std.specs.Prelude.{ℕ, ℤ, Bool, List, [], Option, None}
use Rattle.std.specs.Float.Ieee.{Float}
use Rattle.opentelemetry.specs.Baggage.{PlainBaggage}

-- a value of an attribute: a truth value, an integer, a text, a float, or a list of one of these
pub data PlainValue : Type 0 where
  boolean : Bool → PlainValue
  integer : ℤ → PlainValue
  text : List ℕ → PlainValue
  booleans : List Bool → PlainValue
  integers : List ℤ → PlainValue
  texts : List (List ℕ) → PlainValue
  double : Float → PlainValue
  doubles : List Float → PlainValue

-- a key and its value
pub record PlainKeyValue : Type 0 where
  pub key : List ℕ
  pub value : PlainValue

-- who made a span: a library's name, version and schema
pub record PlainScope : Type 0 where
  pub name : List ℕ
  pub version : Option (List ℕ)
  pub schema_url : Option (List ℕ)
  pub attributes : List PlainKeyValue

-- the library of a name alone
abbrev pub scope_named : List ℕ → PlainScope
scope_named name = record { name = name; version = None; schema_url = None; attributes = [] }

-- the identity of a span, and what travels with it
pub record PlainSpanContext : Type 0 where
  pub trace_id : ℕ
  pub span_id : ℕ
  pub trace_flags : ℕ
  pub is_remote : Bool
  pub trace_state : List (List ℕ × List ℕ)

-- how the operation of a span went
pub data PlainStatus : Type 0 where
  unset : PlainStatus
  error : List ℕ → PlainStatus
  ok : PlainStatus

-- what happened within a span
pub record PlainEvent : Type 0 where
  pub name : List ℕ
  pub timestamp : ℕ
  pub attributes : List PlainKeyValue
  pub dropped_attributes_count : ℕ

-- another span that a span points to
pub record PlainLink : Type 0 where
  pub span_context : PlainSpanContext
  pub attributes : List PlainKeyValue
  pub dropped_attributes_count : ℕ

-- what a span starts in: the active span's context, what is handed on, and whether telemetry is suppressed
pub record PlainContext : Type 0 where
  pub span_context : Option PlainSpanContext
  pub baggage : PlainBaggage
  pub telemetry_suppressed : Bool
