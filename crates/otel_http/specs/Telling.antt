-- Edits of the span that is current in a scope, one after the other.
use Rattle.std.specs.Prelude.{◌≡◌, ◌⊎◌, List, [], ◌∷◌, Option, None, Some, Result, Ok, IsErr, MatchBool}
use Rattle.std.specs.declared.alloc.AllocError.{AllocError}
use Rattle.otel_pipeline.specs.SpanHistory.{Edit, IsEdited, PlainSpan}
use Rattle.otel_scope.specs.Currents.{edited_here, records_here}
use Rattle.otel_scope.specs.Working.{Becomes}
use Rattle.otel_scope.specs.declared.holds_spans.HoldsSpans.{Ghosts}

-- the span that was current still is, but for edits; where none was, none is
abbrev pub SpanStays : Option PlainSpan → Option PlainSpan → Type 0
SpanStays None new = new ≡ None
SpanStays (Some span) new = (edited : PlainSpan) × (new ≡ Some edited) × IsEdited span edited

module _ {S : Type 0} (scopes : Ghosts S) where
  -- the same of a scope
  abbrev pub StaysHere : S → S → Type 0
  StaysHere old new = SpanStays (scopes.current old).span (scopes.current new).span

  -- an edit reached the current span
  abbrev pub TellsOne : Edit → S → S → Type 0
  TellsOne edit old new =
      Becomes scopes.current scopes.with_current (edited_here edit (scopes.current old)) old new

  -- edits reached the current span in order, all of them, or those before one for which there was no memory
  abbrev pub TellsEach : List Edit → S → Result (Unit {0}) AllocError → S → Type 0
  TellsEach [] old answer new = (answer ≡ Ok tt) × (new ≡ old)
  TellsEach (edit ∷ edits) old answer new =
      (IsErr answer × (new ≡ old)) ⊎ ((told : S) × TellsOne edit old told × TellsEach edits told answer new)

  -- the same, where the current span records; else nothing happened
  abbrev pub TellsHere : List Edit → S → Result (Unit {0}) AllocError → S → Type 0
  TellsHere edits old answer new =
      MatchBool (records_here (scopes.current old)) (TellsEach edits old answer new) ((answer ≡ Ok tt) × (new ≡ old))
