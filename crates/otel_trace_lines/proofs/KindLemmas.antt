-- What is found where a moment is to stand, alone or with a kind after it.
use Rattle.std.proofs.Common.{◌≡◌, ◌∙◌, ℕ, List, Option, None, Some, refl, sym}
use Rattle.std.specs.Option.{is_some}
use Rattle.opentelemetry.specs.declared.trace.span_kind.SpanKind.{SpanKind}
use Rattle.otel_trace_lines.specs.Dialects.{MayHave}
use Rattle.otel_trace_lines.specs.declared.dialect.Dialect.{Dialect}
use Rattle.otel_trace_lines.specs.declared.dialect.Dialect.TheVariants as dialects
use Rattle.otel_trace_lines.specs.Lines.{IsOfForm, instant, rest_of_line, start_form}
use Rattle.otel_trace_lines.specs.Numbers.{decimal_in, kind_in}
use Rattle.otel_trace_lines.proofs.FieldLemmas.{moment_alone, same_field}

-- no moment stands there, alone or in front of something
pub no_moment : (dialect : Dialect) (text : List ℕ) → ((moment : ℕ) (rest : List ℕ) → IsOfForm text (instant moment (rest_of_line rest)) → ⊥)
    → ((moment : ℕ) → decimal_in text ≡ Some moment → ⊥) → (moment : ℕ) (kind : Option SpanKind) → IsOfForm text (start_form moment kind) → MayHave dialect (is_some kind) → ⊥
no_moment dialect text none not_alone moment None h may = not_alone moment h
no_moment dialect text none not_alone moment (Some kind) h may = none moment h.3.0 (h.0, h.1, h.2, (h.3.0, h.3.1, refl))

-- a moment stands there, and no kind after it
pub no_kind : (dialect : Dialect) (text : List ℕ) (moment : ℕ) (word : List ℕ) → IsOfForm text (instant moment (rest_of_line word)) → ((kind : SpanKind) → kind_in word ≡ Some kind → ⊥)
    → (other : ℕ) (kind : Option SpanKind) → IsOfForm text (start_form other kind) → MayHave dialect (is_some kind) → ⊥
no_kind dialect text moment word there none other None h may = moment_alone text there.0 there.3.0 other h there.3.1
no_kind dialect text moment word there none other (Some kind) h may =
    let same = same_field text there.0 there.3.0 h.0 h.3.0 there.1 h.1 there.3.1 h.3.1 in
    none kind (rw (sym there.3.2 ∙ same.1) h.3.2)

-- the plain grammar has no kind after it
pub plain_has_none : (text : List ℕ) (moment : ℕ) (word : List ℕ) → IsOfForm text (instant moment (rest_of_line word))
    → (other : ℕ) (kind : Option SpanKind) → IsOfForm text (start_form other kind) → MayHave dialects.Plain (is_some kind) → ⊥
plain_has_none text moment word there other None h may = moment_alone text there.0 there.3.0 other h there.3.1
plain_has_none text moment word there other (Some kind) h may = let no : ⊥ = cc in absurd no
