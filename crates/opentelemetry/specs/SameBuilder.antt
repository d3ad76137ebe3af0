-- Whether two span builders are the same, part by part. The test is true exactly at equal values.
use Rattle.std.specs.Prelude.{◌≡◌, ℕ, Bool, ◌&&◌, if◌then◌else◌, refl, ◌==◌}
use Rattle.std.specs.Bool.{Decides}
use Rattle.std.specs.Option.{option_eq}
use Rattle.std.specs.Cmp.Lexicographic.{pointwise, pointwise_decides}
use Rattle.std.proofs.Common.{ap, sym, ◌∙◌}
use Rattle.std.proofs.lemmas.Bool.Decides.{Decides-eqb, Decides-like, Decides-and}
use Rattle.opentelemetry.specs.PlainSpanBuilder.{PlainSpanBuilder}
use Rattle.opentelemetry.specs.Same.{same_text, same_text_decides}
use Rattle.opentelemetry.specs.SameParts.{same_attributes, same_attributes_decides, option_eq_decides}
use Rattle.opentelemetry.specs.SameParts.{same_event, same_event_decides, same_link, same_link_decides}
use Rattle.opentelemetry.specs.declared.trace.span_kind.SpanKind.{SpanKind}
use Rattle.opentelemetry.specs.declared.trace.span_kind.SpanKind.TheVariants as kinds

-- where a kind stands among the kinds
abbrev pub kind_place : SpanKind → ℕ
kind_place kinds.Client = 0
kind_place kinds.Server = 1
kind_place kinds.Producer = 2
kind_place kinds.Consumer = 3
kind_place kinds.Internal = 4

-- the kind at a place
abbrev pub kind_at : ℕ → SpanKind
kind_at n = if n == 0 then kinds.Client else (if n == 1 then kinds.Server else
    (if n == 2 then kinds.Producer else (if n == 3 then kinds.Consumer else kinds.Internal)))

kind_at-kind_place : (k : SpanKind) → kind_at (kind_place k) ≡ k
kind_at-kind_place kinds.Client = refl
kind_at-kind_place kinds.Server = refl
kind_at-kind_place kinds.Producer = refl
kind_at-kind_place kinds.Consumer = refl
kind_at-kind_place kinds.Internal = refl

-- whether two kinds are the same
abbrev pub same_kind : SpanKind → SpanKind → Bool
same_kind a b = kind_place a == kind_place b

pub same_kind_decides : (a b : SpanKind) → Decides (same_kind a b) (a ≡ b)
same_kind_decides a b =
    Decides-like (same_kind a b)
    (λ e. sym (kind_at-kind_place a) ∙ ap kind_at e ∙ kind_at-kind_place b)
    (λ e. ap kind_place e)
    (Decides-eqb (kind_place a) (kind_place b))

-- whether two span builders are the same
abbrev pub same_builder : PlainSpanBuilder → PlainSpanBuilder → Bool
same_builder a b = same_text a.name b.name && (option_eq same_kind a.span_kind b.span_kind
    && (option_eq (λ x y. x == y) a.start_time b.start_time
    && (option_eq same_attributes a.attributes b.attributes
    && (option_eq (pointwise same_event) a.events b.events && option_eq (pointwise same_link) a.links b.links))))

pub same_builder_decides : (a b : PlainSpanBuilder) → Decides (same_builder a b) (a ≡ b)
same_builder_decides a b =
    Decides-like (same_builder a b)
    (λ e. λ i. record {
      name = e.0 i;
      span_kind = e.1.0 i;
      start_time = e.1.1.0 i;
      attributes = e.1.1.1.0 i;
      events = e.1.1.1.1.0 i;
      links = e.1.1.1.1.1 i;
    })
    (λ e. (
      ap (λ x. x.name) e,
      (
        ap (λ x. x.span_kind) e,
        (ap (λ x. x.start_time) e, (ap (λ x. x.attributes) e, (ap (λ x. x.events) e, ap (λ x. x.links) e))),
      ),
    ))
    (Decides-and _ _ (same_text_decides a.name b.name)
    (Decides-and _ _ (option_eq_decides same_kind_decides a.span_kind b.span_kind)
    (Decides-and _ _ (option_eq_decides (λ x y. Decides-eqb x y) a.start_time b.start_time)
    (Decides-and _ _ (option_eq_decides same_attributes_decides a.attributes b.attributes)
    (Decides-and _ _ (option_eq_decides (pointwise_decides same_event_decides) a.events b.events)
    (option_eq_decides (pointwise_decides same_link_decides) a.links b.links))))))
