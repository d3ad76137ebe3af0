use Rattle.std.proofs.Common.{◌≡◌, ◌++◌, ◌∷◌, [], map, length, nat_eq, Some, sym, ap, ◌∙◌, refl, Bor, string_bytes}
use Rattle.std.specs.List.{list_all}
use Rattle.std.proofs.lemmas.List.{map-append}
use Rattle.http_header.specs.FieldValue.{FieldValue}
use Rattle.opentelemetry.specs.Members.{comma}
use Rattle.otel_http.specs.Fields.{is_visible, joined, joined_text}
use Rattle.otel_http.proofs.FieldsLemmas.{joined_first, joined_hidden, joined_later, joined_visible, not_both, nothing_left, visible_push, more_left, nat_eq-push}
use Rattle.otel_http.proofs.fields.joined_text.Goals as goal
use Rattle.otel_http.proofs.fields.joined_text.Goals.{then-not-is_first+in_ok-push_str, else-not-is_first}

pub loop-value-init : goal.loop-value-init
loop-value-init c =
    (c.new-text.ensures.bytes, refl, refl, c.into_iter-value-iterator.ensures.into_iter_gives ∙ c.get_all-value-items.ensures.value)

pub returns-in_default : goal.returns-in_default
returns-in_default c =
    let values = map (λ (value : Bor FieldValue). value.now) c.loop-value.yielded in
    let rest = c.next.new.self in
    let all = ap (λ more. values ++ more) (sym c.in-Some.ensures.steps) ∙ c.loop-value.invariant.3 in
    let hidden = joined_hidden values c.in-Some.value.now rest (λ h. not_both (c.in_default.ensures.succeeds.1 h)) in
    sym hidden ∙ ap joined_text all

pub loop-value-preserved : goal.loop-value-preserved
loop-value-preserved c =
    let values = map (λ (value : Bor FieldValue). value.now) c.loop-value.yielded in
    let v = c.in-Some.value.now in
    let push = map-append (λ (value : Bor FieldValue). value.now) c.loop-value.yielded (c.in-Some.value ∷ []) in
    let text : string_bytes c.push_str-in-loop-value.new.self ≡ joined (values ++ v ∷ []) =
    elim c.if-not-is_first.branch [
      | then-not-is_first+in_ok-push_str w ↦
          c.in_ok-push_str-2.ensures.bytes
          ∙ ap (λ t. t ++ c.in-Ok.value.now) (ap string_bytes w.text-is ∙ w.in_ok-push_str.ensures.bytes ∙ ap (λ t. t ++ comma ∷ []) c.loop-value.invariant.0)
          ∙ ap (λ t. (joined values ++ comma ∷ []) ++ t) c.in-Ok.ensures.ok
          ∙ sym (joined_later values v (sym c.loop-value.invariant.1 ∙ w.if-not-is_first.true))
      | else-not-is_first w ↦
          c.in_ok-push_str-2.ensures.bytes
          ∙ ap (λ t. t ++ c.in-Ok.value.now) (ap string_bytes w.text-is ∙ c.loop-value.invariant.0)
          ∙ ap (λ t. joined values ++ t) c.in-Ok.ensures.ok
          ∙ sym (joined_first values v (sym c.loop-value.invariant.1 ∙ w.if-not-is_first.false))
    ] in (
      text ∙ sym (ap joined push),
      sym (ap (λ xs. nat_eq (length xs) 0) push ∙ nat_eq-push values v),
      ap (list_all is_visible) push ∙ visible_push values v c.loop-value.invariant.2 (c.in-Ok.ensures.succeeds.0 refl),
      ap (λ xs. xs ++ c.next.new.self) push ∙ more_left values v c.next.new.self _ _ c.in-Some.ensures.steps c.loop-value.invariant.3,
    )

pub returns : goal.returns
returns c =
    let values = map (λ (value : Bor FieldValue). value.now) c.loop-value.yielded in
    let all = nothing_left values _ _ c.in-None.ensures.steps.0 c.loop-value.invariant.3 in
    ap Some c.loop-value.invariant.0 ∙ sym (joined_visible values c.loop-value.invariant.2) ∙ ap joined_text all
