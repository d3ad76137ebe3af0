-- One span more.
use Rattle.std.proofs.Common.{◌≡◌, ◌∙◌, ◌+◌, ap, arith, length, nat_eq, refl, rules, subst, take}
use Rattle.std.specs.BTreeMap.{get}
use Rattle.std.specs.Option.{unwrap_or}
use Rattle.std.specs.Ordering.{nat_cmp}
use Rattle.indexmap.specs.IndexSet.{insert_key}
use Rattle.otel_shown.specs.Shown.{PlainShownSpan}
use Rattle.otel_picture.specs.Families.{trace_ids}
use Rattle.otel_picture.specs.Groups.{AreGroups}
use Rattle.otel_picture.proofs.Finding.{AreNumbers, number_is, numbers_more}
use Rattle.otel_picture.proofs.Grouping.{one_more_place, one_more_trace}
use Rattle.otel_picture.proofs.families.groups_of.Goals as goal

pub loop-place-init : goal.loop-place-init
loop-place-init c = record {
  numbers = λ id. search (rules, c.new-numbers.ensures.empty);
  groups = search rules;
}

pub loop-place-preserved : goal.loop-place-preserved
loop-place-preserved c =
    let spans = c.args.spans.now in
    let span = c.index-spans-place.result in
    let keys = trace_ids (take c.loop-place.place spans) in
    let trace = c.span.inside.trace_id in
    let id = ap (λ (s : PlainShownSpan). s.trace_id) c.span.view_is in
    let now = one_more_trace spans c.loop-place.place keys (insert_key nat_eq keys trace) trace span
    c.loop-place-test.true c.index-spans-place.is id refl refl in
    let before = c.loop-place.invariant in
    let number : c.in_ok-number.number ≡ unwrap_or (get nat_cmp c.loop-place.numbers trace) (length keys) =
    c.in_ok-number.ensures.is ∙ ap (unwrap_or (get nat_cmp c.loop-place.numbers trace))
    (omega (arith, c.len.ensures, before.groups.alike, c.loop-place.groups.ok.0)) in
    record {
      numbers = subst (AreNumbers c.number_of.new.numbers) now (numbers_more c.loop-place.numbers c.number_of.new.numbers keys
          trace c.in_ok-number.number before.numbers number c.in_ok-number.ensures.noted);
      groups = subst (λ ks. AreGroups spans (c.loop-place.place + 1) ks c.add_place.new.groups.items) now
          (one_more_place spans c.loop-place.place keys (insert_key nat_eq keys trace) c.loop-place.groups.items
          c.add_place.new.groups.items c.in_ok-number.number trace span c.loop-place-test.true c.index-spans-place.is id
          before.groups refl (number_is c.loop-place.numbers keys trace c.in_ok-number.number before.numbers number)
          c.in_ok-add_place.ensures);
    }
