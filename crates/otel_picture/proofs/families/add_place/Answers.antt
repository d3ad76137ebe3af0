-- The group of the number has one place more, or a group begins with it.
use Rattle.std.proofs.Common.{◌++◌, ◌∷◌, [], ◌∙◌, ap, arith, refl, sym}
use Rattle.std.proofs.lemmas.List.{get_or_default}
use Rattle.otel_picture.specs.declared.families.Group.{Group}
use Rattle.otel_picture.proofs.families.add_place.Goals as goal

pub returns-then-number-len : goal.returns-then-number-len
returns-then-number-len c = record {
  joins = λ old_group l.
      let same = sym (get_or_default c.args.groups.now.items c.args.number old_group c.index_mut.result.now l
      ∙ sym c.index_mut.ensures.value) in (
        record { trace_id = c.index_mut.result.now.trace_id; places = c.push.new.self },
        record {
          trace_is = ap (λ (g : Group). g.trace_id) same;
          places_are = c.in_ok-push.ensures.items ∙ ap (λ (g : Group). g.places.items ++ c.args.place ∷ []) same;
        },
        refl,
      );
  begins = λ l. absurd (omega (arith, l, c.if-number-len.true));
}

pub returns : goal.returns
returns c = record {
  joins = λ old_group l. absurd (omega (arith, l, c.if-number-len.false));
  begins = λ l. (
    record { trace_id = c.args.trace_id; places = c.in_ok-places.places },
    record { trace_is = refl; places_are = c.in_ok-places.ensures.items },
    c.in_ok-push-2.ensures.items,
  );
}
