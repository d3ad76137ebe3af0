-- A step more, and how the walk ends.
use Rattle.std.proofs.Common.{◌<◌, ◌∙◌, None, Some, ap, arith, is_some, length, nat_eq, refl, suc, sym}
use Rattle.std.specs.Option.{option_eq}
use Rattle.std.proofs.lemmas.Bool.{eq-eqb, false≢true}
use Rattle.std.proofs.lemmas.List.{get_or_read}
use Rattle.otel_picture.specs.Turns.{LeadsTo}
use Rattle.otel_picture.proofs.Walking.{all_led, came_more, came_twice, is_some_of, leads_on, led_before, one_up}
use Rattle.otel_picture.proofs.rows.Family.walk_up.Goals as goal
use Rattle.otel_picture.proofs.rows.Family.walk_up.Goals.{then-loop-at-test+else-is_none, else-loop-at-test}
use Rattle.otel_picture.proofs.rows.Family.walk_up.Goals.{else-not-tops-at-via-then-not-tops-at+else-eq}
use Rattle.otel_picture.proofs.rows.Family.walk_up.Goals.{else-not-tops-at-via-else-not-tops-at}

pub loop-at-preserved : goal.loop-at-preserved
loop-at-preserved c =
    let self = c.args.self.now in
    let so_far = c.loop-at.invariant in
    let parent = c.above-at.result in
    let of = c.above-at.ensures in
    let known = self.known c.loop-at.at parent of in
    record {
      there = omega (arith, known, self.parents.ok.0);
      walked = omega (
        arith,
        so_far.walked,
      );
      from = (suc so_far.from.0, one_up self.parents.items so_far.from.0 c.args.span c.loop-at.at parent so_far.from.1 of);
      came = came_more self.parents.items c.args.walks.now.items c.loop-at.walks.items c.args.span c.loop-at.at parent
          (omega (arith, so_far.there, so_far.walked)) of so_far.came;
    }

pub returns-then-eq-clause-some : goal.returns-then-eq-clause-some
returns-then-eq-clause-some c =
    let self = c.args.self.now in
    let so_far = c.loop-at.invariant in
    came_twice self.parents.items c.args.walks.now.items c.loop-at.walks.items c.args.tops.now c.args.span c.loop-at.at
    (omega (arith, so_far.there, self.parents.ok.0)) c.requires.below c.requires.over so_far.from so_far.came
    (sym (get_or_read c.loop-at.walks.items c.loop-at.at c.index-then-not-tops-at.result.now
    (omega (arith, so_far.there, so_far.walked, c.loop-at.walks.ok.0)) c.index-then-not-tops-at.ensures None)
    ∙ is_some_of c.index-then-not-tops-at.result.now c.args.span (sym c.eq.ensures ∙ c.if-eq.true))

pub returns-else-not-tops-at-clause-none : goal.returns-else-not-tops-at-clause-none
returns-else-not-tops-at-clause-none c =
    let self = c.args.self.now in
    let so_far = c.loop-at.invariant in
    let inside : c.loop-at.at < length c.loop-at.walks.items =
    omega (arith, so_far.there, so_far.walked, c.loop-at.walks.ok.0) in
    let on : LeadsTo self.parents.items c.args.tops.now c.loop-at.at = elim c.else-not-tops-at.branch [
      | else-not-tops-at-via-else-not-tops-at w ↦ (0, c.loop-at.at, refl, w.if-not-tops-at.false)
      | else-not-tops-at-via-then-not-tops-at+else-eq w ↦ elim c.loop-at-test.branch [
        | else-loop-at-test v ↦ absurd (false≢true (sym w.if-not-tops-at.true ∙ v.loop-at-test.false))
        | then-loop-at-test+else-is_none v ↦
            led_before self.parents.items c.args.walks.now.items c.args.tops.now c.args.span c.loop-at.at _ c.requires.over
            (λ none. false≢true (ap is_some (sym none ∙ sym (get_or_read c.loop-at.walks.items c.loop-at.at
            v.index.result.now inside v.index.ensures None)) ∙ v.if-is_none.ensures))
            (λ here. false≢true (w.if-eq.ensures
            ∙ ap (λ o. option_eq nat_eq o (Some c.args.span)) (get_or_read c.loop-at.walks.items c.loop-at.at
            w.index-then-not-tops-at.result.now inside w.index-then-not-tops-at.ensures None ∙ here)
            ∙ eq-eqb c.args.span c.args.span refl))
            (λ began e. so_far.came c.loop-at.at began e)
      ]
    ] in (
      all_led self.parents.items c.args.walks.now.items c.loop-at.walks.items c.args.tops.now c.args.span c.loop-at.at c.requires.over
          so_far.came on,
      leads_on self.parents.items c.args.tops.now so_far.from.0 c.args.span c.loop-at.at so_far.from.1 on,
    )
