-- The first one so far stays or gives way; that of a whole round is the circle's.
use Rattle.std.proofs.Common.{◌≡◌, ◌<◌, ◌+◌, ◌∙◌, Some, add-one, ap, arith, refl, sym, vec_len}
use Rattle.otel_picture.specs.Parents.{ancestor}
use Rattle.otel_picture.proofs.Circles.{first_alone, first_moves, first_round, first_stays, has_parent, short_round}
use Rattle.otel_picture.proofs.Circles.{step_more}
use Rattle.otel_picture.proofs.rows.Family.circle_head.Goals as goal
use Rattle.otel_picture.proofs.rows.Family.circle_head.Goals.{then-is_before, else-is_before}

pub loop-steps-init : goal.loop-steps-init
loop-steps-init c =
    let self = c.args.self.now in
    record {
      there = c.requires.there;
      head_there = c.requires.there;
      walk = refl;
      seen = (0, refl);
      first = first_alone self.marks.items self.parents.items c.args.span;
    }

pub above-above-requires : goal.above-above-requires
above-above-requires c =
    let circle = c.requires.circle in
    has_parent c.args.self.now.parents.items circle.0 c.loop-steps._steps c.args.span c.loop-steps.above circle.1
    c.loop-steps.invariant.walk

pub returns-then-above-span-clause-head : goal.returns-then-above-span-clause-head
returns-then-above-span-clause-head c =
    let self = c.args.self.now in
    let marks = self.marks.items in
    let parents = self.parents.items in
    let steps = c.loop-steps._steps in
    let so_far = c.loop-steps.invariant in
    let walk = step_more parents steps c.args.span c.loop-steps.above c.above-above.result so_far.walk
    c.above-above.ensures in
    let back : c.above-above.result ≡ c.args.span = c.if-above-span.true in
    let round : ancestor parents (steps + 1) c.args.span ≡ Some c.args.span = walk ∙ ap (λ n. Some n) back in
    first_round marks parents steps (steps + 1) so_far.seen.0 c.args.span c.loop-steps.head (omega arith)
    (rw add-one at round) so_far.seen.1
    (first_stays marks parents steps c.args.span c.args.span c.loop-steps.head round
    (so_far.first 0 c.args.span (omega arith) refl) so_far.first)

pub loop-steps-preserved : goal.loop-steps-preserved
loop-steps-preserved c =
    let self = c.args.self.now in
    let marks = self.marks.items in
    let parents = self.parents.items in
    let steps = c.loop-steps._steps in
    let so_far = c.loop-steps.invariant in
    let walk = step_more parents steps c.args.span c.loop-steps.above c.above-above.result so_far.walk
    c.above-above.ensures in
    let there : c.above-above.result < vec_len self.parents = omega (
      arith,
      self.known c.loop-steps.above c.above-above.result c.above-above.ensures,
      self.parents.ok.0,
    ) in
    elim c.if-is_before.branch [
      | then-is_before w ↦ rw w.head-is (record {
        there = there;
        head_there = there;
        walk = walk;
        seen = (steps + 1, walk);
        first = first_moves marks parents steps c.args.span c.above-above.result c.loop-steps.head walk
            (sym c.is_before.ensures ∙ w.if-is_before.true) so_far.first;
      })
      | else-is_before w ↦ rw w.head-is (record {
        there = there;
        head_there = so_far.head_there;
        walk = walk;
        seen = so_far.seen;
        first = first_stays marks parents steps c.args.span c.above-above.result c.loop-steps.head walk
            (sym c.is_before.ensures ∙ w.if-is_before.false) so_far.first;
      })
    ]

pub returns-clause-head : goal.returns-clause-head
returns-clause-head c =
    let self = c.args.self.now in
    let seen = c.loop-steps.invariant.seen in
    let circle = short_round self.parents.items c.requires.circle.0 c.args.span self.known
    (omega (arith, c.requires.there, self.parents.ok.0)) c.requires.circle.1 in
    first_round self.marks.items self.parents.items circle.0 c.loop-steps._steps seen.0 c.args.span
    c.loop-steps.head (omega (arith, circle.1, self.parents.ok.0)) circle.2 seen.1 c.loop-steps.invariant.first
