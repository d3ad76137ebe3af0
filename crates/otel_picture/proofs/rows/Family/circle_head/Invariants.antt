-- The walk round so far, and the first span that it has come to.
use Rattle.std.proofs.Common.{◌≡◌, ◌<◌, ℕ, Some, vec_len}
use Rattle.otel_picture.specs.Parents.{ancestor}
use Rattle.otel_picture.proofs.Circles.{IsFirstOf}
use Rattle.otel_picture.proofs.rows.Family.circle_head.Given as goal

abbrev pub invariant-loop-steps : goal.invariant-loop-steps
invariant-loop-steps l = record {
  there : l.above < vec_len l.self.parents;
  head_there : l.head < vec_len l.self.parents;
  walk : ancestor l.self.parents.items l._steps l.span ≡ Some l.above;
  seen : (high : ℕ) × (ancestor l.self.parents.items high l.span ≡ Some l.head);
  first : IsFirstOf l.self.marks.items l.self.parents.items l._steps l.span l.head;
}
