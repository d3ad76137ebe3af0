-- The roots so far: above each span to which a walk came, and each before this one, there is one.
use Rattle.std.proofs.Common.{◌≡◌, ◌<◌, ℕ, None, true, vec_len}
use Rattle.otel_picture.specs.Parents.{parent_of}
use Rattle.otel_picture.specs.Rows.{IsTop}
use Rattle.otel_picture.specs.Turns.{is_marked}
use Rattle.otel_picture.specs.Walks.{AreBelow, AreOver}
use Rattle.otel_picture.proofs.Walking.{LedBelow}
use Rattle.otel_picture.proofs.rows.Family.tops.Given as goal

abbrev pub invariant-loop-span : goal.invariant-loop-span
invariant-loop-span l = record {
  alike : vec_len l.tops ≡ vec_len l.self.parents;
  walked : vec_len l.walks ≡ vec_len l.self.parents;
  top : (span : ℕ) → is_marked l.tops.items span ≡ true → IsTop l.self.marks.items l.self.parents.items span;
  parentless : (span : ℕ) → span < vec_len l.self.parents → parent_of l.self.parents.items span ≡ None
      → is_marked l.tops.items span ≡ true;
  below : AreBelow l.span l.walks.items;
  over : AreOver l.self.parents.items l.tops.items l.walks.items;
  led : LedBelow l.self.parents.items l.tops.items l.span;
}
