-- Those of all spans that are roots, and the children of each.
use Rattle.std.proofs.Common.{vec_len}
use Rattle.otel_picture.proofs.Sorting.{children_in_turn, roots_in_turn}
use Rattle.otel_picture.proofs.rows.Family.turns.Goals as goal

pub returns-clause-roots : goal.returns-clause-roots
returns-clause-roots c =
    let self = c.args.self.now in
    let roots = rw (c.deref.ensures.value, c.deref-2.ensures.value) at c.in_ok-roots.ensures in
    roots_in_turn self.marks.items self.parents.items (vec_len self.parents) c.in_ok-tops.tops.items
    c.in_ok-spans.spans.items c.in_ok-roots.roots.items self.parents.ok.0 c.in_ok-tops.ensures c.in_ok-spans.ensures roots

pub returns-clause-children : goal.returns-clause-children
returns-clause-children c =
    let self = c.args.self.now in
    let split = rw c.deref-3.ensures.value at c.in_ok-children.ensures in
    children_in_turn self.marks.items self.parents.items (vec_len self.parents) c.in_ok-spans.spans.items
    c.in_ok-children.children.items self.parents.ok.0 c.in_ok-spans.ensures split
