-- A row that is done puts those of its children in front; in the end all are done.
use Rattle.std.proofs.Common.{arith, refl}
use Rattle.otel_picture.specs.Turns.{plain_waiting}
use Rattle.otel_picture.proofs.Sorting.{children_read, children_there}
use Rattle.otel_picture.proofs.Turning.{all_done, begun, next_row, one_done}
use Rattle.otel_picture.proofs.rows.rows.Goals as goal

pub loop-row-init : goal.loop-row-init
loop-row-init c =
    let family = c.args.family.now in
    let put = rw (
      c.in_ok-with_capacity.ensures.items,
      c.in_ok-vec.ensures.items_if_clones_equal (λ y e. e),
      c.deref.ensures.value,
    ) at c.in_ok-put_in.ensures in
    begun family.marks.items family.parents.items c.len-count.result c.in_ok-turns.turns.roots.items
    c.in_ok-rows.rows.items (plain_waiting c.put_in.new.self) (omega (arith, c.len-count.ensures, family.parents.ok.0))
    c.in_ok-turns.ensures.roots c.in_ok-rows.ensures.items put

pub index-requires : goal.index-requires
index-requires c =
    let family = c.args.family.now in
    let next = next_row family.marks.items family.parents.items c.loop-row.rows.items c.pop.new.self.items
    c.in-Some.row (plain_waiting c.loop-row.waiting) c.in-Some.ensures.items c.loop-row.invariant in
    omega (arith, next.there, c.in_ok-turns.ensures.children.alike, c.in_ok-turns.turns.children.ok.0)

pub overflow_add-row : goal.overflow_add-row
overflow_add-row c =
    let family = c.args.family.now in
    let next = next_row family.marks.items family.parents.items c.loop-row.rows.items c.pop.new.self.items
    c.in-Some.row (plain_waiting c.loop-row.waiting) c.in-Some.ensures.items c.loop-row.invariant in
    omega (arith, next.shallow, family.parents.ok.0, c.len-count.ensures, c.len-count.type_inv)

pub put_in-requires-in-Some : goal.put_in-requires-in-Some
put_in-requires-in-Some c =
    let family = c.args.family.now in
    let way = c.loop-row.invariant in
    let next = next_row family.marks.items family.parents.items c.loop-row.rows.items c.pop.new.self.items
    c.in-Some.row (plain_waiting c.loop-row.waiting) c.in-Some.ensures.items way in
    let of = children_read family.marks.items family.parents.items c.in_ok-turns.turns.children.items
    c.in-Some.row.span c.index.result.now c.in_ok-turns.ensures.children next.there c.index.ensures in
    rw c.deref-in-Some.ensures.value (λ k d l. omega (
      arith,
      children_there family.marks.items family.parents.items c.in-Some.row.span c.index.result.now.items of k d l,
      way.so_far.alike,
      c.loop-row.waiting.placed.ok.0,
    ))

pub loop-row-preserved : goal.loop-row-preserved
loop-row-preserved c =
    let family = c.args.family.now in
    let way = c.loop-row.invariant in
    let next = next_row family.marks.items family.parents.items c.loop-row.rows.items c.pop.new.self.items
    c.in-Some.row (plain_waiting c.loop-row.waiting) c.in-Some.ensures.items way in
    let of = children_read family.marks.items family.parents.items c.in_ok-turns.turns.children.items
    c.in-Some.row.span c.index.result.now c.in_ok-turns.ensures.children next.there c.index.ensures in
    let put = rw c.deref-in-Some.ensures.value at c.in_ok-put_in-2.ensures in
    one_done family.marks.items family.parents.items c.loop-row.rows.items c.push.new.self.items c.in-Some.row
    (plain_waiting c.loop-row.waiting)
    (record { rows = c.pop.new.self.items; placed = c.loop-row.waiting.placed.items })
    (plain_waiting c.put_in-in-Some.new.self) c.index.result.now.items c.in-Some.ensures.items refl
    c.in_ok-push.ensures.items put of way

pub returns : goal.returns
returns c =
    let family = c.args.family.now in
    all_done family.marks.items family.parents.items c.loop-row.rows.items (plain_waiting c.loop-row.waiting)
    family.of_marks (omega (arith, family.alike, family.parents.ok.0, family.marks.ok.0))
    (omega (arith, c.in_default.ensures.cases.0, c.loop-row.waiting.rows.ok.0)) c.loop-row.invariant
