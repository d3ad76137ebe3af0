-- One span more; and the order of the keys is that of the spans.
use Rattle.std.proofs.Common.{◌≡◌, ℕ, List, arith, rules, subst, vec_len}
use Rattle.std.proofs.lemmas.Fn.{always_returns_same}
use Rattle.std.specs.declared.cmp.Reverse.{Reverse}
use Rattle.otel_picture.specs.Orders.{start_at}
use Rattle.otel_picture.specs.declared.rows.Mark.{Mark}
use Rattle.otel_picture.proofs.Sorting.{AreBelow, one_below, sorted_spans}
use Rattle.otel_picture.proofs.rows.Family.last_first.Goals as goal

abbrev key_of : List Mark → ℕ → Reverse ℕ × Reverse ℕ
key_of marks span = (record { 0 = start_at marks span }, record { 0 = span })

pub loop-span-preserved : goal.loop-span-preserved
loop-span-preserved c =
    one_below c.loop-span.span c.loop-span.spans.items c.push.new.self.items c.in_ok-push.ensures.items
    c.loop-span.invariant

pub returns : goal.returns
returns c =
    let self = c.args.self.now in
    let all : c.loop-span.span ≡ vec_len self.parents = omega arith in
    sorted_spans self.marks.items (vec_len self.parents) c.loop-span.spans.items c.sort_unstable_by_key.new.self.items
    (subst (λ n. AreBelow n c.loop-span.spans.items) all c.loop-span.invariant)
    c.sort_unstable_by_key.ensures.permutation
    (c.sort_unstable_by_key.ensures.sorted (key_of self.marks.items) (always_returns_same _ _ _ (λ a r g h. search rules)))
