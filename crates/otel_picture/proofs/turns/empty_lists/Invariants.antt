-- The lists so far.
use Rattle.std.proofs.Common.{◌≡◌, [], All, vec_len}
use Rattle.otel_picture.proofs.turns.empty_lists.Given as goal

abbrev pub invariant-loop-list : goal.invariant-loop-list
invariant-loop-list l = record {
  count : vec_len l.lists ≡ l._list;
  empty : All (λ list. list.items ≡ []) l.lists.items;
}
