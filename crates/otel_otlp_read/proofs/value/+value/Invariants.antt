-- The items so far, and those that are left, are all. Each call goes down, or is nearer to one that does.
use Rattle.std.proofs.Common.{◌≡◌, ◌+◌, ◌*◌, drop, map, string_bytes, true}
use Rattle.json.specs.Value.{value_view}
use Rattle.otel_otlp_read.specs.AnyValue.{after_comma, shown_item, shown_value}
use Rattle.otel_otlp_read.specs.Reading.{grown, joined}
use Rattle.otel_otlp_read.proofs.value.+value.Given as goal

abbrev pub invariant-push_others-loop-item : goal.invariant-push_others-loop-item
invariant-push_others-loop-item l =
    let read = after_comma (shown_item (shown_value l.depth true) l.are_pairs) in
    grown (string_bytes l.out) (joined read (map value_view (drop l.item-index l.items)))
    ≡ grown (string_bytes l.fn.out) (joined read (map value_view l.items))

abbrev pub decreases-push_value : goal.decreases-push_value
decreases-push_value l = l.depth * 7

abbrev pub decreases-push_pair : goal.decreases-push_pair
decreases-push_pair l = l.depth * 7 + 1

abbrev pub decreases-push_item : goal.decreases-push_item
decreases-push_item l = l.depth * 7 + 2

abbrev pub decreases-push_others : goal.decreases-push_others
decreases-push_others l = l.depth * 7 + 3

abbrev pub decreases-push_items : goal.decreases-push_items
decreases-push_items l = l.depth * 7 + 4

abbrev pub decreases-push_list : goal.decreases-push_list
decreases-push_list l = l.depth * 7 + 5

abbrev pub decreases-push_with : goal.decreases-push_with
decreases-push_with l = l.depth * 7 + 6
