-- Items one after the other, with what stands around them.
use Rattle.std.proofs.Common.{◌≡◌, ◌++◌, ◌∷◌, [], ◌∙◌, ap, sym, true, string_bytes, map, arith, rules}
use Rattle.std.proofs.lemmas.Result.{err_from_is_err_and}
use Rattle.json.specs.Value.{value_view}
use Rattle.otel_otlp_read.specs.AnyValue.{after_comma, shown_item, shown_value}
use Rattle.otel_otlp_read.specs.Reading.{grown, joined}
use Rattle.otel_otlp_read.proofs.Depths.{depth_none, depth_some}
use Rattle.otel_otlp_read.proofs.Listing.{first_fails, then_others}
use Rattle.otel_otlp_read.proofs.Turns.{ends, fails_by, goes_on, grown_prefix, stops}
use Rattle.otel_otlp_read.proofs.value.+value.Goals as goal

pub push_items-returns-in_err-push_item-in-len1-up : goal.push_items-returns-in_err-push_item-in-len1-up
push_items-returns-in_err-push_item-in-len1-up t c =
    let p = err_from_is_err_and c.from_residual.result c.from_residual.ensures.1 in
    let read = shown_item (shown_value c.args.depth true) c.args.are_pairs in
    rw (p.1, p.2) (first_fails value_view read _ (string_bytes c.args.out.now) c.args.items.now c.first-item.result
    (omega arith) c.first-item.is (c.in_err-push_item-in-len1-up.ensures {u = tt}))

pub push_items-returns-in_ok-push_item-in-len1-up : goal.push_items-returns-in_ok-push_item-in-len1-up
push_items-returns-in_ok-push_item-in-len1-up t c =
    let read = shown_item (shown_value c.args.depth true) c.args.are_pairs in
    then_others value_view read _ c.push_others.result (string_bytes c.args.out.now) (string_bytes c.push_item.new.out)
    c.args.items.now c.first-item.result (omega arith) c.first-item.is (c.in_ok-push_item-in-len1-up.ensures {u = tt})
    c.push_others.ensures

pub push_others-loop-item-preserved : goal.push_others-loop-item-preserved
push_others-loop-item-preserved t c =
    let read = shown_item (shown_value c.args.depth true) c.args.are_pairs in
    let front = string_bytes c.loop-item.out in
    let item = c.item-item.result in
    let comma : string_bytes c.push_str.new.self ≡ front ++ 44 ∷ [] = search rules in
    let total = grown (string_bytes c.args.out.now) (joined (after_comma read) (map value_view c.args.items.now)) in
    goes_on value_view (after_comma read) c.args.items.now c.loop-item.item-index item front
    (string_bytes c.push_item.new.out) total (omega arith) c.item-item.is c.loop-item.invariant
    (grown_prefix front (44 ∷ []) (read (value_view item)) ∙ ap (λ f. grown f (read (value_view item))) (sym comma)
    ∙ c.in_ok-push_item.ensures {u = tt})

pub push_others-returns-in_err-push_item : goal.push_others-returns-in_err-push_item
push_others-returns-in_err-push_item t c =
    let p = err_from_is_err_and c.from_residual-in_err-push_item.result c.from_residual-in_err-push_item.ensures.1 in
    let read = shown_item (shown_value c.args.depth true) c.args.are_pairs in
    let front = string_bytes c.loop-item.out in
    let item = c.item-item.result in
    let comma : string_bytes c.push_str.new.self ≡ front ++ 44 ∷ [] = search rules in
    let total = grown (string_bytes c.args.out.now) (joined (after_comma read) (map value_view c.args.items.now)) in
    rw (p.1, p.2) (stops value_view (after_comma read) _ c.args.items.now c.loop-item.item-index item front total
    (omega arith) c.item-item.is c.loop-item.invariant
    (fails_by _ (grown (string_bytes c.push_str.new.self) (read (value_view item))) _
    (grown_prefix front (44 ∷ []) (read (value_view item)) ∙ ap (λ f. grown f (read (value_view item))) (sym comma))
    (c.in_err-push_item.ensures {u = tt})))

pub push_others-returns : goal.push_others-returns
push_others-returns t c =
    let read = shown_item (shown_value c.args.depth true) c.args.are_pairs in
    let total = grown (string_bytes c.args.out.now) (joined (after_comma read) (map value_view c.args.items.now)) in
    ends value_view (after_comma read) c.args.items.now c.loop-item.item-index (string_bytes c.loop-item.out) total
    (omega arith) c.loop-item.invariant

pub push_value-returns-then-depth-eq0 : goal.push_value-returns-then-depth-eq0
push_value-returns-then-depth-eq0 t c =
    ap (grown (string_bytes c.args.out.now))
    (depth_none c.args.depth c.args.is_quoted (value_view c.args.value.now) (omega arith))

pub push_value-returns : goal.push_value-returns
push_value-returns t c =
    rw (depth_some c.args.depth c.args.is_quoted (value_view c.args.value.now) (omega arith)) c.push_with.ensures
