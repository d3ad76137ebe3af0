use Rattle.std.proofs.Common.{◌≡◌, ◌∷◌, [], List, ℕ, map, sym, ap, ◌∙◌}
use Rattle.std.proofs.lemmas.List.{map-append, map-id}
use Rattle.std.proofs.lemmas.Map.Iter.{iter_end}
use Rattle.opentelemetry.specs.Plain.{PlainValue}
use Rattle.opentelemetry.specs.PlainValues.{plain_value}
use Rattle.opentelemetry.specs.declared.common.Value.{Value}
use Rattle.otel_resource.specs.Resource.{Attributes, by_key, union}
use Rattle.otel_resource.proofs.AttributeLemmas.{nothing_in, union-empty, union-empty_left, by_key-empty, put_entry, last_wins, last_wins-entries, entries-by_key}
use Rattle.otel_resource.proofs.resource.attributes.put_all.Goals as goal

pub returns-then-is_empty : goal.returns-then-is_empty
returns-then-is_empty c =
    sym (union-empty_left (by_key c.args.right))
    ∙ ap (λ (m : Attributes). union m (by_key c.args.right)) (sym (by_key-empty c.args.left (nothing_in c.args.left.entries (c.is_empty.ensures.0 c.if-is_empty.true))))

pub loop-key-init : goal.loop-key-init
loop-key-init c = sym (union-empty (by_key c.args.left))

pub loop-key-preserved : goal.loop-key-preserved
loop-key-preserved c =
    let plain : List ℕ × Value → List ℕ × PlainValue = λ e. (e.0, plain_value e.1) in
    put_entry (by_key c.args.left) (by_key c.loop-key.left) (by_key c.put.new.attributes) (map plain c.loop-key.yielded) (c.in-Some.key, plain_value c.in-Some.value)
    c.in_ok-put.ensures.ok c.loop-key.invariant
    ∙ ap (λ es. union (by_key c.args.left) (last_wins es)) (sym (map-append plain c.loop-key.yielded ((c.in-Some.key, c.in-Some.value) ∷ [])))

pub returns : goal.returns
returns c =
    let plain : List ℕ × Value → List ℕ × PlainValue = λ e. (e.0, plain_value e.1) in
    let gives = c.into_iter-key-iterator.ensures.into_iter_gives in
    let whole : c.loop-key.yielded ≡ c.args.right.entries =
    sym (map-id c.loop-key.yielded) ∙ (iter_end (λ e. e) _ _ _ _ _ _ gives.0 c.loop-key.yielded_by c.in-None.is c.next.ensures.steps).0 in
    c.loop-key.invariant
    ∙ ap (λ es. union (by_key c.args.left) (last_wins (map plain es))) whole
    ∙ ap (λ es. union (by_key c.args.left) (last_wins es)) (sym (entries-by_key c.args.right gives.5))
    ∙ ap (union (by_key c.args.left)) (last_wins-entries (by_key c.args.right))
