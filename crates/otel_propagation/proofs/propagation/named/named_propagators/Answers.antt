use Rattle.std.proofs.Common.{List, ℕ, map, ap, ◌∙◌, lit<}
use Rattle.std.specs.Str.{trim}
use Rattle.std.proofs.lemmas.Iterator.Consumers.{YieldsList-at, YieldsList-end}
use Rattle.std.proofs.lemmas.Iterator.Splits.{YieldsList-from_str_split}
use Rattle.otel_propagation.specs.NamedPropagators.{is_name, name_of, names_in, names_where}
use Rattle.otel_propagation.proofs.NamedLemmas.{member_more}
use Rattle.otel_propagation.proofs.propagation.named.named_propagators.Goals as goal

pub members-preserved : goal.members-preserved
members-preserved c = record {
  names = member_more is_name c.members.yielded c.in-Some.member c.trim.result.now (map name_of c.members.named.items) (map name_of c.put_name.new.named.items)
      c.trim.ensures.trim c.members.invariant.names c.in_ok-put_name.ensures.names;
  kinds = c.in_ok-put_name.ensures.kinds c.members.invariant.kinds;
}

pub returns-clause-names : goal.returns-clause-names
unfolding names_in
returns-clause-names c =
    let pieces = YieldsList-at c.into_iter-member-iterator.ensures.into_iter_gives
    (YieldsList-from_str_split 44 c.text_or_default.result.now (lit< tt) c.split-member-items.ensures.text c.split-member-items.ensures.has_more c.split-member-items.ensures.pattern) in
    c.members.invariant.names
    ∙ ap (λ (ms : List (List ℕ)). names_where is_name (map trim ms)) (YieldsList-end pieces c.members.yielded _ c.members.yielded_by _ _ c.in-None.is c.next.ensures.steps).0
    ∙ ap names_in c.text_or_default.ensures
