use Rattle.std.proofs.Common.{◌++◌, map, ap, sym, ◌∙◌}
use Rattle.std.specs.List.{join_with_byte}
use Rattle.std.proofs.lemmas.List.{take_all}
use Rattle.std.proofs.lemmas.Simd.{map-map}
use Rattle.opentelemetry.specs.PlainValues.{plain_pair}
use Rattle.opentelemetry.specs.Tracestate.{member_text}
use Rattle.opentelemetry.proofs.Joins.{join_more, joined_text}
use Rattle.opentelemetry.proofs.trace.trace_state.pairs.header.Goals as goal

pub pairs-preserved : goal.pairs-preserved
pairs-preserved c =
    c.in_ok-push_member.ensures
    ∙ ap (λ t. t ++ joined_text 44 c.pairs.i (member_text (plain_pair c.index-pairs-i.result))) c.pairs.invariant
    ∙ join_more 44 (λ pair. member_text (plain_pair pair)) c.args.pairs.now c.pairs.i c.index-pairs-i.result c.pairs-test.true c.index-pairs-i.is

pub returns-clause-ok : goal.returns-clause-ok
returns-clause-ok c =
    c.pairs.invariant ∙ ap (λ l. join_with_byte 44 (map (λ pair. member_text (plain_pair pair)) l)) (take_all c.pairs.i c.args.pairs.now c.pairs-test.false)
    ∙ ap (λ l. join_with_byte 44 l) (sym (map-map member_text plain_pair c.args.pairs.now))
