-- The members before this one were read; at the end all were.
use Rattle.std.proofs.Common.{◌∙◌, ◌∷◌, ◌++◌, All, ap, length, lit<, map, rules, subst, sym}
use Rattle.std.proofs.lemmas.Iterator.Consumers.{YieldsList-so_far, YieldsList-turn, YieldsList-end}
use Rattle.std.proofs.lemmas.Iterator.Splits.{YieldsList-from_str_split}
use Rattle.std.proofs.lemmas.List.{map_push}
use Rattle.std.proofs.lemmas.List.Elements.{All-push}
use Rattle.otel_trace_run.specs.GivenAttributes.{ReadsMember}
use Rattle.otel_trace_run.proofs.GivenLemmas.{at_place}
use Rattle.otel_trace_run.proofs.given_attributes.first_unread.Goals as goal

pub returns-then-not-reads_member : goal.returns-then-not-reads_member
returns-then-not-reads_member c =
    let pieces = YieldsList-from_str_split 44 c.args.text.now (lit< tt) (cc) (cc) (cc) in
    let so_far = YieldsList-so_far pieces c.members.yielded _ c.members.yielded_by in
    let turn = YieldsList-turn pieces c.members.yielded _ c.members.yielded_by _ _ c.in-Some.member c.in-Some.is c.next.ensures.steps in
    let cut = at_place _ (length c.members.yielded) c.in-Some.member.now turn.0 turn.1 in
    (map (λ x. x.now) c.members.yielded, cut.0, cut.1 ∙ ap (λ l. l ++ c.in-Some.member.now ∷ cut.0) (sym so_far), c.members.invariant, search rules)

pub members-preserved : goal.members-preserved
members-preserved c =
    let reads : ReadsMember c.in-Some.member.now = search rules in
    subst (All ReadsMember) (sym (map_push (λ x. x.now) c.members.yielded c.in-Some.member))
    (All-push ReadsMember _ c.in-Some.member.now c.members.invariant reads)

pub returns : goal.returns
returns c =
    let pieces = YieldsList-from_str_split 44 c.args.text.now (lit< tt) (cc) (cc) (cc) in
    subst (All ReadsMember) (YieldsList-end pieces c.members.yielded _ c.members.yielded_by _ _ c.in-None.is c.next.ensures.steps).0 c.members.invariant
