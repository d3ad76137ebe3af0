use Rattle.std.proofs.Common.{[], Some, None, sym, lit<, rules}
use Rattle.std.proofs.lemmas.Str.Pattern.{split_parts}
use Rattle.otel_resource.specs.Resource.{by_key}
use Rattle.otel_resource.proofs.AttributeLemmas.{union-empty}
use Rattle.otel_resource.proofs.AttributesStringLemmas.{has_no_from_places, member_read, last_read, member_refused, last_refused}
use Rattle.otel_resource.proofs.resource.env.put_members.Goals as goal

pub members-init : goal.members-init
members-init c = (
  search rules,
  record {
    found = [];
    put = sym (union-empty (by_key c.args.attributes));
    completes = λ others read. read;
  },
)

pub members-preserved : goal.members-preserved
members-preserved c =
    let (found, member, put) = c.in_ok-put_pair_of.ensures.ok in
    let parts = split_parts 44 c.members.rest.now (Some (c.in-Some.member, c.in-Some.more)) c.in-Some.ensures.cases (lit< tt) in (
      search rules,
      member_read c.args.text.now c.members.rest.now c.in-Some.member.now c.in-Some.more.now _ _ _ found c.members.invariant.1
          parts.0 (has_no_from_places 44 c.in-Some.member.now parts.1) member put,
    )

pub returns-in_err-put_pair_of-clause-free : goal.returns-in_err-put_pair_of-clause-free
returns-in_err-put_pair_of-clause-free c =
    let (pair, is) = c.in_err-put_pair_of.ensures.err in
    let parts = split_parts 44 c.members.rest.now (Some (c.in-Some.member, c.in-Some.more)) c.in-Some.ensures.cases (lit< tt) in
    λ none. absurd (member_refused c.args.text.now c.members.rest.now c.in-Some.member.now c.in-Some.more.now _ _ pair c.members.invariant.1
    parts.0 (has_no_from_places 44 c.in-Some.member.now parts.1) is none)

pub returns-clause-ok : goal.returns-clause-ok
returns-clause-ok c =
    let (found, member, put) = c.in_ok-put_pair_of-2.ensures.ok in
    let free = has_no_from_places 44 c.members.rest.now (split_parts 44 c.members.rest.now None c.in_default.ensures.cases (lit< tt)) in
    last_read c.args.text.now c.members.rest.now _ _ _ found c.members.invariant.1 free member put

pub returns-in_err-put_pair_of-2-clause-free : goal.returns-in_err-put_pair_of-2-clause-free
returns-in_err-put_pair_of-2-clause-free c =
    let (pair, is) = c.in_err-put_pair_of-2.ensures.err in
    let free = has_no_from_places 44 c.members.rest.now (split_parts 44 c.members.rest.now None c.in_default.ensures.cases (lit< tt)) in
    λ none. absurd (last_refused c.args.text.now c.members.rest.now _ _ pair c.members.invariant.1 free is none)
