use Rattle.std.proofs.Common.{◌∷◌, [], inl, inr, Some, None, Ok, Err, OnErr, refl, sym, ◌∙◌, lit<}
use Rattle.std.proofs.lemmas.Result.{on_ok_weaker}
use Rattle.std.proofs.lemmas.Str.Pattern.{split_parts}
use Rattle.std.specs.FinMap as fin
use Rattle.opentelemetry.specs.Plain.{PlainKeyValue, text}
use Rattle.otel_resource.specs.Resource.{by_key}
use Rattle.otel_resource.specs.AttributesString.{IsMember, trimmed_pair}
use Rattle.otel_resource.proofs.AttributeLemmas.{union-empty, put_pair}
use Rattle.otel_resource.proofs.AttributesStringLemmas.{has_no_from_places}
use Rattle.otel_resource.proofs.resource.env.put_pair_of.Goals as goal

-- the pair of a member with an equals sign
one_pair : (c : goal.After-put_text) → IsMember c.args.member.now (trimmed_pair c.in-Some.key.now c.in-Some.value.now ∷ [])
one_pair c =
    let parts = split_parts 61 c.args.member.now (Some (c.in-Some.key, c.in-Some.value)) c.in-Some.ensures.cases (lit< tt) in
    inr (c.in-Some.key.now, c.in-Some.value.now, parts.0, has_no_from_places 61 c.in-Some.key.now parts.1, refl)

pub returns-in-Some-clause-ok : goal.returns-in-Some-clause-ok
returns-in-Some-clause-ok c =
    let base = by_key c.args.attributes.now in
    let pair : PlainKeyValue = trimmed_pair c.in-Some.key.now c.in-Some.value.now in
    on_ok_weaker c.put_text.result (λ put. (
      pair ∷ [],
      one_pair c,
      put_pair base base (by_key c.put_text.new.attributes) [] pair
          (put ∙ (λ i. fin.insert base (c.trim.ensures.trim i) (text (c.trim-in-Some.ensures.trim i)))) (sym (union-empty base)),
    )) c.put_text.ensures

pub returns-in-Some-clause-err : goal.returns-in-Some-clause-err
returns-in-Some-clause-err c =
    elim c.put_text.result as (λ r. OnErr r ((pair : PlainKeyValue) × IsMember c.args.member.now (pair ∷ []))) [
      | Ok _ ↦ tt
      | Err _ ↦ (trimmed_pair c.in-Some.key.now c.in-Some.value.now, one_pair c)
    ]

pub returns-in-None-clause-ok : goal.returns-in-None-clause-ok
returns-in-None-clause-ok c = (
  [],
  inl (has_no_from_places 61 c.args.member.now (split_parts 61 c.args.member.now None c.in-None.ensures.cases (lit< tt)), refl),
  sym (union-empty (by_key c.args.attributes.now)),
)
