use Rattle.std.proofs.Common.{◌+◌, ◌≤◌, Option, length, sym, ap, ◌∙◌, subst}
use Rattle.std.specs.Prelude.{IfSome}
use Rattle.std.proofs.lemmas.Result.{on_ok_weaker}
use Rattle.std.specs.Option.{option_map_or}
use Rattle.opentelemetry.specs.Baggage.{PlainBaggage, PlainBaggageEntry, baggage_bytes, with_entry}
use Rattle.otel_propagation.specs.BaggagePieces.{IsNamedWithin}
use Rattle.otel_propagation.proofs.MemberBounds.{no_limit, put_within}
use Rattle.otel_propagation.proofs.propagation.members.put_member.Goals as goal

pub put-requires : goal.put-requires
put-requires g c =
    let short : IsNamedWithin (length c.args.member.now) c.in-Some.entry =
    subst (λ (r : Option PlainBaggageEntry). IfSome r (λ e. IsNamedWithin (length c.args.member.now) e)) c.in-Some.is c.in_ok-entry.ensures.within in
    no_limit c.args.baggage.now (length c.args.member.now) c.in-Some.entry short c.requires.few c.requires.small

pub returns-in-Some-clause-put : goal.returns-in-Some-clause-put
returns-in-Some-clause-put g c =
    let said = sym c.in-Some.is ∙ c.in_ok-entry.ensures.read in
    let old : PlainBaggage = c.args.baggage.now in
    on_ok_weaker c.put.result (λ is. is ∙ ap (λ s. option_map_or (λ e. with_entry old e) s old) said) c.put.ensures

pub returns-in-Some-clause-short : goal.returns-in-Some-clause-short
returns-in-Some-clause-short g c =
    let bound = length c.args.member.now in
    let old : PlainBaggage = c.args.baggage.now in
    let short : IsNamedWithin bound c.in-Some.entry =
    subst (λ (r : Option PlainBaggageEntry). IfSome r (λ e. IsNamedWithin bound e)) c.in-Some.is c.in_ok-entry.ensures.within in
    on_ok_weaker c.put.result (λ is. subst (λ (es : PlainBaggage). baggage_bytes es ≤ baggage_bytes old + bound) (sym is) (put_within old bound c.in-Some.entry short)) c.put.ensures

pub returns-in-None-clause-put : goal.returns-in-None-clause-put
returns-in-None-clause-put g c =
    let said = sym c.in-None.is ∙ c.in_ok-entry.ensures.read in
    let old : PlainBaggage = c.args.baggage.now in
    ap (λ s. option_map_or (λ e. with_entry old e) s old) said

pub returns-in-Some-clause-none : goal.returns-in-Some-clause-none
returns-in-Some-clause-none g c = λ none.
    let unread = sym c.in-Some.is ∙ c.in_ok-entry.ensures.none none in
    absurd cc

pub returns-in-Some-clause-free : goal.returns-in-Some-clause-free
returns-in-Some-clause-free g c = λ none.
    let unread = sym c.in-Some.is ∙ c.in_ok-entry.ensures.none none in
    absurd cc
