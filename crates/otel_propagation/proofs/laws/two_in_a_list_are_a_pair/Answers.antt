use Rattle.std.proofs.Common.{Result, Ok, Err, refl, sym, subst, inl, inr}
use Rattle.std.specs.declared.alloc.AllocError.{AllocError}
use Rattle.opentelemetry.specs.Carrier.{Injection, Texts}
use Rattle.opentelemetry.specs.Plain.{PlainContext}
use Rattle.otel_propagation.specs.Composite.{InjectsBoth}
use Rattle.otel_propagation.specs.CompositeList.{InjectsNothing}
use Rattle.otel_propagation.proofs.laws.two_in_a_list_are_a_pair.Goals as goal

alone : (those : Injection) (cx : PlainContext) (old new : Texts) (result : Result (Unit {0}) AllocError)
    → InjectsBoth those InjectsNothing cx old result new → those cx old result new
alone those cx old new result (inl (between, said, (is, same))) =
    subst (λ (r : Result (Unit {0}) AllocError). those cx old r new) (sym is) (subst (λ (ts : Texts). those cx old (Ok tt) ts) (sym same) said)
alone those cx old new result (inr (err, said)) = said

before_none : (those : Injection) (cx : PlainContext) (old new : Texts) (result : Result (Unit {0}) AllocError)
    → those cx old result new → InjectsBoth those InjectsNothing cx old result new
before_none those cx old new (Ok u) said = inl (new, said, (refl, refl))
before_none those cx old new (Err e) said = inr (refl, said)

from_list : (these those : Injection) (cx : PlainContext) (old new : Texts) (result : Result (Unit {0}) AllocError)
    → InjectsBoth these (InjectsBoth those InjectsNothing) cx old result new → InjectsBoth these those cx old result new
from_list these those cx old new result (inl (between, first, rest)) = inl (between, first, alone those cx between new result rest)
from_list these those cx old new result (inr refused) = inr refused

from_pair : (these those : Injection) (cx : PlainContext) (old new : Texts) (result : Result (Unit {0}) AllocError)
    → InjectsBoth these those cx old result new → InjectsBoth these (InjectsBoth those InjectsNothing) cx old result new
from_pair these those cx old new result (inl (between, first, second)) = inl (between, first, before_none those cx between new result second)
from_pair these those cx old new result (inr refused) = inr refused

pub returns-clause-injects : goal.returns-clause-injects
returns-clause-injects g c a b cx old new result =
    let these = g.P.TextMapPropagator.inject_gives a in
    let those = g.P.TextMapPropagator.inject_gives b in
    (from_list these those cx old new result, from_pair these those cx old new result)

pub returns-clause-extracts : goal.returns-clause-extracts
returns-clause-extracts g c a b cx found texts =
    let those = g.P.TextMapPropagator.extract_gives b in (
      λ (between, first, (last, second, same)). (between, first, subst (those between texts) (sym same) second),
      λ (between, first, second). (between, first, (found, second, refl)),
    )

pub returns-clause-infallible : goal.returns-clause-infallible
returns-clause-infallible g c a b cx texts =
    (λ (first, second). (first, λ between gives. (second between gives).0), λ (first, second). (first, λ between gives. (second between gives, λ _ _. tt)))
