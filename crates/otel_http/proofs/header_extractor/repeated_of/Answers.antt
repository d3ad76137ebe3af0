use Rattle.std.proofs.Common.{◌∷◌, [], map, ap, ◌∙◌, Bor, refl, ◌++◌, List, ℕ}
use Rattle.std.proofs.lemmas.List.{map-append}
use Rattle.otel_http.proofs.FieldsLemmas.{more_left, nothing_left}
use Rattle.otel_http.proofs.HeadersLemmas.{repeated_end, repeated_pushed}
use Rattle.otel_http.proofs.header_extractor.repeated_of.Goals as goal

pub loop-name-preserved-in-Continue-branch-2 : goal.loop-name-preserved-in-Continue-branch-2
loop-name-preserved-in-Continue-branch-2 c =
    let names = map (λ (name : Bor (List ℕ)). name.now) c.loop-name.yielded in
    let push = map-append (λ (name : Bor (List ℕ)). name.now) c.loop-name.yielded (c.in-Some.name ∷ []) in (
      repeated_pushed c.args.headers.now names _ c.loop-name.repeated.items _ (record { name = c.in-Some.name; text = c.in_ok-text.text })
          c.loop-name.invariant.0 push c.in_ok-push.ensures.items (c.if-is_repeated.ensures.0 refl) c.in_ok-text.ensures,
      ap (λ xs. xs ++ c.next.new.self) push ∙ more_left names c.in-Some.name.now c.next.new.self _ _ c.in-Some.ensures.steps c.loop-name.invariant.1,
    )

pub returns : goal.returns
returns c =
    let names = map (λ (name : Bor (List ℕ)). name.now) c.loop-name.yielded in
    repeated_end c.args.headers.now names c.loop-name.repeated.items c.loop-name.invariant.0
    (nothing_left names _ _ c.in-None.ensures.steps.0 c.loop-name.invariant.1)
