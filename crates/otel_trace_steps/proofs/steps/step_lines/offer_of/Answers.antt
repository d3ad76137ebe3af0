-- A name has no space, and memory is wanted after all tests.
use Rattle.std.proofs.Common.{◌≢◌, ◌<◌, length, lit<, refl, rules, sym}
use Rattle.std.proofs.lemmas.List.Elements.{All-from_get_or}
use Rattle.std.proofs.lemmas.Str.Pattern.{contains_char}
use Rattle.otel_trace_lines.specs.Lines.{IsField}
use Rattle.otel_trace_steps.specs.StepLines.{OffersWith, named_span}
use Rattle.otel_trace_steps.proofs.steps.step_lines.offer_of.Goals as goal
use Rattle.otel_trace_steps.proofs.steps.step_lines.offer_of.Goals.{in-offer, in-text}

pub returns-clause-found : goal.returns-clause-found
returns-clause-found c =
    let looked = contains_char 32 c.args.name.now c.contains.result c.contains.ensures.cases (lit< tt) in
    let none = c.if-contains.false in
    let some : 0 < length c.args.name.now = search rules in
    let flags : OffersWith c.args.word.now c.match-word.flags = elim c.match-word.branch [
      | in-offer w ↦ search rules
      | in-text w ↦ search rules
    ] in
    (c.in-Some.producer, sym c.in-Some.ensures, (some, All-from_get_or (λ b. b ≢ 32) c.args.name.now 0 (λ k within e. let found = looked.1 k within e in cc)), (refl, (c.match-word.flags, flags, c.in_ok-span.ensures)))

pub returns-in_err-span-clause-free : goal.returns-in_err-span-clause-free
returns-in_err-span-clause-free c =
    let looked = contains_char 32 c.args.name.now c.contains.result c.contains.ensures.cases (lit< tt) in
    let none = c.if-contains.false in
    let some : 0 < length c.args.name.now = search rules in
    let is_field : IsField c.args.name.now = (some, All-from_get_or (λ b. b ≢ 32) c.args.name.now 0 (λ k within e. let found = looked.1 k within e in cc)) in
    let flags : OffersWith c.args.word.now c.match-word.flags = elim c.match-word.branch [
      | in-offer w ↦ search rules
      | in-text w ↦ search rules
    ] in
    λ no_offer. absurd (no_offer (c.in-Some.producer, (named_span c.args.name.now c.match-word.flags, (c.in-Some.producer, sym c.in-Some.ensures, is_field, (refl, (c.match-word.flags, flags, refl))))))
