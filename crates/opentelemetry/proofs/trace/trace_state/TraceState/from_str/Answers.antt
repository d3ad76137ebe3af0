use Rattle.std.proofs.Common.{◌≡◌, ◌∙◌, sym, None, Some, subst, map}
use Rattle.std.specs.List.{AllZip}
use Rattle.opentelemetry.specs.Tracestate.{ArePairs, SpellsPair, first_fault, members, pair_of}
use Rattle.opentelemetry.proofs.Tracestates.{spells_members, spells_only}
use Rattle.opentelemetry.proofs.WellFormed.{spelled_pairs}
use Rattle.opentelemetry.proofs.trace.trace_state.TraceState.from_str.Goals as goal

pub returns-in-Some-clause-only : goal.returns-in-Some-clause-only
returns-in-Some-clause-only c = λ pairs h.
    let none : first_fault (members c.args.text.now) ≡ None = (spells_only (members c.args.text.now) pairs h).0 in
    let some : Some c.in-Some.fault ≡ first_fault (members c.args.text.now) = c.in-Some.ensures in
    cc

pub shared-requires : goal.shared-requires
shared-requires c =
    let ms = members c.args.text.now in
    subst ArePairs (sym c.in_ok-pairs.ensures.ok) (spelled_pairs ms (map pair_of ms) (spells_members ms (sym c.in_default.ensures)))

pub returns-clause-value : goal.returns-clause-value
returns-clause-value c =
    subst (λ pairs. AllZip SpellsPair (members c.args.text.now) pairs) (sym (c.in_ok-shared.ensures.ok ∙ c.in_ok-pairs.ensures.ok)) (spells_members (members c.args.text.now) (sym c.in_default.ensures))

pub returns-clause-only : goal.returns-clause-only
returns-clause-only c = λ pairs h. c.in_ok-shared.ensures.ok ∙ c.in_ok-pairs.ensures.ok ∙ sym (spells_only (members c.args.text.now) pairs h).1
