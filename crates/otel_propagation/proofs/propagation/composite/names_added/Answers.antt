use Rattle.std.proofs.Common.{take, sym, ap, ◌∙◌}
use Rattle.otel_propagation.specs.Composite.{joined_onto, names_of}
use Rattle.otel_propagation.proofs.CompositeLemmas.{others_stay_away}
use Rattle.otel_propagation.proofs.propagation.composite.names_added.Goals as goal

pub returns-in_default : goal.returns-in_default
returns-in_default c =
    let before = take c.loop-added.count (names_of c.args.list.now) in
    others_stay_away (names_of c.args.list.now) before c.next.new.self
    (joined_onto (take c.args.given (names_of c.args.list.now)) c.args.names) c.in-Some.added.now
    (ap (joined_onto before) (sym c.in-Some.ensures.steps) ∙ c.loop-added.invariant.1) c.in_default.ensures
