-- What stood after the lines stands in front.
use Rattle.std.proofs.Common.{◌≡◌, ◌≢◌, ◌≤◌, List, [], ℕ, length, sym, subst, arith, rules, ap, ◌∙◌}
use Rattle.std.specs.List.{All}
use Rattle.otel_trace_session.specs.Pieces.{PlainPieces}
use Rattle.otel_trace_session.proofs.ReadPieces.{moved}
use Rattle.otel_trace_session.proofs.pieces.Pieces.forget_lines.Goals as goal

pub invariant_of-self : goal.invariant_of-self
invariant_of-self c =
    let front = moved c.self.inside.buffer.items c.copy_within.new.self.items c.self.inside.complete c.self.inside.filled c.self.invariant.0 c.self.invariant.1 c.copy_within.ensures.items in
    let long : length c.copy_within.new.self.items ≡ length c.self.inside.buffer.items = search rules in
    let room : c.self.inside.filled ≤ length c.self.inside.buffer.items = c.self.invariant.1 in
    (omega arith, omega arith, subst (λ (bs : List ℕ). All (λ b. b ≢ 10) bs) (sym front) c.self.invariant.2)

pub returns : goal.returns
returns c =
    let front = moved c.self.inside.buffer.items c.copy_within.new.self.items c.self.inside.complete c.self.inside.filled c.self.invariant.0 c.self.invariant.1 c.copy_within.ensures.items in
    let rest = ap (λ (p : PlainPieces). p.rest) c.self.view_is in
    ap (λ (bs : List ℕ). record { lines = []; rest = bs }) (front ∙ rest)
