use Rattle.std.proofs.Common.{◌≡◌, ℕ, List, ◌+◌, ◌-◌, ◌^◌, min, length, map, take, ap, sym, ◌∙◌, arith, length-append}
use Rattle.std.specs.List.{join_with_byte}
use Rattle.std.proofs.lemmas.List.{take_all}
use Rattle.std.proofs.lemmas.Simd.{map-map}
use Rattle.opentelemetry.specs.PlainValues.{plain_pair}
use Rattle.opentelemetry.specs.Tracestate.{member_text}
use Rattle.opentelemetry.proofs.Joins.{join_more, joined_text}
use Rattle.opentelemetry.proofs.trace.trace_state.pairs.header_len.Goals as goal

pub pairs-preserved : goal.pairs-preserved
pairs-preserved c =
    let text : List ℕ = join_with_byte 44 (map (λ pair. member_text (plain_pair pair)) (take c.pairs.i c.args.pairs.now)) in
    let next : List ℕ = joined_text 44 c.pairs.i (member_text (plain_pair c.index-pairs-i.result)) in
    let whole : List ℕ = join_with_byte 44 (map (λ pair. member_text (plain_pair pair)) (take (c.pairs.i + 1) c.args.pairs.now)) in
    let longer : length whole ≡ length text + length next =
    sym (ap length (join_more 44 (λ pair. member_text (plain_pair pair)) c.args.pairs.now c.pairs.i c.index-pairs-i.result c.pairs-test.true c.index-pairs-i.is)) ∙ length-append text next in
    let before : c.pairs.len ≡ min (length text) (2 ^ 64 - 1) = c.pairs.invariant in
    let own : c.next_member_len.result ≡ min (length next) (2 ^ 64 - 1) = c.next_member_len.ensures in
    let after : c.saturating_add-len.result ≡ min (length whole) (2 ^ 64 - 1) = omega arith in
    after

pub returns : goal.returns
returns c =
    c.pairs.invariant
    ∙ ap (λ l. min (length (join_with_byte 44 (map (λ pair. member_text (plain_pair pair)) l))) (2 ^ 64 - 1)) (take_all c.pairs.i c.args.pairs.now c.pairs-test.false)
    ∙ ap (λ l. min (length (join_with_byte 44 l)) (2 ^ 64 - 1)) (sym (map-map member_text plain_pair c.args.pairs.now))
