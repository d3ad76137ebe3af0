use Rattle.std.proofs.Common.{rules, ◌≡◌, ◌∙◌, ◌-◌, ◌++◌, ◌≤◌, take, length, ap, arith}
use Rattle.std.proofs.lemmas.List.{length-take}
use Rattle.otel_export.specs.PlainSpanData.{cut_at}
use Rattle.otel_pipeline.proofs.Cutting.{cut_joined}
use Rattle.otel_pipeline.proofs.trace.limits.joined_within.Goals as goal

pub returns-clause-cut : goal.returns-clause-cut
returns-clause-cut g c =
    let size : c.len.result ≡ length (cut_at c.args.limit c.args.front.items) = search rules in
    let few : length (take c.args.limit c.args.front.items) ≤ c.args.limit = omega (arith, length-take c.args.limit c.args.front.items) in
    let room : c.saturating_sub-room.result ≡ c.args.limit - length (cut_at c.args.limit c.args.front.items) = omega (arith, size, few, c.ranges.limit.fits, c.saturating_sub-room.ensures) in
    c.in_ok-append.ensures.items
    ∙ ap (λ xs. xs ++ c.cut-left_out_after.new.items.items) c.cut-left_out-2.ensures.cut
    ∙ ap (λ ys. cut_at c.args.limit c.args.front.items ++ ys) (c.cut-left_out_after.ensures.cut ∙ ap (λ n. cut_at n c.args.back.items) room)
    ∙ cut_joined c.args.limit c.args.front.items c.args.back.items
