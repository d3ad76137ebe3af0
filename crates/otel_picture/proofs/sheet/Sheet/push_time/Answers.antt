-- One member after another.
use Rattle.std.proofs.Common.{◌++◌, ◌-◌, ◌∙◌, ap, append_assoc, codes, decimal}
use Rattle.std.proofs.lemmas.Result.{on_ok_weaker}
use Rattle.otel_picture.specs.Summaries.{number_member, text_member}
use Rattle.otel_picture.proofs.sheet.Sheet.push_time.Goals as goal

pub returns-clause-written : goal.returns-clause-written
returns-clause-written c =
    let scale = c.args.self.now.scale in
    let first = text_member (codes "startTimeUnixNano") (decimal scale.first) in
    let second = number_member (codes "durationNano") (scale.last - scale.first) in
    on_ok_weaker c.push_number.result
    (λ e. e ∙ ap (λ ts. ts ++ second) c.in_ok-push_moment.ensures.written
    ∙ append_assoc c.args.out.now.tokens first second)
    c.push_number.ensures.written
