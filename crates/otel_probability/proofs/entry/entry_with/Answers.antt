use Rattle.std.proofs.Common.{◌∙◌, ◌++◌, ◌∷◌, ap}
use Rattle.otel_probability.specs.Entry.{other_members, th}
use Rattle.otel_probability.specs.Joining.{with_members}
use Rattle.otel_probability.specs.Numbers.{threshold_text}
use Rattle.otel_probability.proofs.Members.{joined_after}
use Rattle.otel_probability.proofs.entry.entry_with.Goals as goal

pub returns : goal.returns
returns c =
    let threshold = c.args.threshold in
    c.in_ok-push_others.ensures
    ∙ ap (λ t. with_members t (other_members c.args.entry.now)) (c.in_ok-push_text.ensures ∙ ap (λ t. t ++ threshold_text threshold) c.in_ok-text.ensures.ok)
    ∙ joined_after (th ++ 58 ∷ threshold_text threshold) (other_members c.args.entry.now) (λ e. absurd cc)
