use Rattle.std.proofs.Common.{◌∙◌, ap}
use Rattle.otel_probability.specs.Entry.{entry_members, other_members}
use Rattle.otel_probability.specs.Joining.{with_members}
use Rattle.otel_probability.proofs.Members.{joined_alone, others_some}
use Rattle.otel_probability.proofs.entry.entry_without.Goals as goal

pub returns : goal.returns
returns c =
    c.in_ok-push_others.ensures ∙ ap (λ t. with_members t (other_members c.args.entry.now)) c.new-text.ensures.bytes
    ∙ joined_alone (other_members c.args.entry.now) (others_some (entry_members c.args.entry.now))
