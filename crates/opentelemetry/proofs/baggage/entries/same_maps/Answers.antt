use Rattle.std.proofs.Common.{◌∙◌, sym}
use Rattle.opentelemetry.specs.Baggage.{plain_entry}
use Rattle.opentelemetry.specs.Same.{pointwise_map}
use Rattle.opentelemetry.specs.SameParts.{same_entry}
use Rattle.opentelemetry.proofs.baggage.entries.same_maps.Goals as goal

pub returns : goal.returns
returns c = (rw (c.as_slice.ensures.entries, c.as_slice-2.ensures.entries) at c.eq.ensures) ∙ sym (pointwise_map (λ e. plain_entry e) same_entry c.args.these.now.entries c.args.those.now.entries)
