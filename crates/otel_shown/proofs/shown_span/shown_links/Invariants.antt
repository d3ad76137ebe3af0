-- The links so far are in the list.
use Rattle.std.proofs.Common.{◌≡◌, map}
use Rattle.otel_shown.specs.Shown.{shown_link}
use Rattle.otel_shown.proofs.shown_span.shown_links.Given as goal

abbrev pub invariant-loop-link : goal.invariant-loop-link
invariant-loop-link l = l.links.items ≡ map shown_link l.yielded
