-- The links so far.
use Rattle.std.proofs.Common.{◌≡◌, ◌++◌, flat_map, string_bytes, take}
use Rattle.otel_picture.specs.Details.{link_lines}
use Rattle.otel_picture.proofs.details.Under.push_links.Given as goal

abbrev pub invariant-loop-link : goal.invariant-loop-link
invariant-loop-link l =
    string_bytes l.text ≡ string_bytes l.fn.text ++ flat_map (link_lines l.self) (take l.link-index l.links)
