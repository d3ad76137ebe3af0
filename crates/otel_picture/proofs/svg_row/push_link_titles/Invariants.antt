-- The links so far.
use Rattle.std.proofs.Common.{◌≡◌, ◌++◌, flat_map, string_bytes, take}
use Rattle.otel_picture.specs.SvgTexts.{link_title}
use Rattle.otel_picture.proofs.svg_row.push_link_titles.Given as goal

abbrev pub invariant-loop-link : goal.invariant-loop-link
invariant-loop-link l =
    string_bytes l.out ≡ string_bytes l.fn.out ++ flat_map link_title (take l.link-index l.links)
