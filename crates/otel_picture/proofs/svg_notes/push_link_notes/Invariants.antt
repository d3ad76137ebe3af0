-- The links so far.
use Rattle.std.proofs.Common.{◌≡◌, ◌++◌, flat_map, string_bytes, take}
use Rattle.otel_picture.specs.SvgNotes.{link_note}
use Rattle.otel_picture.proofs.svg_notes.push_link_notes.Given as goal

abbrev pub invariant-loop-link : goal.invariant-loop-link
invariant-loop-link l =
    string_bytes l.out ≡ string_bytes l.fn.out ++ flat_map (link_note l.indent) (take l.link-index l.links)
