-- The events so far.
use Rattle.std.proofs.Common.{◌≡◌, ◌++◌, flat_map, string_bytes, take}
use Rattle.otel_picture.specs.Sheets.{plain_sheet}
use Rattle.otel_picture.specs.SvgTexts.{event_svg}
use Rattle.otel_picture.proofs.sheet.Sheet.push_events.Given as goal

abbrev pub invariant-loop-event : goal.invariant-loop-event
invariant-loop-event l = string_bytes l.out
    ≡ string_bytes l.fn.out ++ flat_map (event_svg (plain_sheet l.self) l.line) (take l.event-index l.span.events)
