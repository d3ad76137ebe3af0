-- The columns of the events so far.
use Rattle.std.proofs.Common.{take}
use Rattle.otel_picture.specs.RowTexts.{AreEventColumns}
use Rattle.otel_picture.specs.Sheets.{plain_sheet}
use Rattle.otel_picture.proofs.sheet.Sheet.event_columns.Given as goal

abbrev pub invariant-loop-event : goal.invariant-loop-event
invariant-loop-event l = AreEventColumns (plain_sheet l.self) (take l.event-index l.events) l.happened.items
