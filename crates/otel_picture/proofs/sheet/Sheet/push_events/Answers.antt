-- One event more.
use Rattle.std.proofs.Common.{◌≡◌, ◌<◌, ◌∙◌, ap, get_or, length, string_bytes, subst}
use Rattle.otel_shown.specs.Shown.{PlainShownSpan}
use Rattle.otel_picture.specs.Sheets.{plain_sheet}
use Rattle.otel_picture.specs.SvgTexts.{event_svg}
use Rattle.otel_picture.proofs.Joined.{one_item}
use Rattle.otel_picture.proofs.sheet.Sheet.push_events.Goals as goal

pub loop-event-preserved : goal.loop-event-preserved
loop-event-preserved c =
    let item = c.event-item.result in
    let index = c.loop-event.event-index in
    let same = c.deref-event-items.ensures.value ∙ ap (λ (s : PlainShownSpan). s.events) c.span.view_is in
    one_item (event_svg (plain_sheet c.args.self.now) c.args.line) (string_bytes c.args.out.now)
    (string_bytes c.loop-event.out) (string_bytes c.push_event.new.out) c.args.span.now.events index item
    (subst (λ xs. index < length xs) same c.loop-event-test.true)
    (subst (λ xs. item ≡ get_or xs index item) same c.event-item.is) c.loop-event.invariant c.in_ok-push_event.ensures
