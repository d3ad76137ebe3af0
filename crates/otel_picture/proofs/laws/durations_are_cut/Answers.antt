-- The definitions alone.
use Rattle.otel_picture.proofs.Cutting.{shown_close, shown_follows}
use Rattle.otel_picture.proofs.laws.durations_are_cut.Goals as goal

pub returns : goal.returns
returns c = record { close = shown_close; follow = shown_follows }
