-- Its time, where there is room.
use Rattle.std.proofs.Common.{append-nil, string_bytes, sym}
use Rattle.otel_picture.proofs.sheet.Sheet.push_self_time.Goals as goal

pub returns-then-not-self : goal.returns-then-not-self
returns-then-not-self c = rw c.if-not-self.true (sym (append-nil (string_bytes c.args.text.now)))

pub returns : goal.returns
returns c = rw c.if-not-self.false c.push_number.ensures
