-- One character more, and all in the end.
use Rattle.std.proofs.Common.{◌∙◌, ℕ, List, sym, ap}
use Rattle.std.proofs.lemmas.Iterator.{YieldsList-from_chars}
use Rattle.std.proofs.lemmas.Iterator.Consumers.{YieldsList-end}
use Rattle.std.proofs.lemmas.List.{map-id}
use Rattle.otel_picture.specs.Texts.{room_after, room_left}
use Rattle.otel_picture.proofs.Rooms.{left_more}
use Rattle.otel_picture.proofs.texts.room_left.Goals as goal

pub loop-c-preserved : goal.loop-c-preserved
loop-c-preserved c =
    c.after-left.ensures ∙ ap (λ room. room_after room c.in-Some.c) c.loop-c.invariant
    ∙ sym (left_more c.args.room c.loop-c.yielded c.in-Some.c)

pub returns : goal.returns
returns c =
    let t = YieldsList-end (YieldsList-from_chars c.args.text.now c.utf8.text cc) c.loop-c.yielded _ c.loop-c.yielded_by
    _ _ c.in-None.is c.next.ensures.steps in
    c.loop-c.invariant ∙ ap (λ (cs : List ℕ). room_left c.args.room cs) (sym (map-id c.loop-c.yielded) ∙ t.0)
