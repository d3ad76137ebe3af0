-- Of an item its text, and then that it is left out.
use Rattle.std.proofs.Common.{◌++◌, ◌∙◌, ap, append_assoc, codes, string_bytes}
use Rattle.std.proofs.lemmas.Result.{IfOk-weaker}
use Rattle.otel_trace_run.specs.Views.{item_text}
use Rattle.otel_trace_run.proofs.view.push_place.Goals as goal

pub returns-in_ok-push_item-in-Some : goal.returns-in_ok-push_item-in-Some
returns-in_ok-push_item-in-Some c =
    let place = c.in-Some.place in
    let first = c.in_ok-push_item-in-Some.ensures {u = tt} in
    rw c.in-Some.is (IfOk-weaker c.write.result _ _
    (λ u h. h ∙ ap (λ bs. bs ++ codes " is left out: ") first
    ∙ append_assoc (string_bytes c.args.said.now) (item_text place.list place.number) (codes " is left out: "))
    c.write.ensures.bytes)
