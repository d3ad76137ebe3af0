-- One character more, and all in the end.
use Rattle.std.proofs.Common.{◌++◌, ◌∙◌, ℕ, List, string_bytes, sym, ap}
use Rattle.std.proofs.lemmas.Iterator.{YieldsList-from_chars}
use Rattle.std.proofs.lemmas.Iterator.Consumers.{YieldsList-end}
use Rattle.std.proofs.lemmas.List.{map-id}
use Rattle.otel_picture.specs.Texts.{escaped_char, escaped_text}
use Rattle.otel_picture.proofs.Growing.{one_more}
use Rattle.otel_picture.proofs.texts.push_escaped.Goals as goal

pub loop-c-preserved : goal.loop-c-preserved
loop-c-preserved c =
    one_more escaped_char (string_bytes c.args.out.now) (string_bytes c.loop-c.out) (string_bytes c.push_escaped_char.new.out)
    c.loop-c.yielded c.in-Some.c c.loop-c.invariant c.in_ok-push_escaped_char.ensures

pub returns : goal.returns
returns c =
    let t = YieldsList-end (YieldsList-from_chars c.args.text.now c.utf8.text cc) c.loop-c.yielded _ c.loop-c.yielded_by
    _ _ c.in-None.is c.next.ensures.steps in
    c.loop-c.invariant
    ∙ ap (λ (cs : List ℕ). string_bytes c.args.out.now ++ escaped_text cs) (sym (map-id c.loop-c.yielded) ∙ t.0)
