-- One character more: it is appended where it finds place. In the end all were seen.
use Rattle.std.proofs.Common.{◌∙◌, ◌++◌, ℕ, List, string_bytes, sym, ap}
use Rattle.std.proofs.lemmas.Iterator.{YieldsList-from_chars}
use Rattle.std.proofs.lemmas.Iterator.Consumers.{YieldsList-end}
use Rattle.std.proofs.lemmas.List.{map-id}
use Rattle.otel_picture.specs.Texts.{fitting_text, room_after, room_left}
use Rattle.otel_picture.proofs.Rooms.{fits_one_more, left_more}
use Rattle.otel_picture.proofs.texts.push_fitting.Goals as goal

pub loop-c-preserved : goal.loop-c-preserved
loop-c-preserved c = record {
  left = c.after-left.ensures ∙ ap (λ room. room_after room c.in-Some.c) c.loop-c.invariant.left
      ∙ sym (left_more c.args.room c.loop-c.yielded c.in-Some.c);
  text = fits_one_more c.args.room c.loop-c.left c.after-left.result (string_bytes c.args.out.now)
      (string_bytes c.loop-c.out) (string_bytes c.push_where.new.out) c.loop-c.yielded c.in-Some.c
      c.loop-c.invariant.left c.after-left.ensures c.loop-c.invariant.text c.in_ok-push_where.ensures;
}

pub returns : goal.returns
returns c =
    let t = YieldsList-end (YieldsList-from_chars c.args.text.now c.utf8.text cc) c.loop-c.yielded _ c.loop-c.yielded_by
    _ _ c.in-None.is c.next.ensures.steps in
    let all = sym (map-id c.loop-c.yielded) ∙ t.0 in
    record {
      text = c.loop-c.invariant.text
          ∙ ap (λ (cs : List ℕ). string_bytes c.args.out.now ++ fitting_text c.args.room cs) all;
      left = c.loop-c.invariant.left ∙ ap (λ (cs : List ℕ). room_left c.args.room cs) all;
    }
