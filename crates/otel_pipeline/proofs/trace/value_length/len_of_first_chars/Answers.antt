use Rattle.std.proofs.Common.{◌≡◌, ℕ, List, length, take, sym, ap, ◌∙◌, subst, arith}
use Rattle.std.specs.Str.{IsCharBoundary, encode_utf8_all}
use Rattle.std.proofs.lemmas.Iterator.{YieldsList-from_chars, YieldsList-from_take}
use Rattle.std.proofs.lemmas.Iterator.Consumers.{YieldsList-so_far, YieldsList-turn, YieldsList-end}
use Rattle.std.proofs.lemmas.List.{map-id}
use Rattle.otel_pipeline.specs.ValueLength.{first_chars}
use Rattle.otel_pipeline.proofs.FirstChars.{cut_is, cut_there, length_more, one_fits}
use Rattle.otel_pipeline.proofs.trace.value_length.len_of_first_chars.Goals as goal

pub overflow_add-len : goal.overflow_add-len
overflow_add-len c =
    let before = YieldsList-so_far (YieldsList-from_take c.args.count (YieldsList-from_chars c.args.text.now c.utf8.text cc) cc) c.loop-c.yielded _ c.loop-c.yielded_by in
    let turn = YieldsList-turn (YieldsList-from_take c.args.count (YieldsList-from_chars c.args.text.now c.utf8.text cc) cc) c.loop-c.yielded _ c.loop-c.yielded_by _ _ c.in-Some.c c.in-Some.is c.next.ensures.steps in
    omega (arith, one_fits c.args.text.now c.loop-c.yielded c.args.count c.in-Some.c c.utf8.text (sym (map-id c.loop-c.yielded) ∙ before) turn, c.loop-c.invariant, c.len_utf8-len.ensures.len)

pub loop-c-preserved : goal.loop-c-preserved
loop-c-preserved c = omega (arith, length_more c.loop-c.yielded c.in-Some.c, c.loop-c.invariant, c.len_utf8-len.ensures.len)

pub returns : goal.returns
returns c =
    let end = YieldsList-end (YieldsList-from_take c.args.count (YieldsList-from_chars c.args.text.now c.utf8.text cc) cc) c.loop-c.yielded _ c.loop-c.yielded_by _ _ c.in-None.is c.next.ensures.steps in
    let len : c.loop-c.len ≡ length (first_chars c.args.count c.args.text.now) = c.loop-c.invariant ∙ ap (λ (cs : List ℕ). length (encode_utf8_all cs)) (sym (map-id c.loop-c.yielded) ∙ end.0) in
    record {
      front = ap (λ (n : ℕ). take n c.args.text.now) len ∙ cut_is c.args.text.now c.args.count c.utf8.text;
      boundary = subst (IsCharBoundary c.args.text.now) (sym len) (cut_there c.args.text.now c.args.count c.utf8.text);
    }
