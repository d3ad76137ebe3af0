-- One character more finds room, and all in the end.
use Rattle.std.proofs.Common.{◌∙◌, ℕ, List, [], ◌∷◌, flat_map, length-append, sym, ap, arith}
use Rattle.std.specs.Str.{chars}
use Rattle.std.proofs.lemmas.Iterator.{YieldsList-from_chars, YieldsList-from_take}
use Rattle.std.proofs.lemmas.Iterator.Consumers.{YieldsList-end, YieldsList-turn}
use Rattle.std.proofs.lemmas.List.{length-take, map-id}
use Rattle.otel_otlp_http.specs.Reasons.{max_chars, shown_char}
use Rattle.otel_otlp_http.proofs.ReasonLemmas.{one_shown}
use Rattle.otel_otlp_http.proofs.reason.shown.Goals as goal

pub push_shown_char-requires : goal.push_shown_char-requires
push_shown_char-requires c =
    let way = YieldsList-from_take max_chars (YieldsList-from_chars c.args.text.now c.utf8.text cc) cc in
    let turn = YieldsList-turn way c.loop-c.yielded _ c.loop-c.yielded_by _ _ c.in-Some.c c.in-Some.is
    c.next.ensures.steps in
    omega (arith, turn.0, length-take max_chars (chars c.args.text.now), c.loop-c.invariant.short)

pub loop-c-preserved : goal.loop-c-preserved
loop-c-preserved c = record {
  text = one_shown c.loop-c.out.bytes c.push_shown_char.new.out.bytes c.loop-c.yielded c.in-Some.c
      c.loop-c.invariant.text c.push_shown_char.ensures.text;
  short = omega (
    arith,
    c.push_shown_char.ensures.length,
    c.loop-c.invariant.short,
    length-append c.loop-c.yielded (c.in-Some.c ∷ []),
  );
}

pub returns : goal.returns
returns c =
    let way = YieldsList-from_take max_chars (YieldsList-from_chars c.args.text.now c.utf8.text cc) cc in
    let end = YieldsList-end way c.loop-c.yielded _ c.loop-c.yielded_by _ _ c.in-None.is c.next.ensures.steps in
    c.loop-c.invariant.text ∙ ap (λ (cs : List ℕ). flat_map shown_char cs) (sym (map-id c.loop-c.yielded) ∙ end.0)
