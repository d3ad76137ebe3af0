-- One more that may be drawn.
use Rattle.std.proofs.Common.{rules, ◌<◌, All, length}
use Rattle.std.proofs.lemmas.Iterator.Adapters.{YieldsList-from_vec}
use Rattle.std.proofs.lemmas.Iterator.Consumers.{YieldsList-turn}
use Rattle.std.proofs.lemmas.List.Elements.{All-push}
use Rattle.std.proofs.Common.{subst, sym}
use Rattle.otel_picture.specs.Choices.{is_chosen}
use Rattle.otel_picture.specs.declared.rows.Mark.{Mark}
use Rattle.otel_picture.specs.declared.trace.Trace.{Trace}
use Rattle.otel_picture.proofs.Choosing.{chosen_more}
use Rattle.otel_picture.proofs.choice.Choice.taken.Goals as goal

pub loop-trace-preserved-in-Continue-1 : goal.loop-trace-preserved-in-Continue-1
loop-trace-preserved-in-Continue-1 c =
    let spans = c.args.spans.now in
    let pushed = c.in_ok-push.ensures.items in
    let all = YieldsList-from_vec {s = c.into_iter-trace-iterator.result} c.args.traces.items (search rules)
    (search rules) in
    let turn = YieldsList-turn all c.loop-trace.yielded c.loop-trace.trace-iterator
    c.loop-trace.yielded_by c.next.result c.next.new.self c.in-Some.trace c.in-Some.is c.next.ensures.steps in
    let here : All (λ (mark : Mark). mark.place < length spans) c.in-Some.trace.family.marks.items =
    subst (λ (trace : Trace). All (λ (mark : Mark). mark.place < length spans) trace.family.marks.items) (sym turn.1)
    (c.requires.there (length c.loop-trace.yielded) c.in-Some.trace turn.0) in
    record {
      is = chosen_more (is_chosen c.args.self.now spans) c.loop-trace.taken.items c.loop-trace.yielded
          c.push.new.self.items c.in-Some.trace pushed c.loop-trace.invariant.is (search rules);
      there = subst (All (λ (trace : Trace). All (λ (mark : Mark). mark.place < length spans)
          trace.family.marks.items)) (sym pushed)
          (All-push (λ (trace : Trace). All (λ (mark : Mark). mark.place < length spans) trace.family.marks.items)
          c.loop-trace.taken.items c.in-Some.trace c.loop-trace.invariant.there here);
    }
