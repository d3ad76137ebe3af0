-- One walk more, and the root that it may have found.
use Rattle.std.proofs.Common.{◌<◌, arith, length}
use Rattle.otel_picture.proofs.Walking.{led_head, led_more, marked_more, over_head, top_more}
use Rattle.otel_picture.proofs.rows.Family.tops.Goals as goal
use Rattle.otel_picture.proofs.rows.Family.tops.Goals.{in-Some, in_default}

pub loop-span-preserved : goal.loop-span-preserved
loop-span-preserved c =
    let self = c.args.self.now in
    let so_far = c.loop-span.invariant in
    let tops = c.loop-span.tops.items in
    let span = c.loop-span.span in
    let walks = c.walk_up.new.walks.items in
    elim c.match-walk_up.branch [
      | in-Some w ↦ rw w.tops-is (
          let came = rw c.deref.ensures.value at w.in-Some.ensures.some in
          let head = w.circle_head-head.result in
          let up = w.circle_head-head.ensures.above in
          let there : head < length tops =
          omega (arith, w.circle_head-head.ensures.there, so_far.alike, c.loop-span.tops.ok.0) in
          record {
            alike = so_far.alike;
            walked = omega (arith, so_far.walked, c.walk_up.ensures.walked);
            top = top_more self.marks.items self.parents.items tops head w.circle_head-head.ensures.head so_far.top;
            parentless = λ other l e. marked_more tops head other (so_far.parentless other l e);
            below = λ other began e. omega (arith, c.walk_up.ensures.below other began e);
            over = over_head self.parents.items walks tops span w.in-Some.above head there up came;
            led = led_head self.parents.items walks tops span w.in-Some.above head there up came so_far.led;
          })
      | in_default w ↦ rw w.tops-is (
          let on = rw c.deref.ensures.value at w.in_default.ensures.none in
          record {
            alike = so_far.alike;
            walked = omega (arith, so_far.walked, c.walk_up.ensures.walked);
            top = so_far.top;
            parentless = so_far.parentless;
            below = λ other began e. omega (arith, c.walk_up.ensures.below other began e);
            over = on.0;
            led = led_more self.parents.items tops span on.1 so_far.led;
          })
    ]
