use Rattle.std.proofs.Common.{◌≡◌, ◌∙◌, ◌+◌, ◌||◌, refl, sym, true, false, arith}
use Rattle.otel_batch.specs.Drains.{has_full_batch}
use Rattle.otel_processors.specs.QueueRequests.{queue_telling}
use Rattle.otel_processors.proofs.TakenSpanLemmas.{takes_none}
use Rattle.otel_processors.proofs.Worker.{neither}
use Rattle.otel_processors.proofs.Eager.{eager_told, has_room, largest_left, offer_ends, offer_sizes, or_false, room_drops_none, same_largest, sizes_left}
use Rattle.otel_processors.proofs.Failing.{counted_both}
use Rattle.otel_processors.proofs.trace.batch_worker.offer_eagerly.Goals as goal

pub returns-then-is_full-clause-ends : goal.returns-then-is_full-clause-ends
returns-then-is_full-clause-ends g c =
    let m = c.export_full_batch-failed.new.machine in
    let exports = c.export_full_batch-failed.ensures.exports in
    let export = exports.1 in
    let leaves = c.export_full_batch-failed.ensures.leaves in
    let full : has_full_batch m ≡ true = sym c.has_full_batch-is_full.ensures ∙ c.if-is_full.true in (
      exports.0,
      record {
        refused = export.refused;
        offers = record {
          refused_before = export.refused;
          failed_before = exports.0;
          roomy = m;
          makes_room = export.exports;
          queued = c.offer_span.new.machine;
          offers = c.offer_span.ensures.offers;
          refused_after = false;
          failed_after = 0;
          exports = rw full (refl, refl, refl);
          refusal = sym (or_false export.refused);
          failures = omega arith;
        };
        largest = same_largest m.control c.offer_span.new.machine.control
            (offer_sizes g.E.SpanExporter m c.args.span c.offer_span.new.machine c.offer_span.ensures.offers)
            ∙ same_largest c.args.machine.now.control m.control
            (sizes_left g.E.SpanExporter c.args.machine.now m leaves);
        loses_none = λ some found. absurd (let no = export.below some found in cc);
        below = λ some found. absurd (let no = export.below some found in cc);
      },
      exports.2,
    )

pub returns-then-is_full-clause-told : goal.returns-then-is_full-clause-told
returns-then-is_full-clause-told g c =
    let q = c.offer_span.new.machine in
    eager_told g.E.SpanExporter c.args.machine.now c.export_full_batch-failed.new.machine q q c.args.span
    c.requires.sampled c.requires.runs c.is_sound.ensures c.export_full_batch-failed.ensures.leaves (offer_ends g.E.SpanExporter c.export_full_batch-failed.new.machine c.args.span c.offer_span.new.machine
    c.export_full_batch-failed.ensures.leaves.rest c.offer_span.ensures.offers)
    (takes_none (queue_telling g.E.SpanExporter q)) refl (λ _. refl)

pub returns-clause-ends : goal.returns-clause-ends
returns-clause-ends g c =
    let p = c.args.machine.now in
    let m = c.export_full_batch-failed.new.machine in
    let q = c.offer_span.new.machine in
    let t = c.export_full_batch.new.machine in
    let exports = c.export_full_batch-failed.ensures.exports in
    let export = exports.1 in
    let leaves = c.export_full_batch-failed.ensures.leaves in
    let more = c.export_full_batch.ensures.exports in
    let again = more.1 in
    let room : has_full_batch m ≡ false = sym c.has_full_batch-is_full.ensures ∙ c.if-is_full.false in
    let sizes = offer_sizes g.E.SpanExporter m c.args.span q c.offer_span.ensures.offers in (
      exports.0 + more.0,
      record {
        refused = export.refused || again.refused;
        offers = record {
          refused_before = export.refused;
          failed_before = exports.0;
          roomy = m;
          makes_room = export.exports;
          queued = q;
          offers = c.offer_span.ensures.offers;
          refused_after = again.refused;
          failed_after = more.0;
          exports = rw room again.exports;
          refusal = refl;
          failures = refl;
        };
        largest = same_largest q.control t.control
            (sizes_left g.E.SpanExporter q t c.export_full_batch.ensures.leaves)
            ∙ (same_largest m.control q.control sizes
            ∙ same_largest p.control m.control (sizes_left g.E.SpanExporter p m leaves));
        loses_none = λ some found. c.export_full_batch.ensures.leaves.told.dropped
            ∙ (room_drops_none g.E.SpanExporter m q c.args.span c.requires.sampled (leaves.closed ∙ c.requires.runs)
            (offer_ends g.E.SpanExporter c.export_full_batch-failed.new.machine c.args.span c.offer_span.new.machine
            c.export_full_batch-failed.ensures.leaves.rest c.offer_span.ensures.offers) (has_room m c.is_sound-2.ensures room) ∙ leaves.told.dropped);
        below = λ some found. again.below
            (rw (same_largest m.control q.control sizes) (largest_left g.E.SpanExporter p m leaves some))
            (neither export.refused again.refused found).1;
      },
      c.saturating_add.ensures ∙ rw (exports.2, more.2) (counted_both exports.0 more.0),
    )

pub returns-clause-told : goal.returns-clause-told
returns-clause-told g c =
    let m = c.export_full_batch-failed.new.machine in
    let room : has_full_batch m ≡ false = sym c.has_full_batch-is_full.ensures ∙ c.if-is_full.false in
    let less = has_room m c.is_sound-2.ensures room in
    eager_told g.E.SpanExporter c.args.machine.now m c.offer_span.new.machine c.export_full_batch.new.machine c.args.span
    c.requires.sampled c.requires.runs c.is_sound.ensures c.export_full_batch-failed.ensures.leaves (offer_ends g.E.SpanExporter c.export_full_batch-failed.new.machine c.args.span c.offer_span.new.machine
    c.export_full_batch-failed.ensures.leaves.rest c.offer_span.ensures.offers)
    c.export_full_batch.ensures.leaves.told c.export_full_batch.ensures.leaves.closed
    (λ e. absurd (omega (arith, e, less)))
