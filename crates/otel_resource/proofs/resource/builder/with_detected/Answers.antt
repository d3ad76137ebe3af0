use Rattle.std.proofs.Common.{◌≡◌, ◌+◌, [], ◌++◌, ◌∷◌, take, sym, ap, subst, ◌∙◌}
use Rattle.std.proofs.lemmas.List.{take_more}
use Rattle.std.specs.List.{AllZip}
use Rattle.otel_resource.specs.Resource.{PlainResource, merge, of_attributes, all_attributes}
use Rattle.otel_resource.proofs.AttributeLemmas.{merge-nothing, merge_attributes-merge, all_attributes-push, all_zip_push}
use Rattle.otel_resource.proofs.resource.builder.with_detected.Goals as goal

pub loop-detector-init : goal.loop-detector-init
loop-detector-init g c = ([], tt, sym (merge-nothing c.args.builder))

pub loop-detector-preserved : goal.loop-detector-preserved
loop-detector-preserved g c =
    let (seen, zipped, so_far) = c.loop-detector.invariant in
    let i = c.loop-detector.detector-index in
    let item = c.detector-item.result in
    let more : take (i + 1) c.args.detectors.now ≡ take i c.args.detectors.now ++ item ∷ [] =
    take_more c.args.detectors.now i item c.loop-detector-test.true ∙ ap (λ x. take i c.args.detectors.now ++ x ∷ []) (sym c.detector-item.is) in
    let found = c.in_ok-seen.seen in (
      seen ++ found ∷ [],
      subst (λ ds. AllZip g.D.ResourceDetector.detects ds (seen ++ found ∷ [])) (sym more)
          (all_zip_push g.D.ResourceDetector.detects _ _ _ _ zipped c.in_ok-seen.ensures.ok),
      c.in_ok-builder.ensures.ok ∙ ap (λ (r : PlainResource). merge r (of_attributes found.attributes)) so_far
          ∙ merge_attributes-merge c.args.builder (all_attributes seen) found.attributes
          ∙ ap (λ a. merge c.args.builder (of_attributes a)) (sym (all_attributes-push seen found)),
    )
