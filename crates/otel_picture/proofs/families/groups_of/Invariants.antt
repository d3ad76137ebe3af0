-- The groups of the spans so far, and their numbers.
use Rattle.std.proofs.Common.{take}
use Rattle.otel_picture.specs.Groups.{AreGroups}
use Rattle.otel_picture.specs.Families.{trace_ids}
use Rattle.otel_picture.proofs.Finding.{AreNumbers}
use Rattle.otel_picture.proofs.families.groups_of.Given as goal

abbrev pub invariant-loop-place : goal.invariant-loop-place
invariant-loop-place l = record {
  numbers : AreNumbers l.numbers (trace_ids (take l.place l.spans));
  groups : AreGroups l.spans l.place (trace_ids (take l.place l.spans)) l.groups.items;
}
