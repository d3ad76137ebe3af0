-- The pipeline and its allocator, as the walks over a box name them.
use mathlib.Core.List.{[]}
use mir.Syntax.{impl, tnil, dnil}
use Rattle.std.proofs.BoxSteps.Form.{Bx}
use Rattle.std.proofs.alloc.Global.TheLaws as heap_laws
use Rattle.std.specs.contracts.alloc.Global as heap
use Rattle.std.specs.contracts.impls.GlobalAllocator.TheImpl.{ghosts}
use Rattle.otel_embed.proofs.pipeline.Pipeline.TheLaws as pipeline_laws
use Rattle.otel_embed.specs.contracts.pipeline.Pipeline as pipeline

abbrev pub E : Bx
E = record {
  row = pipeline.the_row;
  laws = pipeline_laws.the_row_laws;
  al = record {
    row = heap.the_row;
    laws = heap_laws.the_row_laws;
    g = ghosts;
    d = impl [] tnil dnil;
    drops = impl [] tnil dnil;
  };
}
