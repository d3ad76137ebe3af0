use Rattle.std.proofs.Common.{string_bytes, ap, sym, ◌∙◌}
use Rattle.opentelemetry.specs.Plain.{texts}
use Rattle.opentelemetry.specs.PlainValues.{plain_array}
use Rattle.opentelemetry.proofs.Clones.{map_all_zip}
use Rattle.opentelemetry.proofs.common.ArrayClone.clone.Goals as goal

pub returns-in_ok-clone-in-String : goal.returns-in_ok-clone-in-String
returns-in_ok-clone-in-String c = record {
  cases = ap texts (map_all_zip (λ t. string_bytes t) c.in-String.items.items c.in_ok-clone-in-String.field-0.items c.in_ok-clone-in-String.ensures.cases.0)
      ∙ sym (ap plain_array c.in-String.is);
}
