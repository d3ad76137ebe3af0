-- The items of each kind.
use Rattle.std.proofs.Common.{ap, sym, string_bytes}
use Rattle.opentelemetry.specs.PlainValues.{plain_array}
use Rattle.otel_otlp_protobuf.proofs.Steps.{last, many_taken, mapped_twice}
use Rattle.otel_otlp_protobuf.specs.NamedValues.{array_members, float_members, integer_members, text_members}
use Rattle.otel_otlp_protobuf.specs.NamedValues.{truth_members}
use Rattle.otel_otlp_protobuf.specs.Said.{items_fields, items_of, message_fields}
use Rattle.otel_protobuf.proofs.Taking.{as_fields}
use Rattle.otel_otlp_protobuf.proofs.value.ArrayMessage.write.Goals as goal

pub returns-in-Bool : goal.returns-in-Bool
returns-in-Bool c =
    as_fields (ap (λ array. message_fields (array_members (plain_array array))) (sym c.in-Bool.is))
    (last _ (many_taken 1 truth_members _ c.in-Bool.truths.items c.deref.ensures.value c.repeated.ensures))

pub returns-in-I64 : goal.returns-in-I64
returns-in-I64 c =
    as_fields (ap (λ array. message_fields (array_members (plain_array array))) (sym c.in-I64.is))
    (last _ (many_taken 1 integer_members _ c.in-I64.numbers.items c.deref-in-I64.ensures.value
    c.repeated-in-I64.ensures))

pub returns-in-String : goal.returns-in-String
returns-in-String c =
    as_fields (ap (λ array. message_fields (array_members (plain_array array))) (sym c.in-String.is))
    (last _ (as_fields (ap (λ items. items_fields 1 (items_of items))
    (mapped_twice text_members (λ text. string_bytes text) c.in-String.texts.items))
    (many_taken 1 (λ text. text_members (string_bytes text)) _ c.in-String.texts.items
    c.deref-in-String.ensures.value c.repeated-in-String.ensures)))

pub returns-in-F64 : goal.returns-in-F64
returns-in-F64 c =
    as_fields (ap (λ array. message_fields (array_members (plain_array array))) (sym c.in-F64.is))
    (last _ (many_taken 1 float_members _ c.in-F64.numbers.items c.deref-in-F64.ensures.value
    c.repeated-in-F64.ensures))
