-- A value by how deep its lists may nest.
use Rattle.std.proofs.Common.{◌≡◌, ◌-◌, ◌<◌, ℕ, zero, suc, Bool, true, Err, refl, ap, arith}
use Rattle.json.specs.Json.{Json}
use Rattle.otel_otlp_read.specs.declared.fault.Fault.TheVariants.{ValueDepth}
use Rattle.otel_otlp_read.specs.AnyValue.{shown_value, shown_with}

pub depth_none : (depth : ℕ) (is_quoted : Bool) (j : Json) → depth ≡ 0 → shown_value depth is_quoted j ≡ Err ValueDepth
unfolding shown_value
depth_none zero is_quoted j none = refl
depth_none (suc depth) is_quoted j none = absurd (omega arith)

pub depth_some : (depth : ℕ) (is_quoted : Bool) (j : Json) → 0 < depth
    → shown_value depth is_quoted j ≡ shown_with (shown_value (depth - 1) true) is_quoted j
unfolding shown_value
depth_some zero is_quoted j some = absurd (omega arith)
depth_some (suc depth) is_quoted j some =
    let less : depth ≡ suc depth - 1 = omega arith in
    ap (λ d. shown_with (shown_value d true) is_quoted j) less
