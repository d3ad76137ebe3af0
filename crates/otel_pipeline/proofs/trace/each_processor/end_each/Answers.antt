use Rattle.std.proofs.Common.{◌≡◌, ◌-◌, ◌≤◌, arith, ap, length, take, replicate, ◌∙◌, sym, Result}
use Rattle.std.specs.declared.alloc.AllocError.{AllocError}
use Rattle.std.proofs.lemmas.List.{length-take-le}
use Rattle.otel_pipeline.specs.Ending.{TakesAndTells}
use Rattle.otel_pipeline.proofs.EachLemmas.{asked_last, with_answer}
use Rattle.otel_pipeline.proofs.trace.each_processor.end_each.Goals as goal

pub returns-in-Ok : goal.returns-in-Ok
returns-in-Ok g c =
    let within : c.in-Some.last ≤ length c.args.processors.now = omega arith in
    let front : length (take c.in-Some.last c.args.processors.now) ≡ length c.args.processors.now - 1 = omega (arith, length-take-le c.in-Some.last c.args.processors.now within) in
    asked_last (TakesAndTells g.P.SpanProcessor c.args.original) c.args.processors.now c.end_copies-refused.new.processors c.in-Some.last c.end_copies-refused.result _
    c.index-processors-last.result c.on_end_block.new.self c.on_end_block.result (omega arith) (omega arith)
    (c.end_copies-refused.ensures.asked c.args.original (c.requires ∙ ap (λ n. replicate n c.args.original) (sym front)))
    (record { gives = c.on_end_block.ensures.gives; told = c.on_end_block.ensures.told })
    (ap (λ (r : Result (Unit {0}) AllocError). with_answer r c.end_copies-refused.result) c.in-Ok.is)

pub returns-in-Err : goal.returns-in-Err
returns-in-Err g c =
    let within : c.in-Some.last ≤ length c.args.processors.now = omega arith in
    let front : length (take c.in-Some.last c.args.processors.now) ≡ length c.args.processors.now - 1 = omega (arith, length-take-le c.in-Some.last c.args.processors.now within) in
    asked_last (TakesAndTells g.P.SpanProcessor c.args.original) c.args.processors.now c.end_copies-refused.new.processors c.in-Some.last c.end_copies-refused.result _
    c.index-processors-last.result c.on_end_block.new.self c.on_end_block.result (omega arith) (omega arith)
    (c.end_copies-refused.ensures.asked c.args.original (c.requires ∙ ap (λ n. replicate n c.args.original) (sym front)))
    (record { gives = c.on_end_block.ensures.gives; told = c.on_end_block.ensures.told })
    (ap (λ (r : Result (Unit {0}) AllocError). with_answer r c.end_copies-refused.result) c.in-Err.is)
