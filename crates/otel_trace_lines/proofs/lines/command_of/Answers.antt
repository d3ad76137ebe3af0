-- What is found after the word, or of the word alone, is found in the line.
use Rattle.std.proofs.Common.{◌≡◌, ◌++◌, ◌∷◌, IsUtf8, rules}
use Rattle.opentelemetry.proofs.Clauses.{if_ok_map}
use Rattle.otel_trace_lines.specs.Dialects.{HasWord}
use Rattle.otel_trace_lines.proofs.FieldLemmas.{fields_give_line, word_gives_line}
use Rattle.otel_trace_lines.proofs.lines.command_of.Goals as goal

pub returns-else-not-has_word-clause-found : goal.returns-else-not-has_word-clause-found
returns-else-not-has_word-clause-found c =
    let text : IsUtf8 c.args.line.now = search rules in
    let parts : c.args.line.now ≡ c.in-Some.word.now ++ 32 ∷ c.in-Some.fields.now = search rules in
    let has : HasWord c.args.dialect c.in-Some.word.now = search rules in
    if_ok_map c.command_with_fields.result (λ found h. fields_give_line c.args.dialect c.args.line.now c.in-Some.word.now c.in-Some.fields.now has text c.in-Some.ensures.0 parts found h) c.command_with_fields.ensures.found

pub returns-in-None-clause-found : goal.returns-in-None-clause-found
returns-in-None-clause-found c =
    let text : IsUtf8 c.args.line.now = search rules in
    let same : c.in-Ok.text.now ≡ c.args.line.now = search rules in
    word_gives_line c.args.dialect c.args.line.now text (rw same at c.in-None.ensures) c.command_of_word.result (rw same at c.command_of_word.ensures)
