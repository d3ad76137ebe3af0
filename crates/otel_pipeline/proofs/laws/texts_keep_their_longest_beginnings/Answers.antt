use Rattle.otel_pipeline.proofs.FirstChars.{in_two, front-IsUtf8, front-within, front-longest}
use Rattle.otel_pipeline.proofs.laws.texts_keep_their_longest_beginnings.Goals as goal

pub returns-clause-beginning : goal.returns-clause-beginning
returns-clause-beginning c = λ count. (_, in_two c.args.text.now count c.utf8.text)

pub returns-clause-within : goal.returns-clause-within
returns-clause-within c = λ count. (front-IsUtf8 c.args.text.now count c.utf8.text, front-within c.args.text.now count c.utf8.text)

pub returns-clause-longest : goal.returns-clause-longest
returns-clause-longest c = λ count front rest e is few. front-longest c.args.text.now front rest count e is few
