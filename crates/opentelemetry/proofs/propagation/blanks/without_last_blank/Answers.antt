use Rattle.std.proofs.Common.{lit<, None}
use Rattle.std.proofs.lemmas.Str.Pattern.{strip_suffix_char}
use Rattle.opentelemetry.proofs.Blanks.{last_tab}
use Rattle.opentelemetry.proofs.propagation.blanks.without_last_blank.Goals as goal

pub returns-in-None : goal.returns-in-None
returns-in-None c = last_tab c.args.text.now c.strip_suffix-in-None.result
    (strip_suffix_char 32 c.args.text.now None c.in-None.ensures.cases (lit< tt))
    (strip_suffix_char 9 c.args.text.now c.strip_suffix-in-None.result c.strip_suffix-in-None.ensures.cases (lit< tt))
