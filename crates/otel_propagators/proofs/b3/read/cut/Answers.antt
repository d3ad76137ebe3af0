use Rattle.std.proofs.Common.{Some, None, lit<}
use Rattle.std.proofs.lemmas.Str.Pattern.{split_parts}
use Rattle.otel_propagators.proofs.B3Lemmas.{all_in_field}
use Rattle.otel_propagators.proofs.b3.read.cut.Goals as goal

pub returns-in-Some-clause-first : goal.returns-in-Some-clause-first
returns-in-Some-clause-first c =
    all_in_field c.in-Some.front.now (split_parts 45 c.args.text.now (Some (c.in-Some.front, c.in-Some.after)) c.in-Some.ensures.cases (lit< tt)).1

pub returns-in-None-clause-first : goal.returns-in-None-clause-first
returns-in-None-clause-first c = all_in_field c.args.text.now (split_parts 45 c.args.text.now None c.in-None.ensures.cases (lit< tt))
