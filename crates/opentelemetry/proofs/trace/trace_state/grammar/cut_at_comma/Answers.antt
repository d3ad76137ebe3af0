use Rattle.std.proofs.Common.{lit<, Some, None}
use Rattle.std.proofs.lemmas.Str.Pattern.{split_once_first}
use Rattle.opentelemetry.proofs.Blanks.{cut_first, cut_none}
use Rattle.opentelemetry.proofs.trace.trace_state.grammar.cut_at_comma.Goals as goal

pub returns-in-Some-clause-pieces : goal.returns-in-Some-clause-pieces
returns-in-Some-clause-pieces c = cut_first c.args.text.now c.in-Some.piece.now c.in-Some.rest.now (split_once_first 44 c.args.text.now (Some (c.in-Some.piece, c.in-Some.rest)) c.in-Some.ensures.cases (lit< tt))

pub returns-in-None-clause-pieces : goal.returns-in-None-clause-pieces
returns-in-None-clause-pieces c = cut_none c.args.text.now (split_once_first 44 c.args.text.now None c.in-None.ensures.cases (lit< tt))
