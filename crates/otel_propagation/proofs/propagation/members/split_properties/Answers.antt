use Rattle.std.proofs.Common.{lit<}
use Rattle.otel_propagation.proofs.BaggagePieceLemmas.{cut_once, uncut}
use Rattle.otel_propagation.proofs.propagation.members.split_properties.Goals as goal

pub returns-in-Some : goal.returns-in-Some
returns-in-Some c = cut_once 59 c.args.member.now c.in-Some.pair c.in-Some.properties c.in-Some.ensures.cases (lit< tt)

pub returns-in-None : goal.returns-in-None
returns-in-None c = uncut 59 c.args.member.now c.in-None.ensures.cases (lit< tt)
