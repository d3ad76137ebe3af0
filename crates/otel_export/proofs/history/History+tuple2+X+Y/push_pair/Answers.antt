-- The parts of a pair live as long as it is noted.
use borrow.Author.Rules.{rules, lives}
use Rattle.otel_export.proofs.history.History+tuple2+X+Y.push_pair.Goals as goal

pub of-requires : goal.of-requires
of-requires g c κs within = search (rules, lives, within) depth 24 fits 20000
