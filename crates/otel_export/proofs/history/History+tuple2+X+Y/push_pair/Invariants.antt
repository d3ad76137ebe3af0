use Rattle.std.proofs.Common.{[], ◌∷◌, ◌++◌}
use Rattle.otel_export.proofs.history.History+tuple2+X+Y.push_pair.Given as goal

abbrev pub ghost-of : goal.ghost-of
ghost-of g a = a._one.now.items ++ (a._other.now, a._third.now) ∷ []
