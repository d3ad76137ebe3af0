-- A trace that has no number yet.
use Rattle.otel_picture.proofs.Finding.{noted_by}
use Rattle.otel_picture.proofs.families.number_of.Goals as goal

pub returns-in_ok-insert-in-None-clause-noted : goal.returns-in_ok-insert-in-None-clause-noted
returns-in_ok-insert-in-None-clause-noted c =
    noted_by c.args.numbers.now c.insert.new.self c.args.trace_id c.args.count c.in_ok-insert-in-None.ensures.updates
