use Rattle.otel_picture.proofs.dates.+date_after.Given as goal

abbrev pub decreases-date_after : goal.decreases-date_after
decreases-date_after l = l.later
