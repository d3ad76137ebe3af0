use Rattle.otel_picture.proofs.dates.+date_in_year.Given as goal

abbrev pub decreases-date_in_year : goal.decreases-date_in_year
decreases-date_in_year l = l.later
