use Rattle.otel_probability.proofs.threshold.+push_short_hex.Given as goal

abbrev pub decreases-push_short_hex : goal.decreases-push_short_hex
decreases-push_short_hex l = l.count
