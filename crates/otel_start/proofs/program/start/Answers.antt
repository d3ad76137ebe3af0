use Rattle.otel_start.proofs.program.start.Goals as goal

pub returns : goal.returns
returns g c = (c.in_ok-settings.settings, c.in_ok-scope_over.ensures)
