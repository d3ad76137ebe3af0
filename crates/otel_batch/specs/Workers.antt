-- What the worker of a batch queue is at.
use Rattle.std.specs.Prelude.{ℕ, ◌==◌, Bool, true, false, if◌then◌else◌}
use Rattle.otel_batch.specs.declared.machine.state.Worker.{Worker}
use Rattle.otel_batch.specs.declared.machine.state.Worker.TheVariants as worker
use Rattle.otel_batch.specs.declared.machine.state.Why.{Why}
use Rattle.otel_batch.specs.declared.machine.state.Why.TheVariants as why

abbrev pub is_ready : Worker → Bool
is_ready worker.Ready = true
is_ready _ = false

abbrev pub is_clearing : Worker → Bool
is_clearing worker.Clearing = true
is_clearing _ = false

abbrev pub is_loading : Worker → Bool
is_loading (worker.Loading reason) = true
is_loading _ = false

abbrev pub is_pulling : Worker → Bool
is_pulling worker.Pulling = true
is_pulling _ = false

abbrev pub is_handing : Worker → Bool
is_handing worker.Handing = true
is_handing _ = false

abbrev pub is_subtracting : Worker → Bool
is_subtracting (worker.Subtracting k) = true
is_subtracting _ = false

abbrev pub is_finishing : Worker → Bool
is_finishing worker.Finishing = true
is_finishing _ = false

abbrev pub is_closing : Worker → Bool
is_closing (worker.Closing p) = true
is_closing _ = false

abbrev pub is_gone : Worker → Bool
is_gone worker.Gone = true
is_gone _ = false

-- the worker has not handed over all of its drain
abbrev pub is_draining : Worker → Bool
is_draining worker.Pulling = true
is_draining worker.Handing = true
is_draining (worker.Subtracting k) = true
is_draining _ = false

-- there may be spans in its hand
abbrev pub is_filling : Worker → Bool
is_filling worker.Pulling = true
is_filling worker.Handing = true
is_filling _ = false

-- how much of the counter the worker accounts for
abbrev pub worker_counts : Worker → ℕ
worker_counts (worker.Subtracting k) = k
worker_counts _ = 0

-- how many wishes to export the worker is at
abbrev pub worker_asks : Worker → ℕ
worker_asks worker.Clearing = 1
worker_asks _ = 0

-- how many requests of p the reason of a drain is
abbrev pub why_names : ℕ → Why → ℕ
why_names p (why.Flush q) = if q == p then 1 else 0
why_names p (why.Shutdown q) = if q == p then 1 else 0
why_names p _ = 0

-- how many requests of p the worker is at, whose drain has this reason
abbrev pub worker_names : ℕ → Why → Worker → ℕ
worker_names p reason (worker.Loading next) = why_names p next
worker_names p reason worker.Pulling = why_names p reason
worker_names p reason worker.Handing = why_names p reason
worker_names p reason (worker.Subtracting k) = why_names p reason
worker_names p reason worker.Finishing = why_names p reason
worker_names p reason (worker.Closing q) = if q == p then 1 else 0
worker_names p reason _ = 0

-- the producer whose shutdown the worker completes
abbrev pub closing_of : Worker → ℕ
closing_of (worker.Closing p) = p
closing_of _ = 0
