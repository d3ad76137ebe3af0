-- How a batch processor is configured (OpenTelemetry specification, "Batching processor").
use Rattle.std.specs.Prelude.{◌≡◌, ℕ, ◌*◌, List, Option, min}
use Rattle.otel_sampling.specs.ConfigStrings.{PlainBatchStrings, IsConfigured, IsConfiguredNumber, IsQueueSize}

-- its sizes in spans, its times in nanoseconds
pub record PlainBatchConfig : Type 0 where
  pub max_queue_size : ℕ
  pub max_export_batch_size : ℕ
  pub scheduled_delay : ℕ
  pub max_export_timeout : ℕ

-- what is configured where nothing else is said
abbrev pub default_batch_config : PlainBatchConfig
default_batch_config = record {
  max_queue_size = 2048;
  max_export_batch_size = 512;
  scheduled_delay = 5_000_000_000;
  max_export_timeout = 30_000_000_000;
}

-- a batch has no more spans than may wait
abbrev pub cut_to_queue : PlainBatchConfig → PlainBatchConfig
cut_to_queue config = record config { max_export_batch_size = min config.max_export_batch_size config.max_queue_size }

-- the time that is configured, where strings and the default are in milliseconds
abbrev pub IsConfiguredTime : Option (List ℕ) → ℕ → ℕ → Type 0
IsConfiguredTime given default nanoseconds =
    (milliseconds : ℕ) × IsConfiguredNumber 64 given default milliseconds × (nanoseconds ≡ milliseconds * 1_000_000)

-- what strings configure: each size and time that is said, and else the default, and no batch has more spans than may wait
pub record IsBatchConfigOf (strings : PlainBatchStrings) (config : PlainBatchConfig) : Type 0 where
  pub size : ℕ
  pub queue : IsConfigured IsQueueSize strings.max_queue_size 2048 config.max_queue_size
  pub batch : IsConfiguredNumber 64 strings.max_export_batch_size 512 size
  pub cut : config.max_export_batch_size ≡ min size config.max_queue_size
  pub delay : IsConfiguredTime strings.schedule_delay 5_000 config.scheduled_delay
  pub timeout : IsConfiguredTime strings.export_timeout 30_000 config.max_export_timeout
