-- Which strings of a configuration are ignored, and what stands in their places (OpenTelemetry specification,
-- "Environment Variable Specification").
use Rattle.std.specs.Prelude.{◌≡◌, ◌≢◌, ◌⊎◌, ℕ, IsTrue, List, [], ◌∷◌, ◌++◌, Option, None, Some, codes}
use Rattle.std.specs.Fmt.{decimal}
use Rattle.std.specs.Str.{str_eq_ignore_ascii_case}
use Rattle.otel_sampling.specs.Config.{IsNamed, sampler_names}
use Rattle.otel_sampling.specs.ConfigStrings.{PlainConfigStrings, IsNumber, IsQueueSize}
use Rattle.otel_sampling.specs.Limits.{default_limits}
use Rattle.otel_sampling.specs.Ratio.{PlainRatio, IsRatioText}
use Rattle.otel_sampling.specs.Sampler.{SamplerPlan}
use Rattle.otel_sampling.specs.declared.trace.config.faults.Replacement.{Replacement}
use Rattle.otel_sampling.specs.declared.trace.config.faults.Replacement.TheVariants as in_place
use Rattle.otel_sampling.specs.declared.trace.config.faults.Setting.{Setting}
use Rattle.otel_sampling.specs.declared.trace.config.faults.Setting.TheVariants as settings
use Rattle.otel_sampling.specs.declared.trace.config.faults.SettingFault.{SettingFault}
use Rattle.otel_sampling.specs.declared.trace.span_limit.SpanLimits.{SpanLimits}

-- the settings, in the order of their strings
abbrev pub all_settings : List Setting
all_settings =
    settings.ScheduleDelay
    ∷ settings.MaxQueueSize
    ∷ settings.MaxExportBatchSize
    ∷ settings.ExportTimeout
    ∷ settings.SdkDisabled
    ∷ settings.AttributeCountLimit
    ∷ settings.GeneralAttributeCountLimit
    ∷ settings.EventAttributeCountLimit
    ∷ settings.LinkAttributeCountLimit
    ∷ settings.AttributeValueLengthLimit
    ∷ settings.GeneralAttributeValueLengthLimit
    ∷ settings.EventCountLimit
    ∷ settings.LinkCountLimit
    ∷ settings.Sampler
    ∷ settings.SamplerArg
    ∷ []

-- the environment variable that a setting's string is usually of
abbrev pub setting_name : Setting → List ℕ
setting_name settings.ScheduleDelay = codes "OTEL_BSP_SCHEDULE_DELAY"
setting_name settings.MaxQueueSize = codes "OTEL_BSP_MAX_QUEUE_SIZE"
setting_name settings.MaxExportBatchSize = codes "OTEL_BSP_MAX_EXPORT_BATCH_SIZE"
setting_name settings.ExportTimeout = codes "OTEL_BSP_EXPORT_TIMEOUT"
setting_name settings.SdkDisabled = codes "OTEL_SDK_DISABLED"
setting_name settings.AttributeCountLimit = codes "OTEL_SPAN_ATTRIBUTE_COUNT_LIMIT"
setting_name settings.GeneralAttributeCountLimit = codes "OTEL_ATTRIBUTE_COUNT_LIMIT"
setting_name settings.EventAttributeCountLimit = codes "OTEL_EVENT_ATTRIBUTE_COUNT_LIMIT"
setting_name settings.LinkAttributeCountLimit = codes "OTEL_LINK_ATTRIBUTE_COUNT_LIMIT"
setting_name settings.AttributeValueLengthLimit = codes "OTEL_SPAN_ATTRIBUTE_VALUE_LENGTH_LIMIT"
setting_name settings.GeneralAttributeValueLengthLimit = codes "OTEL_ATTRIBUTE_VALUE_LENGTH_LIMIT"
setting_name settings.EventCountLimit = codes "OTEL_SPAN_EVENT_COUNT_LIMIT"
setting_name settings.LinkCountLimit = codes "OTEL_SPAN_LINK_COUNT_LIMIT"
setting_name settings.Sampler = codes "OTEL_TRACES_SAMPLER"
setting_name settings.SamplerArg = codes "OTEL_TRACES_SAMPLER_ARG"

-- the string of a setting
abbrev pub string_of : PlainConfigStrings → Setting → Option (List ℕ)
string_of strings settings.ScheduleDelay = strings.batch.schedule_delay
string_of strings settings.MaxQueueSize = strings.batch.max_queue_size
string_of strings settings.MaxExportBatchSize = strings.batch.max_export_batch_size
string_of strings settings.ExportTimeout = strings.batch.export_timeout
string_of strings settings.SdkDisabled = strings.sdk_disabled
string_of strings settings.AttributeCountLimit = strings.attribute_count_limit
string_of strings settings.GeneralAttributeCountLimit = strings.general_attribute_count_limit
string_of strings settings.EventAttributeCountLimit = strings.event_attribute_count_limit
string_of strings settings.LinkAttributeCountLimit = strings.link_attribute_count_limit
string_of strings settings.AttributeValueLengthLimit = strings.attribute_value_length_limit
string_of strings settings.GeneralAttributeValueLengthLimit = strings.general_attribute_value_length_limit
string_of strings settings.EventCountLimit = strings.event_count_limit
string_of strings settings.LinkCountLimit = strings.link_count_limit
string_of strings settings.Sampler = strings.sampler
string_of strings settings.SamplerArg = strings.sampler_arg

-- a text says true or false, in capital letters or small ones
abbrev pub IsBoolean : List ℕ → Type 0
IsBoolean text =
    IsTrue (str_eq_ignore_ascii_case text (codes "true")) ⊎ IsTrue (str_eq_ignore_ascii_case text (codes "false"))

-- a text is the name of a sampler
abbrev pub IsSamplerName : List ℕ → Type 0
IsSamplerName text =
    (ratio : PlainRatio) × (sampler : SamplerPlan (Unit {0})) × IsNamed (sampler_names ratio) text sampler

-- a text reads as what a setting takes: a queue has room, other sizes and times have 64 bits, limits 32
abbrev pub Reads : Setting → List ℕ → Type 0
Reads settings.ScheduleDelay text = (number : ℕ) × IsNumber 64 text number
Reads settings.MaxQueueSize text = (size : ℕ) × IsQueueSize text size
Reads settings.MaxExportBatchSize text = (number : ℕ) × IsNumber 64 text number
Reads settings.ExportTimeout text = (number : ℕ) × IsNumber 64 text number
Reads settings.SdkDisabled text = IsBoolean text
Reads settings.AttributeCountLimit text = (number : ℕ) × IsNumber 32 text number
Reads settings.GeneralAttributeCountLimit text = (number : ℕ) × IsNumber 32 text number
Reads settings.EventAttributeCountLimit text = (number : ℕ) × IsNumber 32 text number
Reads settings.LinkAttributeCountLimit text = (number : ℕ) × IsNumber 32 text number
Reads settings.AttributeValueLengthLimit text = (number : ℕ) × IsNumber 32 text number
Reads settings.GeneralAttributeValueLengthLimit text = (number : ℕ) × IsNumber 32 text number
Reads settings.EventCountLimit text = (number : ℕ) × IsNumber 32 text number
Reads settings.LinkCountLimit text = (number : ℕ) × IsNumber 32 text number
Reads settings.Sampler text = IsSamplerName text
Reads settings.SamplerArg text = (ratio : PlainRatio) × IsRatioText text ratio

-- a string is ignored: it is there, is not empty, since an empty one counts as unset, and does not read
abbrev pub IsIgnoredString : Setting → Option (List ℕ) → Type 0
IsIgnoredString setting None = ⊥
IsIgnoredString setting (Some text) = (text ≢ []) × (Reads setting text → ⊥)

-- the string of a setting is ignored
abbrev pub IsIgnored : PlainConfigStrings → Setting → Type 0
IsIgnored strings setting = IsIgnoredString setting (string_of strings setting)

-- a length, if any
abbrev pub length_in_place : Option ℕ → Replacement
length_in_place None = in_place.NoLimit
length_in_place (Some length) = in_place.Count length

-- what stands in the place of a setting whose string is ignored, where these limits are configured: of a string of a
-- span's own what the general one says
abbrev pub replacement : SpanLimits → Setting → Replacement
replacement limits settings.ScheduleDelay = in_place.Milliseconds 5_000
replacement limits settings.MaxQueueSize = in_place.Count 2048
replacement limits settings.MaxExportBatchSize = in_place.Count 512
replacement limits settings.ExportTimeout = in_place.Milliseconds 30_000
replacement limits settings.SdkDisabled = in_place.NotDisabled
replacement limits settings.AttributeCountLimit = in_place.Count limits.max_attributes_per_span
replacement limits settings.GeneralAttributeCountLimit = in_place.Count default_limits.max_attributes_per_span
replacement limits settings.EventAttributeCountLimit = in_place.Count limits.max_attributes_per_event
replacement limits settings.LinkAttributeCountLimit = in_place.Count limits.max_attributes_per_link
replacement limits settings.AttributeValueLengthLimit = length_in_place limits.max_attribute_value_length
replacement limits settings.GeneralAttributeValueLengthLimit = length_in_place default_limits.max_attribute_value_length
replacement limits settings.EventCountLimit = in_place.Count limits.max_events_per_span
replacement limits settings.LinkCountLimit = in_place.Count limits.max_links_per_span
replacement limits settings.Sampler = in_place.ParentBasedAlwaysOn
replacement limits settings.SamplerArg = in_place.AllTraces

-- the faults of these settings: one for each whose string is ignored, in their order
abbrev pub AreFaults : PlainConfigStrings → SpanLimits → List Setting → List SettingFault → Type 0
AreFaults strings limits [] faults = faults ≡ []
AreFaults strings limits (setting ∷ others) faults =
    (IsIgnored strings setting × (rest : List SettingFault)
    × (faults ≡ record { setting = setting; in_its_place = replacement limits setting } ∷ rest)
    × AreFaults strings limits others rest)
    ⊎ ((IsIgnored strings setting → ⊥) × AreFaults strings limits others faults)

-- how a replacement shows itself
abbrev pub replacement_text : Replacement → List ℕ
replacement_text in_place.ParentBasedAlwaysOn = codes "parentbased_always_on"
replacement_text in_place.AllTraces = codes "all traces"
replacement_text (in_place.Count count) = decimal count
replacement_text in_place.NoLimit = codes "no limit"
replacement_text (in_place.Milliseconds count) = decimal count ++ codes " ms"
replacement_text in_place.NotDisabled = codes "not disabled"

-- how a fault shows itself
abbrev pub fault_text : SettingFault → List ℕ
fault_text fault =
    setting_name fault.setting ++ codes " is ignored: " ++ replacement_text fault.in_its_place
    ++ codes " stands in its place"
