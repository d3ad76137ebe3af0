use Rattle.otel_sampling.proofs.FaultLemmas.{default_sampler_stands, default_ratio_stands, default_number_stands, default_length_stands, not_disabled}
use Rattle.otel_sampling.proofs.laws.ignored_strings_configure_defaults.Goals as goal

pub returns-clause-sampler : goal.returns-clause-sampler
returns-clause-sampler g c = default_sampler_stands

pub returns-clause-ratio : goal.returns-clause-ratio
returns-clause-ratio g c = default_ratio_stands

pub returns-clause-not_disabled : goal.returns-clause-not_disabled
returns-clause-not_disabled g c = λ strings. not_disabled strings.sdk_disabled

pub returns-clause-numbers : goal.returns-clause-numbers
returns-clause-numbers g c = default_number_stands

pub returns-clause-general_length : goal.returns-clause-general_length
returns-clause-general_length g c = λ strings. default_length_stands strings.general_attribute_value_length_limit
