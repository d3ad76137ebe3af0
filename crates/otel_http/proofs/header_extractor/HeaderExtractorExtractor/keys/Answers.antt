use Rattle.otel_http.proofs.HeadersLemmas.{answer_read, names_complete}
use Rattle.otel_http.proofs.header_extractor.HeaderExtractorExtractor.keys.Goals as goal

pub returns-clause-read : goal.returns-clause-read
returns-clause-read c = answer_read (λ names. names.items) _ c.args.self.now c.names_of.result c.self.view_is c.names_of.ensures

pub returns-clause-complete : goal.returns-clause-complete
returns-clause-complete c = names_complete c.args.self.now
