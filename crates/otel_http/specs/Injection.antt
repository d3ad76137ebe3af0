-- What is written into headers.
use Rattle.std.specs.Prelude.{Option, Result, Ok, Err, alloc_error}
use Rattle.std.specs.declared.alloc.AllocError.{AllocError}
use Rattle.otel_http.specs.Headers.{Headers}
use Rattle.otel_http.specs.declared.header_injector.HeaderInjector.{HeaderInjector}
use Rattle.otel_http.specs.declared.header_injector.SetHeaderError.{SetHeaderError}

-- the headers so far
abbrev pub headers_of : HeaderInjector → Headers
headers_of injector = injector.headers

-- why the last refused text was not set
abbrev pub refusal_of : HeaderInjector → Option SetHeaderError
refusal_of injector = injector.refusal

-- the answer as a carrier gives it
abbrev pub carrier_answer : Result (Unit {0}) SetHeaderError → Result (Unit {0}) AllocError
carrier_answer (Ok done) = Ok done
carrier_answer (Err refusal) = Err alloc_error
