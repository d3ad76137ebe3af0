-- The messages of the control queue.
use Rattle.std.specs.Prelude.{ℕ, ◌==◌, Bool, true, false, Option, Some, if◌then◌else◌}
use Rattle.otel_resource.specs.Resource.{PlainResource, empty_resource}
use Rattle.otel_batch.specs.declared.machine.state.Message.{Message}
use Rattle.otel_batch.specs.declared.machine.state.Message.TheVariants as message
use Rattle.otel_batch.specs.declared.machine.state.Request.{Request}
use Rattle.otel_batch.specs.declared.machine.state.Request.TheVariants as request

-- the message by which p asks
abbrev pub message_of : Request → ℕ → Message
message_of request.Flush p = message.Flush p
message_of request.Shutdown p = message.Shutdown p

-- the message is there, and has a resource
abbrev pub is_resource : Option Message → Bool
is_resource (Some (message.Resource resource)) = true
is_resource _ = false

-- its resource
abbrev pub resource_in : Option Message → PlainResource
resource_in (Some (message.Resource resource)) = resource
resource_in _ = empty_resource

-- how many wishes to export a message is
abbrev pub message_asks : Message → ℕ
message_asks message.Export = 1
message_asks _ = 0

-- how many requests of p a message is
abbrev pub message_names : ℕ → Message → ℕ
message_names p (message.Flush q) = if q == p then 1 else 0
message_names p (message.Shutdown q) = if q == p then 1 else 0
message_names p _ = 0
