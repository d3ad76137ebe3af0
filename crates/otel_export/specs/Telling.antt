-- A telling: the list of what an exporter or a processor was handed so far, or nothing.
use Rattle.std.specs.Prelude.{◌≡◌, List, ◌++◌, Option, Some, None, Bool, if◌then◌else◌}

-- what was told, followed by more; nothing stays nothing
abbrev pub and_then_told : {X : Type 0} → Option (List X) → List X → Option (List X)
and_then_told None more = None
and_then_told (Some told) more = Some (told ++ more)

-- after more was handed over: it is told after what was told before, or the telling has ended
abbrev pub Tells : {X : Type 0} → Option (List X) → List X → Option (List X) → Type 0
Tells before more None = Unit {0}
Tells before more (Some told) = and_then_told before more ≡ Some told

-- a history is told until a call has failed
abbrev pub told_unless : {X : Type 0} → Bool → List X → Option (List X)
told_unless has_failed history = if has_failed then None else Some history
