-- The state that the fields of a batch queue hold.
use Rattle.std.specs.Prelude.{vec_len, vec_capacity}
use Rattle.otel_batch.specs.MachineState.{Machine, counts}
use Rattle.otel_batch.specs.SoundMachine.{IsKept}
use Rattle.otel_batch.specs.declared.machine.batch_machine.BatchMachine.TheInside.{Inside}

-- the state
abbrev pub machine_in : {E : Type 0} → Inside E → Machine E
machine_in m = record {
  control = record {
    counter = m.counter;
    flag = m.flag;
    messages = m.messages.items;
    dropped = m.dropped;
    closed = m.closed;
    slots = m.slots.items;
    worker = m.worker;
    why = m.why;
    target = m.target;
    done = m.done;
    result = m.result;
    refused = m.refused;
    queue_size = m.waiting.capacity;
    batch_size = m.batch_size;
  };
  hand = m.hand.items;
  waiting = m.waiting.items;
  exporter = m.exporter;
}

-- what holds of the state, and of the room of the hand and of the control queue
abbrev pub IsKeptIn : {E : Type 0} → Inside E → Type 0
IsKeptIn m = IsKept (counts (machine_in m)) (vec_len m.hand) (vec_capacity m.hand) m.messages.capacity
