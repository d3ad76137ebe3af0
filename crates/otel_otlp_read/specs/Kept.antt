-- What is read of a list of which an item that does not read is left out, and named.
use Rattle.std.specs.Prelude.{ℕ, ◌+◌, List, [], ◌∷◌, ◌++◌, Result, Ok, Err}
use Rattle.json.specs.Json.{Json}
use Rattle.otel_otlp_read.specs.declared.fault.Fault.{Fault}
use Rattle.otel_otlp_read.specs.declared.left_out.ItemList.{ItemList}
use Rattle.otel_otlp_read.specs.declared.left_out.ItemPlace.{ItemPlace}
use Rattle.otel_otlp_read.specs.declared.left_out.LeftOut.{LeftOut}
use Rattle.otel_otlp_read.specs.Members.{list_of}
use Rattle.otel_otlp_read.specs.Reading.{◌>>=◌}

-- what is read of it, and what is left out
pub record Kept (A : Type 0) : Type 0 where
  pub kept : List A
  pub left_out : List LeftOut

abbrev pub none_kept : {A : Type 0} → Kept A
none_kept = record { kept = []; left_out = [] }

abbrev pub and_kept : {A : Type 0} → Kept A → Kept A → Kept A
and_kept first second = record {
  kept = first.kept ++ second.kept;
  left_out = first.left_out ++ second.left_out;
}

-- an item that does not read
abbrev pub left : {A : Type 0} → ItemPlace → Fault → Kept A
left item fault = record { kept = []; left_out = record { item = item; fault = fault } ∷ [] }

-- what is read of one item, of which parts may be left out
abbrev pub of_part : {A : Type 0} → ItemPlace → Result (Kept A) Fault → Kept A
of_part item (Ok read) = read
of_part item (Err fault) = left item fault

-- what is read of one item, whole or not at all
abbrev pub of_item : {A : Type 0} → ItemPlace → Result (List A) Fault → Kept A
of_item item (Ok xs) = record { kept = xs; left_out = [] }
of_item item (Err fault) = left item fault

-- what is read of items by their numbers, of which the first has this one
unfoldable pub kept_by : {A : Type 0} → (ℕ → Json → Kept A) → ℕ → List Json → Kept A
kept_by read n [] = none_kept
kept_by read n (j ∷ js) = and_kept (read n j) (kept_by read (n + 1) js)

-- what is read of items of a list, the first of which has this number there
abbrev pub kept_from : {A : Type 0} → (Json → Result (List A) Fault) → ItemList → ℕ → List Json → Kept A
kept_from read list = kept_by (λ number j. of_item (record { list = list; number = number }) (read j))

-- what is read of the items of a member that is a list
abbrev pub kept_of : {A : Type 0} → (Json → Result (List A) Fault) → ItemList → List ℕ → Fault → Json
    → Result (Kept A) Fault
kept_of read list name fault j = list_of name fault j >>= λ items. Ok (kept_from read list 1 items)
