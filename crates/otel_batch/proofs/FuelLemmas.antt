-- In how many steps of its worker a drain of the batch queue ends, in numbers.
use Rattle.std.proofs.Common.{◌≡◌, ◌⊎◌, inl, inr, refl, ℕ, ◌+◌, ◌-◌, ◌*◌, ◌<◌, ◌≤◌, Bool, true, false, if◌then◌else◌, arith}
use Rattle.std.proofs.lemmas.Bool.Decides.{eqb_tells}
use Rattle.otel_batch.specs.declared.machine.state.Worker.{Worker}
use Rattle.otel_batch.specs.declared.machine.state.Worker.TheVariants as worker
use Rattle.otel_batch.proofs.NumberLemmas.{ltb_tells}
use Rattle.otel_batch.proofs.BusyLemmas.{is_busy}

-- with so many of its target left and so many in hand, the worker has steps for its drain to end in this number of them,
-- where a batch may take so many more than are left
abbrev pub HasFuel : Worker → (left hand extra fuel : ℕ) → Type 0
HasFuel worker.Pulling left hand extra fuel =
    (hand ≡ 0 → 4 * left + 1 + extra ≤ fuel)
    × (0 < hand → hand < left → 4 * (left - hand) + 4 + extra ≤ fuel)
    × (0 < hand → left ≤ hand → 4 + (extra - hand) ≤ fuel)
HasFuel worker.Handing left hand extra fuel =
    (hand < left → 4 * (left - hand) + 3 + extra ≤ fuel) × (left ≤ hand → 3 ≤ fuel)
HasFuel (worker.Subtracting k) left hand extra fuel =
    (k < left → 4 * (left - k) + 2 + extra ≤ fuel) × (left ≤ k → 2 ≤ fuel)
HasFuel worker.Finishing left hand extra fuel = 1 ≤ fuel
HasFuel _ left hand extra fuel = ⊥

pub fuel_some : (w : Worker) (left hand extra fuel : ℕ) → HasFuel w left hand extra fuel → 1 ≤ fuel
fuel_some worker.Pulling left hand extra fuel h = elim (eqb_tells hand 0) [
  | inl none ↦ let a = h.0 none.1 in omega (arith, a)
  | inr some ↦ elim (ltb_tells hand left) [
    | inl below ↦ let a = h.1 (omega (arith, some.1)) below.1 in omega (arith, a)
    | inr over ↦ let a = h.2 (omega (arith, some.1)) over.1 in omega (arith, a)
  ]
]
fuel_some worker.Handing left hand extra fuel h = elim (ltb_tells hand left) [
  | inl below ↦ let a = h.0 below.1 in omega (arith, a)
  | inr over ↦ let a = h.1 over.1 in omega (arith, a)
]
fuel_some (worker.Subtracting k) left hand extra fuel h = elim (ltb_tells k left) [
  | inl below ↦ let a = h.0 below.1 in omega (arith, a)
  | inr over ↦ let a = h.1 over.1 in omega (arith, a)
]
fuel_some worker.Finishing left hand extra fuel h = h
fuel_some worker.Ready left hand extra fuel h = absurd h
fuel_some worker.Clearing left hand extra fuel h = absurd h
fuel_some (worker.Loading y) left hand extra fuel h = absurd h
fuel_some (worker.Closing p) left hand extra fuel h = absurd h
fuel_some worker.Gone left hand extra fuel h = absurd h

-- the steps of a drain, in numbers
pub pulled_fuel : (left hand extra fuel : ℕ) → HasFuel worker.Pulling left hand extra fuel → 0 < left →
    (hand + 1 ≤ extra) ⊎ (hand + 1 ≤ left) → (b : Bool) →
    HasFuel (if b then worker.Pulling else worker.Handing) left (hand + 1) extra (fuel - 1)
pulled_fuel left hand extra fuel h some room true = (
  λ e. absurd (omega (arith, e)),
  λ a below. elim (eqb_tells hand 0) [
    | inl none ↦ let f = h.0 none.1 in omega (arith, f, below, none.1)
    | inr more ↦ let f = h.1 (omega (arith, more.1)) (omega (arith, below)) in omega (arith, f, below)
  ],
  λ a over. elim (eqb_tells hand 0) [
    | inl none ↦ let f = h.0 none.1 in omega (arith, f, over, none.1, some)
    | inr more ↦ elim (ltb_tells hand left) [
      | inl below ↦ let f = h.1 (omega (arith, more.1)) below.1 in omega (arith, f, over, below.1)
      | inr past ↦ let f = h.2 (omega (arith, more.1)) past.1 in elim room [
        | inl fits ↦ omega (arith, f, fits)
        | inr fits ↦ absurd (omega (arith, fits, past.1))
      ]
    ]
  ],
)
pulled_fuel left hand extra fuel h some room false = (
  λ below. elim (eqb_tells hand 0) [
    | inl none ↦ let f = h.0 none.1 in omega (arith, f, below, none.1)
    | inr more ↦ let f = h.1 (omega (arith, more.1)) (omega (arith, below)) in omega (arith, f, below)
  ],
  λ over. elim (eqb_tells hand 0) [
    | inl none ↦ let f = h.0 none.1 in omega (arith, f, over, none.1, some)
    | inr more ↦ elim (ltb_tells hand left) [
      | inl below ↦ let f = h.1 (omega (arith, more.1)) below.1 in omega (arith, f, over, below.1)
      | inr past ↦ let f = h.2 (omega (arith, more.1)) past.1 in omega (arith, f)
    ]
  ],
)

pub emptied_fuel : (left hand extra fuel : ℕ) → HasFuel worker.Pulling left hand extra fuel → 0 < hand →
    HasFuel worker.Handing left hand extra (fuel - 1)
emptied_fuel left hand extra fuel h some = (
  λ below. let f = h.1 some below in omega (arith, f),
  λ over. let f = h.2 some over in omega (arith, f),
)

pub handed_fuel : (left hand k extra fuel : ℕ) → HasFuel worker.Handing left hand extra fuel → k ≡ hand →
    HasFuel (worker.Subtracting k) left hand extra (fuel - 1)
handed_fuel left hand k extra fuel h e = (
  λ below. let f = h.0 (omega (arith, e, below)) in omega (arith, f, e),
  λ over. let f = h.1 (omega (arith, e, over)) in omega (arith, f),
)

pub fuel_busy : (w : Worker) (left hand extra fuel : ℕ) → HasFuel w left hand extra fuel → is_busy w ≡ true
fuel_busy worker.Pulling left hand extra fuel h = refl
fuel_busy worker.Handing left hand extra fuel h = refl
fuel_busy (worker.Subtracting k) left hand extra fuel h = refl
fuel_busy worker.Finishing left hand extra fuel h = refl
fuel_busy worker.Ready left hand extra fuel h = absurd h
fuel_busy worker.Clearing left hand extra fuel h = absurd h
fuel_busy (worker.Loading y) left hand extra fuel h = absurd h
fuel_busy (worker.Closing p) left hand extra fuel h = absurd h
fuel_busy worker.Gone left hand extra fuel h = absurd h
