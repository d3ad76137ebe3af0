-- What readings of the system's clocks say as moments: nanoseconds since 1970.
use Rattle.std.specs.Prelude.{◌≡◌, ◌⊎◌, ℕ, ◌+◌, ◌-◌, ◌^◌, ◌<◌, ◌≤◌, max, Result, Ok, Err, MatchResult}
use Rattle.std.specs.Duration.{as_nanos}
use Rattle.std.specs.declared.time.Duration.{Duration}
use Rattle.std.specs.IoError.{error_kind}
use Rattle.std.specs.declared.io.Error.{Error}
use Rattle.std.specs.declared.io.ErrorKind.{ErrorKind}
use Rattle.std.specs.declared.io.ErrorKind.TheVariants as kinds
use Rattle.opentelemetry.specs.declared.time.Moment.{Moment}
use Rattle.otel_host.specs.declared.clock.ClockError.{ClockError}
use Rattle.otel_host.specs.declared.clock.ClockError.TheVariants as faults

-- what is wrong with a clock that answers an error of this kind
abbrev pub clock_fault : ErrorKind → ClockError
clock_fault kinds.InvalidData = faults.Before1970
clock_fault other = faults.Unreadable other

-- a reading of the wall clock says this moment, or why it says none
abbrev pub ReadsAs : Result Duration Error → Result Moment ClockError → Type 0
ReadsAs (Ok since_1970) (Ok moment) = moment.0 ≡ as_nanos since_1970
ReadsAs (Ok since_1970) (Err fault) = (fault ≡ faults.PastLastMoment) × (2 ^ 64 ≤ as_nanos since_1970)
ReadsAs (Err error) answer = answer ≡ Err (clock_fault (error_kind error))

-- a clock that is read without errors: the system's clocks; the moment at which it was made and what the monotonic
-- clock said then, both in nanoseconds; and the moment that it told last
pub record PlainHostClock (C : Type 0) : Type 0 where
  pub clock : C
  pub made : ℕ
  pub started : ℕ
  pub last : ℕ

-- the moment of a reading of the monotonic clock, by what that said at the making: so long after that of the making, but
-- no earlier than the last one; the last one where 64 bits do not hold it or the clock cannot be read
abbrev pub IsLater : ℕ → ℕ → Result Duration Error → ℕ → ℕ → Type 0
IsLater made started (Ok reading) last later =
    ((made + (as_nanos reading - started) < 2 ^ 64) × (later ≡ max (made + (as_nanos reading - started)) last))
    ⊎ ((2 ^ 64 ≤ made + (as_nanos reading - started)) × (later ≡ last))
IsLater made started (Err _) last later = later ≡ last

module _ {C : Type 0} (wall monotonic : C → Result Duration Error → C → Type 0) where
  -- both clocks were read, and a clock was made of what they said
  pub record MakesNow (old : C) (made : PlainHostClock C) : Type 0 where
    pub since_1970 : Duration
    pub between : C
    pub reads_wall : wall old (Ok since_1970) between
    pub started : Duration
    pub reads_monotonic : monotonic between (Ok started) made.clock
    pub made_is : made.made ≡ as_nanos since_1970
    pub started_is : made.started ≡ as_nanos started
    pub last_is : made.last ≡ made.made

  -- one of them said no moment, and why
  pub record CannotBeRead (old : C) (fault : ClockError) : Type 0 where
    pub reading : Result Duration Error
    pub between : C
    pub reads_wall : wall old reading between
    pub says : ReadsAs reading (Err fault) ⊎ ((error : Error) × (after : C) × monotonic between (Err error) after
        × (fault ≡ faults.Unreadable (error_kind error)))

  -- a clock that starts now
  abbrev pub MakesClock : C → Result (PlainHostClock C) ClockError → Type 0
  MakesClock old answer = MatchResult answer (MakesNow old) (CannotBeRead old)

module _ {C : Type 0} (monotonic : C → Result Duration Error → C → Type 0) where
  -- the monotonic clock was read, and the moment that follows is told
  pub record TellsLater (old : PlainHostClock C) (moment : ℕ) (new : PlainHostClock C) : Type 0 where
    pub reading : Result Duration Error
    pub reads : monotonic old.clock reading new.clock
    pub is : IsLater old.made old.started reading old.last moment
    pub goes_on : old.last ≤ moment
    pub rest : new ≡ record old { clock = new.clock; last = moment }
