-- The date and the time of a moment in UTC, by the Gregorian calendar: `2026-11-28 10:15:04.123 UTC`.
use Rattle.std.specs.Prelude.{ℕ, zero, suc, ◌+◌, ◌-◌, ◌/◌, ◌%◌, ◌==◌, ◌&&◌, ◌||◌, Bool, List, [], ◌∷◌, ◌++◌, codes}
use Rattle.std.specs.Prelude.{decimal, if◌then◌else◌, nat_lt, not}
use Rattle.otel_picture.specs.declared.dates.Date.{Date}

-- whether a year has 29 February
abbrev pub is_leap_year : ℕ → Bool
is_leap_year year = ((year % 4 == 0) && not (year % 100 == 0)) || (year % 400 == 0)

abbrev pub days_in_year : ℕ → ℕ
days_in_year year = if is_leap_year year then 366 else 365

abbrev pub days_in_month : (year month : ℕ) → ℕ
days_in_month year month =
    if month == 2 then (if is_leap_year year then 29 else 28) else
    (if (month == 4) || (month == 6) || (month == 9) || (month == 11) then 30 else 31)

-- the date so many days after the first of a month, in it or in one of so many after it
abbrev pub date_in_year : (later year month days : ℕ) → Date
date_in_year zero year month days = record { year = year; month = month; day = days + 1 }
date_in_year (suc later) year month days =
    if nat_lt days (days_in_month year month) then record { year = year; month = month; day = days + 1 }
    else date_in_year later year (month + 1) (days - days_in_month year month)

-- the date so many days after the first of a year, in it or in one of so many after it
abbrev pub date_after : (later year days : ℕ) → Date
date_after zero year days = date_in_year 11 year 1 days
date_after (suc later) year days =
    if nat_lt days (days_in_year year) then date_in_year 11 year 1 days
    else date_after later (year + 1) (days - days_in_year year)

-- the date so many days after 1970-01-01. The greatest moment of 64 bits lies in the year 2554
unfoldable pub date_of : ℕ → Date
date_of days = date_after 600 1970 days

-- the last two digits of a number, and the last three
unfoldable pub two_digits : ℕ → List ℕ
two_digits n = (48 + n / 10 % 10) ∷ (48 + n % 10) ∷ []

unfoldable pub three_digits : ℕ → List ℕ
three_digits n = (48 + n / 100 % 10) ∷ two_digits n

unfoldable pub date_text : Date → List ℕ
date_text date =
    decimal date.year ++ (codes "-" ++ (two_digits date.month ++ (codes "-" ++ two_digits date.day)))

-- the time of day after so many milliseconds, and its seconds
unfoldable pub seconds_text : ℕ → List ℕ
seconds_text milliseconds = two_digits (milliseconds / 1000 % 60) ++ (codes "." ++ three_digits milliseconds)

unfoldable pub clock_text : ℕ → List ℕ
clock_text milliseconds =
    two_digits (milliseconds / 3600000 % 24) ++ (codes ":" ++ (two_digits (milliseconds / 60000 % 60)
    ++ (codes ":" ++ seconds_text milliseconds)))

-- a moment in nanoseconds since 1970, with what is less than a millisecond cut off
unfoldable pub moment_text : ℕ → List ℕ
moment_text nanoseconds =
    date_text (date_of (nanoseconds / 86400000000000))
    ++ (codes " " ++ (clock_text (nanoseconds / 1000000) ++ codes " UTC"))
