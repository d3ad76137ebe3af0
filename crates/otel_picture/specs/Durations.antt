-- Durations as people read them: in the unit that fits, with at most four significant digits, and cut, not rounded.
use Rattle.std.specs.Prelude.{ℕ, ◌/◌, ◌%◌, ◌-◌, ◌+◌, ◌==◌, List, [], ◌∷◌, ◌++◌, codes, decimal, if◌then◌else◌, nat_lt}

-- how many nanoseconds one unit of the last digit is that is shown of a duration
abbrev pub step_of : ℕ → ℕ
step_of n =
    if nat_lt n 10000 then 1 else
    (if nat_lt n 100000 then 10 else
    (if nat_lt n 1000000 then 100 else
    (if nat_lt n 10000000 then 1000 else
    (if nat_lt n 100000000 then 10000 else
    (if nat_lt n 1000000000 then 100000 else
    (if nat_lt n 10000000000 then 1000000 else
    (if nat_lt n 60000000000 then 10000000 else
    (if nat_lt n 3600000000000 then 1000000000 else
    (if nat_lt n 86400000000000 then 60000000000 else
    (if nat_lt n 8640000000000000 then 3600000000000 else
    (if nat_lt n 851472000000000000 then 86400000000000 else 31536000000000000)))))))))))

-- what is shown of a duration: the multiple of that unit that is not greater
abbrev pub shown_duration : ℕ → ℕ
shown_duration n = n - n % step_of n

-- thousandths after a point, without the zeros at their end
abbrev pub fraction_text : ℕ → List ℕ
fraction_text thousandths =
    if thousandths == 0 then [] else
    (46 ∷ (48 + thousandths / 100) ∷
    (if thousandths % 100 == 0 then [] else
    ((48 + thousandths / 10 % 10) ∷
    (if thousandths % 10 == 0 then [] else ((48 + thousandths % 10) ∷ [])))))

-- nanoseconds in a unit of at least a thousand of them, to the thousandth
abbrev pub in_unit : ℕ → ℕ → List ℕ
in_unit unit n = decimal (n / unit) ++ fraction_text (n % unit / (unit / 1000))

-- so many of a unit, and of a smaller one, if there is any: the units are letters
abbrev pub in_units : (count letter rest rest_letter : ℕ) → List ℕ
in_units count letter rest rest_letter =
    decimal count ++ letter ∷ (if rest == 0 then [] else 32 ∷ (decimal rest ++ rest_letter ∷ []))

-- a number of nanoseconds that is shown, written out: `853ns`, `39.23ms`, `2m 5s`
abbrev pub exact_text : ℕ → List ℕ
exact_text n =
    if nat_lt n 1000 then decimal n ++ codes "ns" else
    (if nat_lt n 1000000 then in_unit 1000 n ++ codes "us" else
    (if nat_lt n 1000000000 then in_unit 1000000 n ++ codes "ms" else
    (if nat_lt n 60000000000 then in_unit 1000000000 n ++ codes "s" else
    (if nat_lt n 3600000000000 then in_units (n / 60000000000) 109 (n % 60000000000 / 1000000000) 115 else
    (if nat_lt n 86400000000000 then in_units (n / 3600000000000) 104 (n % 3600000000000 / 60000000000) 109 else
    (if nat_lt n 851472000000000000 then
    in_units (n / 86400000000000) 100 (n % 86400000000000 / 3600000000000) 104 else
    decimal (n / 31536000000000000) ++ codes "y"))))))

-- the text of a duration
abbrev pub duration_text : ℕ → List ℕ
duration_text n = exact_text (shown_duration n)
