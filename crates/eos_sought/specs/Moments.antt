-- The text of a time, milliseconds since 1970-01-01T00:00:00Z: YYYY-MM-DDTHH:MM:SS.mmmZ up to the end of the year 9999; of another the
-- number.
-- Source: ISO 8601 for the form, Kafka's Message Format, "Record Batch", for the milliseconds; for the date Howard Hinnant, "chrono-Compatible
-- Low-Level Date Algorithms", civil_from_days: years begin in March, and 400 of them have 146097 days, of which 719468 lie before 1970.
use Rattle.std.specs.Prelude.{ℕ, ℤ, pos, ◌+◌, ◌-◌, ◌*◌, ◌/◌, ◌%◌, ◌||◌, List, [], ◌++◌, int_lt, nat_lt, nat_le, unsigned_abs, codes, if◌then◌else◌}
use Rattle.std.specs.Fmt.{decimal, signed_decimal}
use Rattle.eos_sought.specs.declared.moment.Date.{Date}

-- ---- the date

-- of 400 years the one that a day of theirs lies in
abbrev pub year_of_era : ℕ → ℕ
year_of_era day = (((day - day / 1460) + day / 36524) - day / 146096) / 365

-- the day of that year
abbrev pub day_of_year : ℕ → ℕ → ℕ
day_of_year day year = day - ((365 * year + year / 4) - year / 100)

-- the month of such a day, where 0 is March
abbrev pub march_month : ℕ → ℕ
march_month day = (5 * day + 2) / 153

abbrev pub month_of : ℕ → ℕ
month_of march = if nat_lt march 10 then march + 3 else march - 9

-- January and February are of the year that began after March
abbrev pub years_begun : ℕ → ℕ
years_begun month = if nat_le month 2 then 1 else 0

-- a day of 400 years, and how many of those lie before
abbrev pub date_in : ℕ → ℕ → ℕ → Date
date_in eras year day = record {
  year = (year + 400 * eras) + years_begun (month_of (march_month day));
  month = month_of (march_month day);
  day = (day - (153 * march_month day + 2) / 5) + 1;
}

abbrev pub date_of_era : ℕ → ℕ → Date
date_of_era eras day = date_in eras (year_of_era day) (day_of_year day (year_of_era day))

-- a day, counted from 1970-01-01 on
abbrev pub date_of : ℕ → Date
date_of days = date_of_era ((days + 719468) / 146097) ((days + 719468) % 146097)

-- ---- the text

abbrev pub zero_before : ℕ → List ℕ
zero_before number = if nat_lt number 10 then codes "0" else []

abbrev pub zeros_before : ℕ → List ℕ
zeros_before number = if nat_lt number 10 then codes "00" else (if nat_lt number 100 then codes "0" else [])

-- two digits behind a label
unfoldable pub two : List ℕ → ℕ → List ℕ
two label number = label ++ (zero_before number ++ decimal number)

unfoldable pub date_text : Date → List ℕ
date_text d = (codes "" ++ decimal d.year) ++ (two (codes "-") d.month ++ two (codes "-") d.day)

-- the time of a day, in milliseconds
unfoldable pub clock_text : ℕ → List ℕ
clock_text ms =
    two (codes "T") (ms / 3600000) ++ (two (codes ":") ((ms / 60000) % 60) ++ (two (codes ":") ((ms / 1000) % 60)
    ++ (codes "." ++ (zeros_before (ms % 1000) ++ decimal (ms % 1000)))))

unfoldable pub moment_text : ℕ → List ℕ
moment_text ms = date_text (date_of (ms / 86400000)) ++ (clock_text (ms % 86400000) ++ codes "Z")

abbrev pub time_text : ℤ → List ℕ
time_text time = if int_lt time (pos 0) || nat_lt 253402300799999 (unsigned_abs time) then signed_decimal time else moment_text (unsigned_abs time)
