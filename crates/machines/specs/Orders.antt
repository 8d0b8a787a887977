-- The order that a body of eight bytes holds, and the tests that the rules of the machines are made of.
use Rattle.std.specs.Prelude.{ℕ, ◌+◌, ◌*◌, Bool, cond, List, ℤ, pos, ◌-ℤ◌, ◌==◌, nat_le, nat_lt, slice_index, unsigned_abs}

-- a body taken apart, its numbers unsigned; each kind says how it reads them
pub record Order : Type 0 where
  pub kind : ℕ
  pub rate : ℕ
  pub first : ℕ
  pub second : ℕ

-- three bytes as one number, the highest first
abbrev pub number24 : ℕ → ℕ → ℕ → ℕ
number24 high middle low = high * 65536 + middle * 256 + low

-- byte 0 is the kind, byte 1 the rate, bytes 2 to 4 and 5 to 7 are two numbers
abbrev pub order_in : List ℕ → Order
order_in body =
    record { kind = slice_index body 0; rate = slice_index body 1; first = number24 (slice_index body 2) (slice_index body 3) (slice_index body 4); second = number24 (slice_index body 5) (slice_index body 6) (slice_index body 7) }

-- two's complement: of 2 * half numbers, those from half up stand for themselves less 2 * half
abbrev pub twos : ℕ → ℕ → ℤ
twos half n = cond (nat_lt n half) (pos n) (pos n -ℤ pos (2 * half))

-- what a byte stands for as a signed number
abbrev pub signed8 : ℕ → ℤ
signed8 n = twos 128 n

-- what a number of three bytes stands for as a signed one
abbrev pub signed24 : ℕ → ℤ
signed24 n = twos 8_388_608 n

-- a kind that does not name the rate, or one of the numbers, wants it to be 0
abbrev pub no_rate : Order → Bool
no_rate o = o.rate == 0

abbrev pub no_first : Order → Bool
no_first o = o.first == 0

abbrev pub no_second : Order → Bool
no_second o = o.second == 0

-- from -limit to limit
abbrev pub within : ℕ → ℤ → Bool
within limit z = nat_le (unsigned_abs z) limit

abbrev pub is_zero : ℤ → Bool
is_zero z = unsigned_abs z == 0
