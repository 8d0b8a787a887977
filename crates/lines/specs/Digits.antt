-- The digits 0-9 and A-F, two for each byte.
use Rattle.std.specs.Prelude.{ℕ, ◌+◌, ◌-◌, ◌*◌, ◌/◌, ◌%◌, Bool, cond, ◌&&◌, List, [], ◌∷◌, is_some, Some, None, Option, nat_le, nat_lt}
use Rattle.std.specs.List.{flat_map}
use Rattle.std.specs.Option.{unwrap_or}

-- the character of a digit of value 0 to 15: 48 is 0 and 65 is A
abbrev pub digit_of : ℕ → ℕ
digit_of v = cond (nat_lt v 10) (48 + v) (55 + v)

-- the value of a character that is a digit
abbrev pub digit_value : ℕ → Option ℕ
digit_value c = cond (nat_le 48 c && nat_le c 57) (Some (c - 48)) (cond (nat_le 65 c && nat_le c 70) (Some (c - 55)) None)

abbrev pub is_digit : ℕ → Bool
is_digit c = is_some (digit_value c)

abbrev pub value_of : ℕ → ℕ
value_of c = unwrap_or (digit_value c) 0

-- the higher digit first
abbrev pub two_digits : ℕ → List ℕ
two_digits b = digit_of (b / 16) ∷ digit_of (b % 16) ∷ []

abbrev pub line_of : List ℕ → List ℕ
line_of = flat_map two_digits

-- the bytes whose digits stand two by two
abbrev pub bytes_in : List ℕ → List ℕ
bytes_in [] = []
bytes_in (c ∷ []) = []
bytes_in (c ∷ d ∷ cs) = (16 * value_of c + value_of d) ∷ bytes_in cs

-- how many characters are digits, from the front up to the first that is none
abbrev pub digits_end : List ℕ → ℕ
digits_end [] = 0
digits_end (c ∷ cs) = cond (is_digit c) (1 + digits_end cs) 0
