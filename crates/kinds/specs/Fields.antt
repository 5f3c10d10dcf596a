-- Words as bit fields: a field of a word, and a number that stands in one.
-- Bit 0 is the least significant.
use Rattle.std.specs.Prelude.{ℕ, suc, ◌-◌, ◌*◌, ◌/◌, ◌%◌, ◌^◌, cond, ℤ, pos, negsuc, nat_lt}

-- the `width` bits of a word from bit `low` on
abbrev pub field : ℕ → ℕ → ℕ → ℕ
field low width word = word / 2 ^ low % 2 ^ width

-- the word that has n from bit `low` on and zeros elsewhere
abbrev pub from_bit : ℕ → ℕ → ℕ
from_bit low n = n * 2 ^ low

-- a signed number in two's complement of `width` bits
abbrev pub twos : ℕ → ℤ → ℕ
twos width (pos n) = n
twos width (negsuc n) = 2 ^ width - suc n

-- the signed number that a field of `width` bits holds
abbrev pub of_twos : ℕ → ℕ → ℤ
of_twos width n = cond (nat_lt n (2 ^ (width - 1))) (pos n) (negsuc (2 ^ width - suc n))
