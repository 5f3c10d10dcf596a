-- What is taken from a line from left to right: one number after another, each behind one space.
-- The functions that parse a line state this; that it comes to the calls of the grammar is proved for the whole line.
use Rattle.std.specs.Prelude.{ℕ, Bool, cond, not, ◌==◌, List, [], ◌∷◌, length, take, drop, Some, None, Option}
use Rattle.std.specs.Str.Parse.{digits_value}
use Rattle.std.specs.List.{prefix_len}
use Rattle.script.specs.Grammar.{is, is_digit, is_line_feed, is_width, words_of, numbers_of}

abbrev pub in_line : ℕ → Bool
in_line b = not (is_line_feed b)

-- the number of n digits in front of s, and what follows it
abbrev pub digits_first : ℕ → List ℕ → Option (ℕ × List ℕ)
digits_first n s = cond (is_width n) (Some (digits_value 10 (take n s), drop n s)) None

-- the number behind one space in front of s, and what follows it
abbrev pub number_first : List ℕ → Option (ℕ × List ℕ)
number_first [] = None
number_first (b ∷ s) = cond (is " " b) (digits_first (prefix_len is_digit s) s) None

-- the numbers behind a letter or a number: none, or a space and then words that are numbers
abbrev pub behind : List ℕ → Option (List ℕ)
behind [] = Some []
behind (b ∷ s) = cond (is " " b) (numbers_of (words_of s)) None

-- the numbers, where there are n of them
abbrev pub exactly : ℕ → Option (List ℕ) → Option (List ℕ)
exactly n None = None
exactly n (Some ns) = cond (length ns == n) (Some ns) None
