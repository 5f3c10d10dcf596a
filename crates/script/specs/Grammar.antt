-- The language of a script: its lines, and which line is which call.
-- A byte is a number here; a character stands quoted, for its byte.
use Rattle.std.specs.Prelude.{ℕ, Bool, true, cond, ◌&&◌, List, [], ◌∷◌, length, Some, None, Ok, Err, codes, Option, Result, ◌==◌, nat_le, slice_index}
use Prim.Native.String.{String}
use Rattle.std.specs.Str.Parse.{digits_value}
use Rattle.store.specs.declared.calling.Call.{Call}
use Rattle.store.specs.declared.calling.Call.TheVariants.{Begin, Read, Write, TryCommit, Abort, Step}
use Rattle.script.specs.declared.NotACall.{NotACall}

abbrev pub byte_of : String → ℕ
byte_of c = slice_index (codes c) 0

abbrev pub is : String → ℕ → Bool
is c b = b == byte_of c

abbrev pub is_line_feed : ℕ → Bool
is_line_feed b = b == 10

-- b in front of the first line or word
abbrev pub onto : ℕ → List (List ℕ) → List (List ℕ)
onto b [] = (b ∷ []) ∷ []
onto b (l ∷ ls) = (b ∷ l) ∷ ls

-- the lines of an input: a line ends at a line feed or at the input's end, where an empty rest is no line
abbrev pub lines_of : List ℕ → List (List ℕ)
lines_of [] = []
lines_of (b ∷ s) = cond (is_line_feed b) ([] ∷ lines_of s) (onto b (lines_of s))

-- the words of a line: what stands before, between and after its spaces, each of which may be empty
abbrev pub words_of : List ℕ → List (List ℕ)
words_of [] = [] ∷ []
words_of (b ∷ s) = cond (is " " b) ([] ∷ words_of s) (onto b (words_of s))

abbrev pub is_digit : ℕ → Bool
is_digit b = nat_le (byte_of "0") b && nat_le b (byte_of "9")

abbrev pub all_digits : List ℕ → Bool
all_digits [] = true
all_digits (b ∷ s) = is_digit b && all_digits s

-- how many digits a number may have
abbrev pub is_width : ℕ → Bool
is_width n = nat_le 1 n && nat_le n 9

-- the number that a word is: digits alone, and as many as there may be
abbrev pub number_of : List ℕ → Option ℕ
number_of w = cond (all_digits w && is_width (length w)) (Some (digits_value 10 w)) None

abbrev pub with_first : Option ℕ → Option (List ℕ) → Option (List ℕ)
with_first None ns = None
with_first (Some n) None = None
with_first (Some n) (Some ns) = Some (n ∷ ns)

-- the numbers that words are, where each of them is one
abbrev pub numbers_of : List (List ℕ) → Option (List ℕ)
numbers_of [] = Some []
numbers_of (w ∷ ws) = with_first (number_of w) (numbers_of ws)

-- what has to follow: whatever follows, it is no call; nothing, and then it is this call; or a number, and then what that leads to
pub data Form : Type 0 where
  no_call : Form
  whole : Call ℕ → Form
  number_then : (ℕ → Form) → Form

abbrev pub one : (ℕ → Call ℕ) → Form
one f = number_then (λ p. whole (f p))

abbrev pub two : (ℕ → ℕ → Call ℕ) → Form
two f = number_then (λ p. one (f p))

abbrev pub three : (ℕ → ℕ → ℕ → Call ℕ) → Form
three f = number_then (λ p. two (f p))

-- what has to follow a letter: a process p, then for a read and a write an item i, then for a write a count n
abbrev pub form_of : ℕ → Form
form_of b =
    cond (is "b" b) (one (λ p. Begin p))
    (cond (is "r" b) (two (λ p i. Read p i))
    (cond (is "w" b) (three (λ p i n. Write p i n))
    (cond (is "c" b) (one (λ p. TryCommit p))
    (cond (is "a" b) (one (λ p. Abort p))
    (cond (is "s" b) (one (λ p. Step p))
    no_call)))))

-- the call that exactly these numbers make of a form
abbrev pub filled : Form → List ℕ → Option (Call ℕ)
filled no_call ns = None
filled (whole x) [] = Some x
filled (whole x) (n ∷ ns) = None
filled (number_then f) [] = None
filled (number_then f) (n ∷ ns) = filled (f n) ns

abbrev pub and_then : {X Y : Type 0} → Option X → (X → Option Y) → Option Y
and_then None f = None
and_then (Some x) f = f x

-- the first word is one letter, and the others are its numbers
abbrev pub call_in : List (List ℕ) → Option (Call ℕ)
call_in [] = None
call_in ([] ∷ ws) = None
call_in ((b ∷ []) ∷ ws) = and_then (numbers_of ws) (filled (form_of b))
call_in ((b ∷ c ∷ w) ∷ ws) = None

-- the call that a line is, if it is one
abbrev pub call_of : List ℕ → Option (Call ℕ)
call_of line = call_in (words_of line)

-- the answer to whoever asks for the call
abbrev pub or_not_a_call : {X : Type 0} → Option X → Result X NotACall
or_not_a_call None = Err (record {})
or_not_a_call (Some x) = Ok x
