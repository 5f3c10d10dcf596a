-- The numbers behind a letter make the call of the grammar.
use Rattle.std.proofs.Common.{◌≡◌, ℕ, Bool, true, false, true≢false, cond, ◌==◌, List, [], ◌∷◌, length, Some, None, Option, refl, ap, sym, arith, eqb-true}
use Rattle.std.proofs.lemmas.Option.{none-some, cond_some}
use Rattle.store.specs.declared.calling.Call.{Call}
use Rattle.script.specs.Grammar.{is, onto, words_of, numbers_of, and_then, one, two, three, form_of, filled, call_in, call_of}
use Rattle.script.specs.Walk.{behind, exactly}

-- what a list of numbers gives
abbrev Giving : Type 0
Giving = List ℕ → Option (Call ℕ)

some_of : (n : ℕ) (o : Option (List ℕ)) (ns : List ℕ) → exactly n o ≡ Some ns → o ≡ Some ns
some_of n None ns e = absurd (none-some ns e)
some_of n (Some ms) ns e = ap Some (cond_some (length ms == n) ms ns e).1

pub given : (n : ℕ) (o : Option (List ℕ)) (ns : List ℕ) (k : Giving) → exactly n o ≡ Some ns → and_then o k ≡ k ns
given n o ns k e = ap (λ q. and_then q k) (some_of n o ns e)

refused_by : (t : Bool) (ns : List ℕ) (k : Giving) → (t ≡ false → k ns ≡ None) → cond t (Some ns) None ≡ None → k ns ≡ None
refused_by true ns k h e = absurd (none-some ns (sym e))
refused_by false ns k h e = h refl

refused : (n : ℕ) (o : Option (List ℕ)) (k : Giving) → ((ns : List ℕ) → (length ns == n) ≡ false → k ns ≡ None) → exactly n o ≡ None → and_then o k ≡ None
refused n None k h e = refl
refused n (Some ns) k h e = refused_by (length ns == n) ns k (h ns) e

only_one : (f : ℕ → Call ℕ) (ns : List ℕ) → (length ns == 1) ≡ false → filled (one f) ns ≡ None
only_one f [] e = refl
only_one f (a ∷ []) e = absurd (true≢false e)
only_one f (a ∷ b ∷ ns) e = refl

only_two : (f : ℕ → ℕ → Call ℕ) (ns : List ℕ) → (length ns == 2) ≡ false → filled (two f) ns ≡ None
only_two f [] e = refl
only_two f (a ∷ []) e = refl
only_two f (a ∷ b ∷ []) e = absurd (true≢false e)
only_two f (a ∷ b ∷ c ∷ ns) e = refl

only_three : (f : ℕ → ℕ → ℕ → Call ℕ) (ns : List ℕ) → (length ns == 3) ≡ false → filled (three f) ns ≡ None
only_three f [] e = refl
only_three f (a ∷ []) e = refl
only_three f (a ∷ b ∷ []) e = refl
only_three f (a ∷ b ∷ c ∷ []) e = absurd (true≢false e)
only_three f (a ∷ b ∷ c ∷ d ∷ ns) e = refl

pub no_one : (f : ℕ → Call ℕ) (o : Option (List ℕ)) → exactly 1 o ≡ None → and_then o (filled (one f)) ≡ None
no_one f o = refused 1 o (filled (one f)) (only_one f)

pub no_two : (f : ℕ → ℕ → Call ℕ) (o : Option (List ℕ)) → exactly 2 o ≡ None → and_then o (filled (two f)) ≡ None
no_two f o = refused 2 o (filled (two f)) (only_two f)

pub no_three : (f : ℕ → ℕ → ℕ → Call ℕ) (o : Option (List ℕ)) → exactly 3 o ≡ None → and_then o (filled (three f)) ≡ None
no_three f o = refused 3 o (filled (three f)) (only_three f)

long_word : (b c : ℕ) (ws : List (List ℕ)) → call_in (onto b (onto c ws)) ≡ None
long_word b c [] = refl
long_word b c (w ∷ ws) = refl

letter_first : (b c : ℕ) (s : List ℕ) (t : Bool) → call_in (onto b (cond t ([] ∷ words_of s) (onto c (words_of s)))) ≡ and_then (cond t (numbers_of (words_of s)) None) (filled (form_of b))
letter_first b c s true = refl
letter_first b c s false = long_word b c (words_of s)

letter : (b : ℕ) (s : List ℕ) → call_in (onto b (words_of s)) ≡ and_then (behind s) (filled (form_of b))
letter b [] = refl
letter b (c ∷ s) = letter_first b c s (is " " c)

no_form : (o : Option (List ℕ)) → and_then o (filled (form_of 32)) ≡ None
no_form None = refl
no_form (Some ns) = refl

found : (b : ℕ) (s : List ℕ) (t : Bool) → is " " b ≡ t → call_in (cond t ([] ∷ words_of s) (onto b (words_of s))) ≡ and_then (behind s) (filled (form_of b))
found b s true e = rw (eqb-true b 32 e) (sym (no_form (behind s)))
found b s false e = letter b s

pub no_letter : (line : List ℕ) → length line ≡ 0 → call_of line ≡ None
no_letter [] e = refl
no_letter (b ∷ s) e = absurd (omega arith)

pub call_behind : (line s : List ℕ) (b letter : ℕ) → line ≡ b ∷ s → letter ≡ b → call_of line ≡ and_then (behind s) (filled (form_of letter))
call_behind line s b letter e l = rw (e, l) (found b s (is " " b) refl)
