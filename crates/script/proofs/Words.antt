-- The first word of a line that begins with digits, and the words after it.
use Rattle.std.proofs.Common.{◌≡◌, ℕ, ◌+◌, Bool, true, false, cond, ◌&&◌, List, [], ◌∷◌, ◌++◌, length, take, drop, Some, None, Option, sym, refl, ap, ◌∙◌, append_assoc, one-add, arith, length-take-le}
use Rattle.std.specs.Str.Parse.{digits_value}
use Rattle.std.specs.List.{prefix_len}
use Rattle.std.proofs.Math.Bool.{and_assoc, and-false}
use Rattle.std.proofs.lemmas.List.Sums.{prefix_len-le-length}
use Rattle.std.proofs.lemmas.Bool.Decides.{nat_tests}
use Rattle.script.specs.Grammar.{is, is_digit, is_width, all_digits, onto, words_of, numbers_of, with_first, and_then}
use Rattle.script.specs.Walk.{digits_first, behind}

-- d in front of the first word
abbrev front : List ℕ → List (List ℕ) → List (List ℕ)
front d [] = d ∷ []
front d (w ∷ ws) = (d ++ w) ∷ ws

front_onto : (d : List ℕ) (c : ℕ) (ws : List (List ℕ)) → front d (onto c ws) ≡ front (d ++ c ∷ []) ws
front_onto d c [] = refl
front_onto d c (w ∷ ws) = ap (λ v. v ∷ ws) (sym (append_assoc d (c ∷ []) w))

front_by : (b : ℕ) (ws : List (List ℕ)) (t : Bool) → front [] (cond t ([] ∷ ws) (onto b ws)) ≡ cond t ([] ∷ ws) (onto b ws)
front_by b ws true = refl
front_by b [] false = refl
front_by b (w ∷ ws) false = refl

front_none : (s : List ℕ) → front [] (words_of s) ≡ words_of s
front_none [] = refl
front_none (b ∷ s) = front_by b (words_of s) (is " " b)

no_space : (b : ℕ) → is_digit b ≡ true → is " " b ≡ false
no_space b e = grind (arith, nat_tests)

all_append : (d w : List ℕ) → all_digits (d ++ w) ≡ (all_digits d && all_digits w)
all_append [] w = refl
all_append (b ∷ d) w = rw (all_append d w) (sym (and_assoc (is_digit b) (all_digits d) (all_digits w)))

-- what a first number leaves
abbrev pub then_behind : Option (ℕ × List ℕ) → Option (List ℕ)
then_behind o = and_then o (λ p. with_first (Some p.0) (behind p.1))

-- a number of digits d, with u behind it
abbrev split_off : List ℕ → List ℕ → Option (ℕ × List ℕ)
split_off d u = cond (is_width (length d)) (Some (digits_value 10 d, u)) None

fitting : (t : Bool) (v : ℕ) (u : List ℕ) → with_first (cond t (Some v) None) (behind u) ≡ then_behind (cond t (Some (v, u)) None)
fitting true v u = refl
fitting false v u = refl

whole : (d u : List ℕ) (ws : List (List ℕ)) → all_digits d ≡ true → behind u ≡ numbers_of ws → numbers_of (d ∷ ws) ≡ then_behind (split_off d u)
whole d u ws all e = rw (all, sym e) (fitting (is_width (length d)) (digits_value 10 d) u)

nothing : (t : Bool) (v : ℕ) (u : List ℕ) → behind u ≡ None → then_behind (cond t (Some (v, u)) None) ≡ None
nothing true v u e = rw e refl
nothing false v u e = refl

spoilt : (d w : List ℕ) (ws : List (List ℕ)) (c : ℕ) → is_digit c ≡ false → numbers_of ((d ++ c ∷ w) ∷ ws) ≡ None
spoilt d w ws c e = rw (all_append d (c ∷ w), e, and-false (all_digits d)) refl

spoilt_by : (d : List ℕ) (ws : List (List ℕ)) (c : ℕ) → is_digit c ≡ false → numbers_of (front d (onto c ws)) ≡ None
spoilt_by d [] c e = spoilt d [] [] c e
spoilt_by d (w ∷ ws) c e = spoilt d w ws c e

beside : (d s : List ℕ) (c : ℕ) (t : Bool) → is " " c ≡ t → all_digits (d ++ []) ≡ true → is_digit c ≡ false → numbers_of (front d (cond t ([] ∷ words_of s) (onto c (words_of s)))) ≡ then_behind (split_off (d ++ []) (c ∷ s))
beside d s c true e all f = whole (d ++ []) (c ∷ s) (words_of s) all (rw e refl)
beside d s c false e all f = spoilt_by d (words_of s) c f ∙ sym (nothing (is_width (length (d ++ []))) (digits_value 10 (d ++ [])) (c ∷ s) (rw e refl))

-- d are the digits so far
abbrev Begins : List ℕ → List ℕ → ℕ → Type 0
Begins d s n = numbers_of (front d (words_of s)) ≡ then_behind (split_off (d ++ take n s) (drop n s))

one_further : (d s : List ℕ) (c : ℕ) (t : Bool) → is_digit c ≡ t → all_digits d ≡ true → (all_digits (d ++ c ∷ []) ≡ true → Begins (d ++ c ∷ []) s (prefix_len is_digit s)) → Begins d (c ∷ s) (cond t (1 + prefix_len is_digit s) 0)
one_further d s c true e all more =
    let longer : all_digits (d ++ c ∷ []) ≡ true = all_append d (c ∷ []) ∙ rw (all, e) refl in
    rw (one-add (prefix_len is_digit s), no_space c e)
    (ap numbers_of (front_onto d c (words_of s)) ∙ more longer ∙ ap (λ v. then_behind (split_off v (drop (prefix_len is_digit s) s))) (append_assoc d (c ∷ []) (take (prefix_len is_digit s) s)))
one_further d s c false e all more = beside d s c (is " " c) refl (all_append d [] ∙ rw all refl) e

begins : (d s : List ℕ) → all_digits d ≡ true → Begins d s (prefix_len is_digit s)
begins d [] all = whole (d ++ []) [] [] (all_append d [] ∙ rw all refl) refl
begins d (c ∷ s) all = one_further d s c (is_digit c) refl all (begins (d ++ c ∷ []) s)

-- the numbers of a text begin with its first digits
pub numbers_first : (s : List ℕ) → numbers_of (words_of s) ≡ then_behind (digits_first (prefix_len is_digit s) s)
numbers_first s =
    ap numbers_of (sym (front_none s))
    ∙ begins [] s refl
    ∙ rw (length-take-le (prefix_len is_digit s) s (prefix_len-le-length is_digit s)) refl
