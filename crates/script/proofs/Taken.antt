-- One number more is taken from a line, and what is left.
use Rattle.std.proofs.Common.{◌≡◌, ℕ, ◌+◌, ◌-◌, ◌<◌, ◌≤◌, Bool, true, false, cond, ◌==◌, List, [], ◌∷◌, ◌++◌, length, take, slice_set, Some, None, Option, refl, ap, sym, ◌∙◌, arith, suc, ne_eqb, append-nil, append_assoc}
use Rattle.std.specs.List.{prefix_len}
use Rattle.std.specs.Bool.{then_some}
use Rattle.std.proofs.lemmas.List.{take_more_set, take_all}
use Rattle.std.proofs.lemmas.Option.{none-some}
use Rattle.std.proofs.lemmas.Bool.Decides.{nat_tests}
use Rattle.script.specs.Grammar.{is, is_digit, words_of, numbers_of, with_first, and_then}
use Rattle.script.specs.Walk.{number_first, digits_first, behind, exactly}
use Rattle.script.proofs.Words.{then_behind, numbers_first}

-- xs in front of numbers
abbrev pub after : List ℕ → Option (List ℕ) → Option (List ℕ)
after xs o = and_then o (λ ns. Some (xs ++ ns))

first_one : (s : List ℕ) (t : Bool) → cond t (numbers_of (words_of s)) None ≡ then_behind (cond t (digits_first (prefix_len is_digit s) s) None)
first_one s true = numbers_first s
first_one s false = refl

behind_first : (b : ℕ) (s : List ℕ) → behind (b ∷ s) ≡ then_behind (number_first (b ∷ s))
behind_first b s = first_one s (is " " b)

one_longer : (a n : ℕ) → (suc a == n + 1) ≡ (a == n)
one_longer a n = grind (arith, nat_tests)

not_zero : (a : ℕ) → (suc a == 0) ≡ false
not_zero a = ne_eqb _ _ (λ e. omega (arith, e))

one_by : (t : Bool) (v : ℕ) (ns : List ℕ) → cond t (Some (v ∷ ns)) None ≡ after (v ∷ []) (cond t (Some ns) None)
one_by true v ns = refl
one_by false v ns = refl

one_more : (n v : ℕ) (o : Option (List ℕ)) → exactly (n + 1) (with_first (Some v) o) ≡ after (v ∷ []) (exactly n o)
one_more n v None = refl
one_more n v (Some ns) = ap (λ t. cond t (Some (v ∷ ns)) None) (one_longer (length ns) n) ∙ one_by (length ns == n) v ns

some_left : (n v : ℕ) (s u : List ℕ) → number_first s ≡ Some (v, u) → exactly (n + 1) (behind s) ≡ after (v ∷ []) (exactly n (behind u))
some_left n v [] u e = absurd (none-some (v, u) e)
some_left n v (b ∷ s) u e = ap (exactly (n + 1)) (behind_first b s ∙ ap then_behind e) ∙ one_more n v (behind u)

none_left : (n : ℕ) (s : List ℕ) → number_first s ≡ None → exactly (n + 1) (behind s) ≡ None
none_left n [] e = ap (λ t. cond t (Some []) None) (ne_eqb 0 (n + 1) (λ k. omega (arith, k)))
none_left n (b ∷ s) e = ap (exactly (n + 1)) (behind_first b s ∙ ap then_behind e)

after_twice : (xs ys : List ℕ) (o : Option (List ℕ)) → after xs (after ys o) ≡ after (xs ++ ys) o
after_twice xs ys None = refl
after_twice xs ys (Some ns) = ap Some (sym (append_assoc xs ys ns))

one_enough : (o : Option (List ℕ)) (v : ℕ) → exactly 0 (with_first (Some v) o) ≡ None
one_enough None v = refl
one_enough (Some ns) v = ap (λ t. cond t (Some (v ∷ ns)) None) (not_zero (length ns))

never : (o : Option (ℕ × List ℕ)) → exactly 0 (then_behind o) ≡ None
never None = refl
never (Some p) = one_enough (behind p.1) p.0

no_more : (s : List ℕ) → exactly 0 (behind s) ≡ cond (length s == 0) (Some []) None
no_more [] = refl
no_more (b ∷ s) = ap (exactly 0) (behind_first b s) ∙ never (number_first (b ∷ s)) ∙ ap (λ t. cond t (Some []) None) (sym (not_zero (length s)))

module _ (n i : ℕ) (s : List ℕ) (o : Option (List ℕ)) (xs : List ℕ) where
  -- one of the numbers that are still to come
  pub taken : (u : List ℕ) (v : ℕ) → i < n → i < length xs → number_first s ≡ Some (v, u) → o ≡ after (take i xs) (exactly (n - i) (behind s)) → o ≡ after (take (i + 1) (slice_set xs i v)) (exactly (n - (i + 1)) (behind u))
  taken u v l m e h =
      let k : n - i ≡ (n - (i + 1)) + 1 = omega (arith, l) in
      h ∙ ap (λ j. after (take i xs) (exactly j (behind s))) k
      ∙ ap (after (take i xs)) (some_left (n - (i + 1)) v s u e)
      ∙ after_twice (take i xs) (v ∷ []) (exactly (n - (i + 1)) (behind u))
      ∙ ap (λ ys. after ys (exactly (n - (i + 1)) (behind u))) (sym (take_more_set xs i v m))

  -- where none comes that should
  pub not_taken : i < n → number_first s ≡ None → o ≡ after (take i xs) (exactly (n - i) (behind s)) → o ≡ None
  not_taken l e h =
      let k : n - i ≡ (n - (i + 1)) + 1 = omega (arith, l) in
      h ∙ ap (λ j. after (take i xs) (exactly j (behind s))) k ∙ ap (after (take i xs)) (none_left (n - (i + 1)) s e)

ended : (t : Bool) (xs : List ℕ) → then_some t xs ≡ after xs (cond t (Some []) None)
ended true xs = ap Some (sym (append-nil xs))
ended false xs = refl

-- where all are taken
pub all_taken : (n i : ℕ) (s : List ℕ) (o : Option (List ℕ)) (xs : List ℕ) → n ≤ i → length xs ≡ n → o ≡ after (take i xs) (exactly (n - i) (behind s)) → then_some (length s == 0) xs ≡ o
all_taken n i s o xs l m h =
    let k : n - i ≡ 0 = omega (arith, l) in
    ended (length s == 0) xs
    ∙ ap (λ ys. after ys (cond (length s == 0) (Some []) None)) (sym (take_all i xs (omega (arith, l, m))))
    ∙ ap (after (take i xs)) (sym (no_more s))
    ∙ ap (λ j. after (take i xs) (exactly j (behind s))) (sym k)
    ∙ sym h
