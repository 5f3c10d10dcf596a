-- What a set finds after one of its entries is put anew, or one is added.
use Rattle.std.proofs.Common.{◌≡◌, ℕ, zero, suc, ◌+◌, Bool, true, false, cond, eqb, List, [], ◌∷◌, ◌++◌, length, get_or, set, Some, None, Option, is_some, option_map, unwrap_or, refl, sym, ap, ◌∙◌, arith}
use Rattle.std.specs.List.{position_from}
use Rattle.std.proofs.lemmas.Bool.{true≢false, cond-true, cond-false, eq-eqb, ne_eqb}
use Rattle.table.specs.Sets.{find, slot}
use Rattle.table.specs.declared.entry.Entry.{Entry}

module _ {V : Type 0} where
  abbrev pub value_found : ℕ → List (Entry V) → Option V
  value_found i es = option_map (λ (e : Entry V). e.value) (find i es)

  value_found-cons : (i : ℕ) (x : Entry V) (xs : List (Entry V)) → value_found i (x ∷ xs) ≡ cond (eqb x.item i) (Some x.value) (value_found i xs)
  value_found-cons i x xs = by (eqb x.item i)
    where
      by : (b : Bool) → option_map (λ (e : Entry V). e.value) (cond b (Some x) (find i xs)) ≡ cond b (Some x.value) (value_found i xs)
      by true = refl
      by false = refl

  value_found-same : (i : ℕ) (x : Entry V) (xs : List (Entry V)) → x.item ≡ i → value_found i (x ∷ xs) ≡ Some x.value
  value_found-same i x xs e = value_found-cons i x xs ∙ cond-true _ _ _ (eq-eqb x.item i e)

  value_found-skip : (i : ℕ) (x : Entry V) (xs : List (Entry V)) → (x.item ≡ i → ⊥) → value_found i (x ∷ xs) ≡ value_found i xs
  value_found-skip i x xs e = value_found-cons i x xs ∙ cond-false _ _ _ (ne_eqb x.item i e)

  value_found-behind : (i : ℕ) (x : Entry V) (xs ys : List (Entry V)) → value_found i xs ≡ value_found i ys → value_found i (x ∷ xs) ≡ value_found i (x ∷ ys)
  value_found-behind i x xs ys e = value_found-cons i x xs ∙ ap (cond (eqb x.item i) (Some x.value)) e ∙ sym (value_found-cons i x ys)

  -- an entry like the one that was there
  pub value_found-like : (i : ℕ) (xs : List (Entry V)) (k : ℕ) (y d : Entry V) → y.item ≡ (get_or xs k d).item → y.value ≡ (get_or xs k d).value → value_found i (set xs k y) ≡ value_found i xs
  value_found-like i [] k y d a b = refl
  value_found-like i (x ∷ xs) zero y d a b = value_found-cons i y xs ∙ (λ j. cond (eqb (a j) i) (Some (b j)) (value_found i xs)) ∙ sym (value_found-cons i x xs)
  value_found-like i (x ∷ xs) (suc k) y d a b = value_found-behind i x (set xs k y) xs (value_found-like i xs k y d a b)

  -- another item does not see it
  pub value_found-other : (i j : ℕ) (xs : List (Entry V)) (k : ℕ) (y d : Entry V) → (get_or xs k d).item ≡ i → y.item ≡ i → (i ≡ j → ⊥) → value_found j (set xs k y) ≡ value_found j xs
  value_found-other i j [] k y d a b ne = refl
  value_found-other i j (x ∷ xs) zero y d a b ne = value_found-skip j y xs (λ e. ne (sym b ∙ e)) ∙ sym (value_found-skip j x xs (λ e. ne (sym a ∙ e)))
  value_found-other i j (x ∷ xs) (suc k) y d a b ne = value_found-behind j x (set xs k y) xs (value_found-other i j xs k y d a b ne)

  -- an entry behind the others
  pub value_found-last : (i : ℕ) (xs : List (Entry V)) (y : Entry V) → find i xs ≡ None → y.item ≡ i → value_found i (xs ++ y ∷ []) ≡ Some y.value
  value_found-last i [] y n e = value_found-same i y [] e
  value_found-last i (x ∷ xs) y n e = by (eqb x.item i) refl n (value_found-last i xs y)
    where
      by : (b : Bool) → eqb x.item i ≡ b → cond b (Some x) (find i xs) ≡ None → (find i xs ≡ None → y.item ≡ i → value_found i (xs ++ y ∷ []) ≡ Some y.value) → value_found i (x ∷ xs ++ y ∷ []) ≡ Some y.value
      by true q h k = absurd (true≢false (ap is_some h))
      by false q h k = value_found-cons i x (xs ++ y ∷ []) ∙ cond-false _ _ _ q ∙ k h e

  pub value_found-before : (j : ℕ) (xs : List (Entry V)) (y : Entry V) → (y.item ≡ j → ⊥) → value_found j (xs ++ y ∷ []) ≡ value_found j xs
  value_found-before j [] y ne = value_found-skip j y [] ne
  value_found-before j (x ∷ xs) y ne = value_found-behind j x (xs ++ y ∷ []) xs (value_found-before j xs y ne)

  set_place : (i n : ℕ) (xs : List (Entry V)) (y e : Entry V) → y.item ≡ i → find i xs ≡ Some e
      → (k : ℕ) × (position_from (λ x. eqb x.item i) n xs ≡ Some (n + k)) × (value_found i (set xs k y) ≡ Some y.value)
  set_place i n [] y e a h = absurd (true≢false (ap is_some (sym h)))
  set_place i n (x ∷ xs) y e a h = by (eqb x.item i) refl h (set_place i (n + 1) xs y e a)
    where
      by : (b : Bool) → eqb x.item i ≡ b → cond b (Some x) (find i xs) ≡ Some e
          → (find i xs ≡ Some e → (k : ℕ) × (position_from (λ x. eqb x.item i) (n + 1) xs ≡ Some (n + 1 + k)) × (value_found i (set xs k y) ≡ Some y.value))
          → (k : ℕ) × (cond b (Some n) (position_from (λ x. eqb x.item i) (n + 1) xs) ≡ Some (n + k)) × (value_found i (set (x ∷ xs) k y) ≡ Some y.value)
      by true q h k = (0, ap Some (omega arith), value_found-same i y xs a)
      by false q h k = let r = k h in (suc r.0, r.1 ∙ ap Some (omega arith), value_found-cons i x (set xs r.0 y) ∙ cond-false _ _ _ q ∙ r.2)

  -- the entry at the item's own place
  pub value_found-slot : (i : ℕ) (xs : List (Entry V)) (y e : Entry V) → y.item ≡ i → find i xs ≡ Some e → value_found i (set xs (slot i xs) y) ≡ Some y.value
  value_found-slot i xs y e a h =
      let r = set_place i 0 xs y e a h in
      let z : slot i xs ≡ r.0 = ap (λ o. unwrap_or o (length xs)) r.1 ∙ (omega arith) in
      rw z r.2
