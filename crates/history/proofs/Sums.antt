-- Sums over the processes, and how many entries of a set have an item.
use Rattle.std.proofs.Common.{◌≡◌, ℕ, zero, suc, ◌+◌, ◌<◌, ◌≤◌, Bool, true, false, cond, eqb, List, [], ◌∷◌, ◌++◌, length, get_or, take, drop, set, Some, None, Option, sym, refl, ap, ◌∙◌, inl, inr, arith}
use Rattle.std.proofs.lemmas.Bool.{cases_eq, eq-eqb, ne_eqb, eqb-true}
use Rattle.std.proofs.lemmas.List.{take_more, take_more_set, drop_more}
use Rattle.std.specs.List.{position_from}
use Rattle.std.specs.Prelude.{unwrap_or}
use Rattle.table.specs.Sets.{find, slot, item_of}
use Rattle.table.specs.declared.entry.Entry.{Entry}
use Rattle.history.specs.Invariants.{total, one, times}
use Rattle.history.proofs.Views.{upd, upd_same, upd_other}

pub total_same : (f g : ℕ → ℕ) (n : ℕ) → ((q : ℕ) → 0 < q → q ≤ n → f q ≡ g q) → total f n ≡ total g n
total_same f g zero h = refl
total_same f g (suc n) h =
    let a : f (suc n) ≡ g (suc n) = h (suc n) (omega arith) (omega arith) in
    let b : total f n ≡ total g n = total_same f g n (λ q l k. h q l (omega arith)) in
    cc

-- two sums that differ in one summand
pub total_one : (f g : ℕ → ℕ) (p n : ℕ) → 0 < p → p ≤ n → ((q : ℕ) → 0 < q → (q ≡ p → ⊥) → f q ≡ g q) → total g n + f p ≡ total f n + g p
total_one f g p zero l k h = absurd (omega arith)
total_one f g p (suc n) l k h = elim (cases_eq p (suc n)) [ inl e ↦ at e | inr d ↦ past d (λ k. total_one f g p n l k h) ]
  where
    at : p ≡ suc n → total g (suc n) + f p ≡ total f (suc n) + g p
    at e =
        let b : total f n ≡ total g n = total_same f g n (λ q lq kq. h q lq (omega arith)) in
        rw e (omega arith)

    past : (p ≡ suc n → ⊥) → (p ≤ n → total g n + f p ≡ total f n + g p) → total g (suc n) + f p ≡ total f (suc n) + g p
    past d ih =
        let b : total g n + f p ≡ total f n + g p = ih (omega arith) in
        let a : f (suc n) ≡ g (suc n) = h (suc n) (omega arith) (λ e. d (sym e)) in
        omega arith

pub total_none : (f : ℕ → ℕ) (n : ℕ) → ((q : ℕ) → f q ≡ 0) → total f n ≡ 0
total_none f zero h = refl
total_none f (suc n) h = let a = h (suc n) in let b = total_none f n h in omega arith

-- with summands of at most 1 a sum is at most the number of processes
pub total_most : (f : ℕ → ℕ) (n : ℕ) → ((q : ℕ) → 0 < q → q ≤ n → f q ≤ 1) → total f n ≤ n
total_most f zero h = omega arith
total_most f (suc n) h = let a = h (suc n) (omega arith) (omega arith) in let b = total_most f n (λ q l k. h q l (omega arith)) in omega arith

-- a summand is at most the sum
pub total_part : (f : ℕ → ℕ) (n p : ℕ) → 0 < p → p ≤ n → f p ≤ total f n
total_part f zero p l k = absurd (omega arith)
total_part f (suc n) p l k = elim (cases_eq p (suc n)) [ inl e ↦ rw e (omega arith) | inr d ↦ let a = total_part f n p l (omega arith) in omega arith ]

pub up : (f : ℕ → ℕ) (j n i : ℕ) → n ≡ f j + 1 → upd f j n i ≡ f i + one (eqb j i)
up f j n i h = elim (cases_eq i j) [ inl e ↦ rw e (rw (upd_same f j n, eq-eqb j j refl) h) | inr d ↦ rw (upd_other f j i n d, ne_eqb j i (λ e. d (sym e))) (omega arith) ]

pub down : (f : ℕ → ℕ) (j n i : ℕ) → f j ≡ n + 1 → upd f j n i + one (eqb j i) ≡ f i
down f j n i h = elim (cases_eq i j) [ inl e ↦ rw e (rw (upd_same f j n, eq-eqb j j refl) (omega arith)) | inr d ↦ rw (upd_other f j i n d, ne_eqb j i (λ e. d (sym e))) (omega arith) ]

module _ {V : Type 0} where
  pub times_append : (i : ℕ) (xs ys : List (Entry V)) → times i (xs ++ ys) ≡ times i xs + times i ys
  times_append i [] ys = omega arith
  times_append i (x ∷ xs) ys = let a = times_append i xs ys in omega arith

  -- a set with one entry more
  pub times_more : (i : ℕ) (xs : List (Entry V)) (n : ℕ) (d : Entry V) → n < length xs → times i (take (n + 1) xs) ≡ times i (take n xs) + one (eqb (get_or xs n d).item i)
  times_more i xs n d h = ap (times i) (take_more xs n d h) ∙ times_append i (take n xs) (get_or xs n d ∷ []) ∙ (omega arith)

  pub times_put : (i : ℕ) (xs : List (Entry V)) (n : ℕ) (e : Entry V) → n < length xs → times i (take (n + 1) (set xs n e)) ≡ times i (take n xs) + one (eqb e.item i)
  times_put i xs n e h = ap (times i) (take_more_set xs n e h) ∙ times_append i (take n xs) (e ∷ []) ∙ (omega arith)

  -- the entries left behind the first
  pub times_rest : (i : ℕ) (xs : List (Entry V)) (k : ℕ) (d : Entry V) → k < length xs → times i (drop k xs) ≡ one (eqb (get_or xs k d).item i) + times i (drop (k + 1) xs)
  times_rest i xs k d h = ap (times i) (drop_more xs k d h)

  -- an entry of the same item
  pub times_like : (i : ℕ) (xs : List (Entry V)) (k : ℕ) (e d : Entry V) → e.item ≡ (get_or xs k d).item → times i (set xs k e) ≡ times i xs
  times_like i [] k e d h = refl
  times_like i (x ∷ xs) zero e d h = ap (λ a. one (eqb a i) + times i xs) h
  times_like i (x ∷ xs) (suc k) e d h = ap (λ a. one (eqb x.item i) + a) (times_like i xs k e d h)

  pub find_none : (i : ℕ) (xs : List (Entry V)) → find i xs ≡ None → times i xs ≡ 0
  find_none i [] h = refl
  find_none i (x ∷ xs) h = go (eqb x.item i) h (find_none i xs)
    where
      go : (b : Bool) → cond b (Some x) (find i xs) ≡ None → (find i xs ≡ None → times i xs ≡ 0) → one b + times i xs ≡ 0
      go true h k = let z : ◌≡◌ {A = ℕ} 0 1 = cc in absurd (omega arith)
      go false h k = let a = k h in omega arith

  pub find_item : (i : ℕ) (xs : List (Entry V)) (e : Entry V) → find i xs ≡ Some e → e.item ≡ i
  find_item i [] e h = let z : ◌≡◌ {A = ℕ} 0 1 = cc in absurd (omega arith)
  find_item i (x ∷ xs) e h = go (eqb x.item i) refl h (find_item i xs e)
    where
      go : (b : Bool) → eqb x.item i ≡ b → cond b (Some x) (find i xs) ≡ Some e → (find i xs ≡ Some e → e.item ≡ i) → e.item ≡ i
      go true q h k = let a : x ≡ e = cc in rw (← a) (eqb-true x.item i q)
      go false q h k = k h

  place_found : (i n : ℕ) (xs : List (Entry V)) (e d : Entry V) → find i xs ≡ Some e → (k : ℕ) × (k < length xs) × (position_from (λ x. eqb x.item i) n xs ≡ Some (n + k)) × (get_or xs k d ≡ e)
  place_found i n [] e d h = let z : ◌≡◌ {A = ℕ} 0 1 = cc in absurd (omega arith)
  place_found i n (x ∷ xs) e d h = go (eqb x.item i) h (place_found i (n + 1) xs e d)
    where
      go : (b : Bool) → cond b (Some x) (find i xs) ≡ Some e → (find i xs ≡ Some e → (k : ℕ) × (k < length xs) × (position_from (λ x. eqb x.item i) (n + 1) xs ≡ Some (n + 1 + k)) × (get_or xs k d ≡ e))
          → (k : ℕ) × (k < suc (length xs)) × (cond b (Some n) (position_from (λ x. eqb x.item i) (n + 1) xs) ≡ Some (n + k)) × (get_or (x ∷ xs) k d ≡ e)
      go true h k = let a : x ≡ e = cc in (0, omega arith, ap Some (omega arith), a)
      go false h k = let r = k h in (suc r.0, (let u = r.1 in omega arith), r.2 ∙ ap Some (omega arith), r.3)

  place_none : (i n : ℕ) (xs : List (Entry V)) → find i xs ≡ None → position_from (λ x. eqb x.item i) n xs ≡ None
  place_none i n [] h = refl
  place_none i n (x ∷ xs) h = go (eqb x.item i) h (place_none i (n + 1) xs)
    where
      go : (b : Bool) → cond b (Some x) (find i xs) ≡ None → (find i xs ≡ None → position_from (λ x. eqb x.item i) (n + 1) xs ≡ None) → cond b (Some n) (position_from (λ x. eqb x.item i) (n + 1) xs) ≡ None
      go true h k = let z : ◌≡◌ {A = ℕ} 0 1 = cc in absurd (omega arith)
      go false h k = k h

  -- an item that is found stands within the set
  pub slot_found : (i : ℕ) (xs : List (Entry V)) (e d : Entry V) → find i xs ≡ Some e → (slot i xs < length xs) × (get_or xs (slot i xs) d ≡ e)
  slot_found i xs e d h =
      let r = place_found i 0 xs e d h in
      let z : slot i xs ≡ r.0 = ap (λ o. unwrap_or o (length xs)) r.2 ∙ (omega arith) in
      rw z (r.1, r.3)

  -- and one that is not found belongs behind it
  pub slot_none : (i : ℕ) (xs : List (Entry V)) → find i xs ≡ None → slot i xs ≡ length xs
  slot_none i xs h = ap (λ o. unwrap_or o (length xs)) (place_none i 0 xs h)

  -- what stands where an item was looked for has the item, if it is of the set
  pub slot_item : (i : ℕ) (xs : List (Entry V)) (d : Entry V) → slot i xs < length xs → (get_or xs (slot i xs) d).item ≡ i
  slot_item i xs d h = go (find i xs) refl
    where
      go : (o : Option (Entry V)) → find i xs ≡ o → (get_or xs (slot i xs) d).item ≡ i
      go None e = absurd (let a = slot_none i xs e in omega arith)
      go (Some x) e = ap item_of (slot_found i xs x d e).1 ∙ find_item i xs x e
