-- What is found in a set, and what an entry that is put into it changes of that.
use Rattle.std.proofs.Common.{◌≡◌, ℕ, zero, suc, ◌+◌, ◌<◌, ◌≤◌, Bool, true, false, cond, eqb, List, [], ◌∷◌, ◌++◌, length, get_or, take, set, Some, None, sym, refl, ap, subst, arith}
use Rattle.std.proofs.lemmas.Bool.{eq-eqb, ne_eqb, eqb-true}
use Rattle.table.specs.Sets.{find}
use Rattle.table.specs.declared.entry.Entry.{Entry}
use Rattle.history.specs.Invariants.{one, times}

module _ {V : Type 0} where
  pub differ : {A : Type 0} {x : Entry V} → None ≡ Some x → A
  differ e = let z : ◌≡◌ {A = ℕ} 0 1 = cc in absurd (omega arith)

  pub same_some : {x y : Entry V} → Some x ≡ Some y → x ≡ y
  same_some e = cc

  -- an entry of the set counts
  pub times_some : (i : ℕ) (es : List (Entry V)) (k : ℕ) (d : Entry V) → k < length es → (get_or es k d).item ≡ i → 0 < times i es
  times_some i [] k d h q = absurd (omega arith)
  times_some i (e ∷ es) zero d h q = let b : one (eqb e.item i) ≡ 1 = rw (eq-eqb e.item i q) in omega arith
  times_some i (e ∷ es) (suc k) d h q = let t = times_some i es k d (omega arith) q in omega arith

  pub times_take : (i n m : ℕ) (es : List (Entry V)) → n ≤ m → times i (take n es) ≤ times i (take m es)
  times_take i zero m es h = omega arith
  times_take i (suc n) zero es h = absurd (omega arith)
  times_take i (suc n) (suc m) [] h = omega arith
  times_take i (suc n) (suc m) (e ∷ es) h = let t = times_take i n m es (omega arith) in omega arith

  -- of distinct entries the one that has the item is found
  pub find_at : (i : ℕ) (es : List (Entry V)) (k : ℕ) (d : Entry V) → times i es ≤ 1 → k < length es → (get_or es k d).item ≡ i → find i es ≡ Some (get_or es k d)
  find_at i [] k d o h q = absurd (omega arith)
  find_at i (e ∷ es) zero d o h q = rw (eq-eqb e.item i q) refl
  find_at i (e ∷ es) (suc k) d o h q = go (eqb e.item i) refl o (λ c. find_at i es k d c (omega arith) q)
    where
      go : (b : Bool) → eqb e.item i ≡ b → one b + times i es ≤ 1 → (times i es ≤ 1 → find i es ≡ Some (get_or es k d)) → cond b (Some e) (find i es) ≡ Some (get_or es k d)
      go true t c f = absurd (let y = times_some i es k d (omega arith) q in omega arith)
      go false t c f = f (omega arith)

  -- an entry is put where the item's stands
  pub find_put : (i : ℕ) (es : List (Entry V)) (k : ℕ) (x d : Entry V) → times i es ≤ 1 → k < length es → (get_or es k d).item ≡ i → x.item ≡ i → find i (set es k x) ≡ Some x
  find_put i [] k x d o h q r = absurd (omega arith)
  find_put i (e ∷ es) zero x d o h q r = rw (eq-eqb x.item i r) refl
  find_put i (e ∷ es) (suc k) x d o h q r = go (eqb e.item i) refl o (λ c. find_put i es k x d c (omega arith) q r)
    where
      go : (b : Bool) → eqb e.item i ≡ b → one b + times i es ≤ 1 → (times i es ≤ 1 → find i (set es k x) ≡ Some x) → cond b (Some e) (find i (set es k x)) ≡ Some x
      go true t c f = absurd (let y = times_some i es k d (omega arith) q in omega arith)
      go false t c f = f (omega arith)

  -- the other items are found as before
  pub find_put_other : (j : ℕ) (es : List (Entry V)) (k : ℕ) (x d : Entry V) → ((get_or es k d).item ≡ j → ⊥) → (x.item ≡ j → ⊥) → find j (set es k x) ≡ find j es
  find_put_other j [] k x d p q = refl
  find_put_other j (e ∷ es) zero x d p q = rw (ne_eqb e.item j p, ne_eqb x.item j q) refl
  find_put_other j (e ∷ es) (suc k) x d p q = ap (λ o. cond (eqb e.item j) (Some e) o) (find_put_other j es k x d p q)

  -- an entry more, of another item
  pub find_push_other : (j : ℕ) (es : List (Entry V)) (x : Entry V) → (x.item ≡ j → ⊥) → find j (es ++ x ∷ []) ≡ find j es
  find_push_other j [] x q = rw (ne_eqb x.item j q) refl
  find_push_other j (e ∷ es) x q = ap (λ o. cond (eqb e.item j) (Some e) o) (find_push_other j es x q)

  -- or of an item that is not in the set
  pub find_push : (j : ℕ) (es : List (Entry V)) (x : Entry V) → find j es ≡ None → x.item ≡ j → find j (es ++ x ∷ []) ≡ Some x
  find_push j [] x h q = rw (eq-eqb x.item j q) refl
  find_push j (e ∷ es) x h q = go (eqb e.item j) h (λ k. find_push j es x k q)
    where
      go : (b : Bool) → cond b (Some e) (find j es) ≡ None → (find j es ≡ None → find j (es ++ x ∷ []) ≡ Some x) → cond b (Some e) (find j (es ++ x ∷ [])) ≡ Some x
      go true k f = differ (sym k)
      go false k f = f k

  -- where a found entry stands
  pub find_index : (i : ℕ) (es : List (Entry V)) (x d : Entry V) → find i es ≡ Some x → (k : ℕ) × (k < length es) × (get_or es k d ≡ x) × (x.item ≡ i)
  find_index i [] x d h = differ h
  find_index i (e ∷ es) x d h = go (eqb e.item i) refl h (find_index i es x d)
    where
      go : (b : Bool) → eqb e.item i ≡ b → cond b (Some e) (find i es) ≡ Some x → (find i es ≡ Some x → (k : ℕ) × (k < length es) × (get_or es k d ≡ x) × (x.item ≡ i)) → (k : ℕ) × (k < suc (length es)) × (get_or (e ∷ es) k d ≡ x) × (x.item ≡ i)
      go true t k f = let y : e ≡ x = same_some k in (0, omega arith, y, subst (λ (z : Entry V). z.item ≡ i) y (eqb-true e.item i t))
      go false t k f = let r = f k in (suc r.0, (let y = r.1 in omega arith), r.2, r.3)
