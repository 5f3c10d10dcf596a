-- How often commits wrote an item, and how often after a moment: a transaction was overtaken exactly if some entry of its read set
-- has another number than the item has now, provided that each entry's number is how often the item was written up to its read.
use Rattle.std.proofs.Common.{◌≡◌, ℕ, ◌+◌, ◌<◌, Bool, true, false, not, ◌&&◌, ◌||◌, eqb, ltb, List, [], ◌∷◌, inl, inr, refl, sym, ap, ◌∙◌, arith}
use Rattle.std.specs.List.{list_any}
use Rattle.std.proofs.lemmas.Bool.{false≢true, cond_both, cases_eq, eq-eqb, ne_eqb, lt-ltb, le-ltb}
use Rattle.table.specs.declared.entry.Entry.{Entry}
use Rattle.history.specs.History.{Commit, put_in}
use Rattle.history.specs.Invariants.{one}
use Rattle.history.specs.Notes.{BankRead}
use Rattle.history.specs.Reruns.{writes_item}
use Rattle.history.proofs.Putting.{AllBefore}

same_test : (a s w : ℕ) → a + s ≡ w → eqb s 0 ≡ eqb a w
same_test a s w h =
    elim (cases_eq s 0) [
      | inl z ↦ eq-eqb s 0 z ∙ sym (eq-eqb a w (omega (arith, h, z)))
      | inr n ↦ ne_eqb s 0 n ∙ sym (ne_eqb a w (λ e. n (omega (arith, h, e))))
    ]

one_and : (a w : Bool) → (w ≡ true → a ≡ true) → one (a && w) ≡ one w
one_and true w h = refl
one_and false true h = absurd (false≢true (h refl))
one_and false false h = refl

module _ {V : Type 0} where
  -- how many of the commits pass a test
  abbrev pub passing : (Commit V → Bool) → List (Commit V) → ℕ
  passing f [] = 0
  passing f (k ∷ ks) = one (f k) + passing f ks

  pub passing-put_in : (f : Commit V → Bool) (k : Commit V) (ks : List (Commit V)) → passing f (put_in k ks) ≡ one (f k) + passing f ks
  passing-put_in f k [] = refl
  passing-put_in f k (l ∷ ls) =
      cond_both (ltb l.moment k.moment) _ _ (λ (ms : List (Commit V)). passing f ms ≡ one (f k) + passing f (l ∷ ls))
      (λ e. refl)
      (λ e. let h : passing f (put_in k ls) ≡ one (f k) + passing f ls = passing-put_in f k ls in omega (arith, h))

  -- some commit passes exactly if their number is not 0
  pub any-passing : (f : Commit V → Bool) (ks : List (Commit V)) → list_any f ks ≡ not (eqb (passing f ks) 0)
  any-passing f [] = refl
  any-passing f (k ∷ ks) = by (f k) (any-passing f ks)
    where
      by : (b : Bool) → list_any f ks ≡ not (eqb (passing f ks) 0) → (b || list_any f ks) ≡ not (eqb (one b + passing f ks) 0)
      by true h = ap not (sym (ne_eqb (1 + passing f ks) 0 (λ e. omega (arith, e))))
      by false h = h ∙ ap (λ (n : ℕ). not (eqb n 0)) (omega arith)

  -- the commits that wrote the item, and those of them after a moment
  abbrev pub written : List (Commit V) → ℕ → ℕ
  written ks i = passing (λ k. writes_item k.script i) ks

  abbrev pub since : ℕ → List (Commit V) → ℕ → ℕ
  since m ks i = passing (λ k. ltb m k.moment && writes_item k.script i) ks

  pub since-none : (m : ℕ) (ks : List (Commit V)) (i : ℕ) → AllBefore m ks → since m ks i ≡ 0
  since-none m [] i a = refl
  since-none m (k ∷ ks) i a =
      ap (λ (b : Bool). one (b && writes_item k.script i) + since m ks i) (le-ltb m k.moment (omega (arith, a.0)))
      ∙ (let h : since m ks i ≡ 0 = since-none m ks i a.1 in omega (arith, h))

  -- reads from the bank and entries, both the latest first: an entry's number and how often its item was written since make up how often it was written
  abbrev pub Dated : List (Commit V) → List BankRead → List (Entry V) → Type 0
  Dated ks [] [] = Unit {0}
  Dated ks [] (e ∷ es) = ⊥
  Dated ks (b ∷ bs) [] = ⊥
  Dated ks (b ∷ bs) (e ∷ es) = (e.item ≡ b.item) × (e.sequence + since b.moment ks b.item ≡ written ks b.item) × Dated ks bs es

  abbrev pub outdated : List (Commit V) → Entry V → Bool
  outdated ks e = not (eqb e.sequence (written ks e.item))

  -- overtaken exactly if some entry is outdated
  pub overtaken-dated : (ks : List (Commit V)) (bs : List BankRead) (es : List (Entry V)) → Dated ks bs es
      → list_any (λ b. list_any (λ k. ltb b.moment k.moment && writes_item k.script b.item) ks) bs ≡ list_any (outdated ks) es
  overtaken-dated ks [] [] d = refl
  overtaken-dated ks [] (e ∷ es) d = absurd d
  overtaken-dated ks (b ∷ bs) [] d = absurd d
  overtaken-dated ks (b ∷ bs) (e ∷ es) d =
      let head : list_any (λ k. ltb b.moment k.moment && writes_item k.script b.item) ks ≡ outdated ks e =
      any-passing (λ k. ltb b.moment k.moment && writes_item k.script b.item) ks
      ∙ ap not (same_test e.sequence (since b.moment ks b.item) (written ks b.item) d.1)
      ∙ ap (λ (i : ℕ). not (eqb e.sequence (written ks i))) (sym d.0) in
      λ j. head j || overtaken-dated ks bs es d.2 j

  -- the reads came before the commit, where it wrote what they read
  abbrev pub Earlier : Commit V → List BankRead → Type 0
  Earlier k [] = Unit {0}
  Earlier k (b ∷ bs) = (writes_item k.script b.item ≡ true → b.moment < k.moment) × Earlier k bs

  -- so a commit leaves what is dated
  pub Dated-put_in : (k : Commit V) (ks : List (Commit V)) (bs : List BankRead) (es : List (Entry V)) → Earlier k bs → Dated ks bs es → Dated (put_in k ks) bs es
  Dated-put_in k ks [] [] c d = tt
  Dated-put_in k ks [] (e ∷ es) c d = absurd d
  Dated-put_in k ks (b ∷ bs) [] c d = absurd d
  Dated-put_in k ks (b ∷ bs) (e ∷ es) c d =
      let x : since b.moment (put_in k ks) b.item ≡ one (ltb b.moment k.moment && writes_item k.script b.item) + since b.moment ks b.item =
      passing-put_in (λ l. ltb b.moment l.moment && writes_item l.script b.item) k ks in
      let y : written (put_in k ks) b.item ≡ one (writes_item k.script b.item) + written ks b.item = passing-put_in (λ l. writes_item l.script b.item) k ks in
      let z : one (ltb b.moment k.moment && writes_item k.script b.item) ≡ one (writes_item k.script b.item) =
      one_and (ltb b.moment k.moment) (writes_item k.script b.item) (λ w. lt-ltb b.moment k.moment (c.0 w)) in
      (d.0, omega (arith, x, y, z, d.1), Dated-put_in k ks bs es c.1 d.2)
