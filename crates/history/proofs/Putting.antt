-- What one more commit does to the rerun. A commit with the latest moment is put in first; one that wrote nothing leaves what the rerun
-- holds wherever it is put in. So the whole rerun reads what was read if each commit, when it comes, fits the commits before its moment.
use Rattle.std.proofs.Common.{◌≡◌, refl, sym, ap, ◌∙◌, ℕ, ◌<◌, ◌≤◌, Bool, true, false, cond, ltb, List, [], ◌∷◌, map, None, Option, unwrap_or, arith}
use Rattle.std.proofs.lemmas.Bool.{cond_both, cond-true, lt-ltb, ltb-true, ltb-false}
use Rattle.history.specs.Reruns.{Script, reads, writes, last_write, view, alone, held_after, rerun}
use Rattle.history.specs.History.{Commit, put_in, scripts}

module _ {V : Type 0} where
  -- held values alike give views and reads alike
  pub view-ext : (h k : ℕ → V) → ((i : ℕ) → h i ≡ k i) → (s : Script V) (i : ℕ) → view h s i ≡ view k s i
  view-ext h k e s i = ap (unwrap_or (last_write s i)) (e i)

  pub alone-ext : (h k : ℕ → V) → ((i : ℕ) → h i ≡ k i) → (s : Script V) → alone h s ≡ alone k s
  alone-ext h k e [] = refl
  alone-ext h k e (reads i ∷ s) = λ d. view-ext h k e s i d ∷ alone-ext h k e s d
  alone-ext h k e (writes i v ∷ s) = alone-ext h k e s

  -- a script that wrote nothing
  abbrev pub IsReadOnly : Script V → Type 0
  IsReadOnly s = (i : ℕ) → last_write s i ≡ None

  pub view-read_only : (h : ℕ → V) (s : Script V) → IsReadOnly s → (i : ℕ) → view h s i ≡ h i
  view-read_only h s e i = ap (λ (o : Option V). unwrap_or o (h i)) (e i)

  -- the commits before a moment
  abbrev pub before : ℕ → List (Commit V) → List (Commit V)
  before m [] = []
  before m (l ∷ ls) = cond (ltb l.moment m) (l ∷ ls) (before m ls)

  abbrev pub AllBefore : ℕ → List (Commit V) → Type 0
  AllBefore m [] = Unit {0}
  AllBefore m (l ∷ ls) = (l.moment < m) × AllBefore m ls

  pub AllBefore-later : (m n : ℕ) (ks : List (Commit V)) → m ≤ n → AllBefore m ks → AllBefore n ks
  AllBefore-later m n [] e a = tt
  AllBefore-later m n (l ∷ ls) e a = (omega (arith, a.0, e), AllBefore-later m n ls e a.1)

  abbrev head_or : List V → List (List V) → List V
  head_or d [] = d
  head_or d (x ∷ xs) = x

  abbrev tail_of : List (List V) → List (List V)
  tail_of [] = []
  tail_of (x ∷ xs) = xs

  -- the rerun gives each commit what it got
  abbrev pub Fits : (ℕ → V) → List (Commit V) → Type 0
  Fits h ks = rerun h (scripts ks) ≡ map (λ k. k.got) ks

  module _ (h : ℕ → V) (k : Commit V) where
    -- the commit's script alone, after these commits, gives what it got
    abbrev pub FitsAfter : List (Commit V) → Type 0
    FitsAfter ks = alone (held_after h (scripts ks)) k.script ≡ k.got

    pub Fits-cons : (ks : List (Commit V)) → FitsAfter ks → Fits h ks → Fits h (k ∷ ks)
    Fits-cons ks p q = λ d. p d ∷ q d

    pub held_after-put_in : IsReadOnly k.script → (ks : List (Commit V)) (i : ℕ) → held_after h (scripts (put_in k ks)) i ≡ held_after h (scripts ks) i
    held_after-put_in ro [] i = view-read_only h k.script ro i
    held_after-put_in ro (l ∷ ls) i =
        cond_both (ltb l.moment k.moment) _ _ (λ (ms : List (Commit V)). held_after h (scripts ms) i ≡ held_after h (scripts (l ∷ ls)) i)
        (λ e. view-read_only (held_after h (scripts (l ∷ ls))) k.script ro i)
        (λ e. view-ext (held_after h (scripts (put_in k ls))) (held_after h (scripts ls)) (held_after-put_in ro ls) l.script i)

    pub Fits-put_in : IsReadOnly k.script → (ks : List (Commit V)) → Fits h ks → FitsAfter (before k.moment ks) → Fits h (put_in k ks)
    Fits-put_in ro [] f a = Fits-cons [] a refl
    Fits-put_in ro (l ∷ ls) f a =
        (elim (ltb l.moment k.moment) as (λ b. FitsAfter (cond b (l ∷ ls) (before k.moment ls)) → Fits h (cond b (k ∷ l ∷ ls) (l ∷ put_in k ls))) [
          | true ↦ λ x. Fits-cons (l ∷ ls) x f
          | false ↦ λ x d.
              (alone-ext (held_after h (scripts (put_in k ls))) (held_after h (scripts ls)) (held_after-put_in ro ls) l.script ∙ ap (head_or l.got) f) d
              ∷ Fits-put_in ro ls (ap tail_of f) x d
        ]) a

  module _ (k : Commit V) where
    -- a commit later than all others
    pub put_in-last : (ks : List (Commit V)) → AllBefore k.moment ks → put_in k ks ≡ k ∷ ks
    put_in-last [] a = refl
    put_in-last (l ∷ ls) a = cond-true (ltb l.moment k.moment) _ _ (lt-ltb l.moment k.moment a.0)

    pub AllBefore-put_in : (m : ℕ) (ks : List (Commit V)) → AllBefore m ks → k.moment < m → AllBefore m (put_in k ks)
    AllBefore-put_in m [] a lt = (lt, tt)
    AllBefore-put_in m (l ∷ ls) a lt = cond_both (ltb l.moment k.moment) _ _ (AllBefore m) (λ e. (lt, a)) (λ e. (a.0, AllBefore-put_in m ls a.1 lt))

  abbrev SameHeld : (ℕ → V) → ℕ → List (Commit V) → List (Commit V) → Type 0
  SameHeld h i xs ys = held_after h (scripts xs) i ≡ held_after h (scripts ys) i

  -- nor does one change what is held before a moment, if it wrote nothing or comes later
  pub held_before-put_in : (h : ℕ → V) (k : Commit V) (m : ℕ) → ((k.moment < m) → IsReadOnly k.script) → (ks : List (Commit V)) (i : ℕ)
      → held_after h (scripts (before m (put_in k ks))) i ≡ held_after h (scripts (before m ks)) i
  held_before-put_in h k m ro [] i =
      cond_both (ltb k.moment m) _ _ (λ (ms : List (Commit V)). held_after h (scripts ms) i ≡ h i) (λ e. view-read_only h k.script (ro (ltb-true k.moment m e)) i) (λ e. refl)
  held_before-put_in h k m ro (l ∷ ls) i =
      by (ltb l.moment k.moment) refl (held_before-put_in h k m ro ls i) (λ r. held_after-put_in h k r ls)
    where
      by : (b : Bool) → ltb l.moment k.moment ≡ b → SameHeld h i (before m (put_in k ls)) (before m ls) → (IsReadOnly k.script → (j : ℕ) → held_after h (scripts (put_in k ls)) j ≡ held_after h (scripts ls) j)
          → SameHeld h i (before m (cond b (k ∷ l ∷ ls) (l ∷ put_in k ls))) (before m (l ∷ ls))
      by true q ih same = cond_both (ltb k.moment m) _ _ (λ (ms : List (Commit V)). SameHeld h i ms (before m (l ∷ ls))) (λ e. earlier e) (λ e. refl)
        where
          earlier : ltb k.moment m ≡ true → SameHeld h i (k ∷ l ∷ ls) (before m (l ∷ ls))
          earlier e =
              let a : l.moment < k.moment = ltb-true l.moment k.moment q in
              let c : k.moment < m = ltb-true k.moment m e in
              view-read_only (held_after h (scripts (l ∷ ls))) k.script (ro c) i
              ∙ ap (λ (ms : List (Commit V)). held_after h (scripts ms) i) (sym (cond-true (ltb l.moment m) _ _ (lt-ltb l.moment m (omega (arith, a, c)))))
      by false q ih same = both (ltb l.moment m) refl
        where
          both : (d : Bool) → ltb l.moment m ≡ d → SameHeld h i (cond d (l ∷ put_in k ls) (before m (put_in k ls))) (cond d (l ∷ ls) (before m ls))
          both true e =
              let a : k.moment ≤ l.moment = ltb-false l.moment k.moment q in
              let c : l.moment < m = ltb-true l.moment m e in
              view-ext (held_after h (scripts (put_in k ls))) (held_after h (scripts ls)) (same (ro (omega (arith, a, c)))) l.script i
          both false e = ih

  -- all commits are before a moment that is later than all
  pub before-all : (m : ℕ) (ks : List (Commit V)) → AllBefore m ks → before m ks ≡ ks
  before-all m [] a = refl
  before-all m (l ∷ ls) a = cond-true (ltb l.moment m) _ _ (lt-ltb l.moment m a.0)
