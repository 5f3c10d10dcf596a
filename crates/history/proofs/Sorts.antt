-- What sort of a move it is for the current values: six sorts, of which only one changes them.
use Rattle.std.proofs.Common.{◌≡◌, ℕ, ◌+◌, Bool, true, false, ◌⊎◌, map, take, Some, None, Option, sym, refl, ap, ◌∙◌, inl, inr}
use Rattle.std.proofs.lemmas.Bool.{cases_eq, both_ways, cond-false}
use Rattle.bank.specs.Cells.{all_zero}
use Rattle.bank.specs.declared.lock.Lock.{Lock}
use Rattle.table.specs.Sets.{find, item_of}
use Rattle.table.specs.declared.entry.Entry.{Entry}
use Rattle.rows.specs.Places.{lock_of as made_lock}
use Rattle.rows.specs.Primitives.{still, relock, revalue}
use Rattle.rows.specs.declared.place.Place.TheVariants.{Closed, K, W}
use Rattle.process.specs.Moves.{keep, Move}
use Rattle.process.specs.Rows.{is_committed}
use Rattle.process.specs.declared.record.Status.TheVariants.{Committed}
use Rattle.store.specs.Model.{State, process, task_of, moved}
use Rattle.store.specs.Rows.{owned}
use Rattle.process.specs.Tells.{going}
use Rattle.history.specs.Invariants.{Formed, Here, Own, own, writes_in, lock_of, value_of, shown, committed_in, current}
use Rattle.history.proofs.Views.{upd_same, upd_other, after_lock, after_value, after_own, RealTouch, RealNote}
use Rattle.history.proofs.Counting.{mv}
use Rattle.history.proofs.Finding.{differ}
use Rattle.history.proofs.Current.{Fit, owner_other, owner_own, owner_was, lock_after, current_still, current_locked, current_freed, current_written, current_decided}

module _ {V : Type 0} (blank : V) (s : State V) (p : ℕ) (m : Move V) where
  abbrev pub StillCells : Type 0
  StillCells = ((i : ℕ) → after_lock (lock_of blank s) m.touch i ≡ lock_of blank s i) × ((i : ℕ) → after_value (value_of blank s) m.touch i ≡ value_of blank s i)

  -- what p has committed stays
  abbrev pub Same : Type 0
  Same = (i : ℕ) → committed_in (after_own (own s p) m) i ≡ committed_in (own s p) i

  pub data Sort : Type 0 where
    plain : StillCells → Same → Sort
    begun : StillCells → ((i : ℕ) → (lock_of blank s i).owner ≡ p → ⊥) → (process s.memory p).place ≡ Closed → Sort
    grabs : (i n : ℕ) → m.touch ≡ relock i (made_lock p n) → lock_of blank s i ≡ made_lock 0 n → is_committed (process s.memory p).status ≡ false → is_committed m.process.status ≡ false → Sort
    decides : (process s.memory p).place ≡ K → m ≡ mv blank s p going Committed (W 0) still keep → is_committed (process s.memory p).status ≡ false → all_zero blank s.cells (take 8 (map item_of (task_of blank s.memory p).writes)) ≡ true
        → ((i : ℕ) (x : Entry V) → find i (writes_in (own s p)) ≡ Some x → ((lock_of blank s i).owner ≡ p) × (x.sequence ≡ (lock_of blank s i).sequence + 1)) → Sort
    puts : (i : ℕ) (x : Entry V) → m.touch ≡ revalue i x.value → (lock_of blank s i).owner ≡ p → committed_in (own s p) i ≡ Some x → Same → Sort
    frees : (i n : ℕ) → m.touch ≡ relock i (made_lock 0 n) → (lock_of blank s i).owner ≡ p → shown (committed_in (own s p) i) (value_of blank s i) (lock_of blank s i).sequence ≡ record { value = value_of blank s i; number = n } → Same → Sort

  -- the entry of the item that the move commits
  abbrev pub commits : Sort → ℕ → Option (Entry V)
  commits (plain c k) j = None
  commits (begun c k w) j = None
  commits (grabs i n t l u w) j = None
  commits (decides a e u z k) j = find j (writes_in (own s p))
  commits (puts i x t o c k) j = None
  commits (frees i n t o c k) j = None

  -- whether it is a begin
  abbrev pub is_begun : Sort → Bool
  is_begun (plain c k) = false
  is_begun (begun c k w) = true
  is_begun (grabs i n t l u w) = false
  is_begun (decides a e u z k) = false
  is_begun (puts i x t o c k) = false
  is_begun (frees i n t o c k) = false

  pub not_committed : (o : Own V) (i : ℕ) → is_committed o.process.status ≡ false → committed_in o i ≡ None
  not_committed o i h = cond-false (is_committed o.process.status) (find i (writes_in o)) None h

  relock_other : (i j : ℕ) (l : Lock) → m.touch ≡ relock i l → (j ≡ i → ⊥) → after_lock (lock_of blank s) m.touch j ≡ lock_of blank s j
  relock_other i j l t d = rw t (upd_other (lock_of blank s) i j l d)

  relock_value : (i j : ℕ) (l : Lock) → m.touch ≡ relock i l → after_value (value_of blank s) m.touch j ≡ value_of blank s j
  relock_value i j l t = rw t refl

  -- what is committed of an item once K said yes
  decided_own : (i : ℕ) → m ≡ mv blank s p going Committed (W 0) still keep → committed_in (after_own (own s p) m) i ≡ find i (writes_in (own s p))
  decided_own i q = ap (λ n. committed_in (after_own (own s p) n) i) q

  decided_lock : (i : ℕ) → m ≡ mv blank s p going Committed (W 0) still keep → after_lock (lock_of blank s) m.touch i ≡ lock_of blank s i
  decided_lock i q = ap (λ (n : Move V). after_lock (lock_of blank s) n.touch i) q

  decided_value : (i : ℕ) → m ≡ mv blank s p going Committed (W 0) still keep → after_value (value_of blank s) m.touch i ≡ value_of blank s i
  decided_value i q = ap (λ (n : Move V). after_value (value_of blank s) n.touch i) q

  module _ (f : Formed s) (h : Here s p) (rt : RealTouch s.cells m.touch) (rn : RealNote m.note) (fit : Fit blank s) (fit' : Fit blank (moved blank s p m)) where
    -- where nothing is committed, the current value stays
    pub current_kept : (k : Sort) (i : ℕ) → commits k i ≡ None → current blank (moved blank s p m) i ≡ current blank s i
    current_kept (plain c k) i e = current_still blank s p m f h rt rn fit fit' i (c.0 i) (c.1 i) (λ _. k i)
    current_kept (begun c k w) i e = current_still blank s p m f h rt rn fit fit' i (c.0 i) (c.1 i) (λ o. absurd (k i o))
    current_kept (grabs j n t l u w) i e = elim (cases_eq i j) [
      | inl q ↦ rw q (current_locked blank s p m f h rt rn fit fit' j n t l w)
      | inr d ↦ current_still blank s p m f h rt rn fit fit' i (relock_other j i (made_lock p n) t d) (relock_value j i (made_lock p n) t) (λ _. not_committed (after_own (own s p) m) i w ∙ sym (not_committed (own s p) i u))
    ]
    current_kept (decides a q u z k) i e = current_still blank s p m f h rt rn fit fit' i (decided_lock i q) (decided_value i q) (λ _. decided_own i q ∙ e ∙ sym (not_committed (own s p) i u))
    current_kept (puts j x t o c k) i e = elim (cases_eq i j) [
      | inl q ↦ rw q (current_written blank s p m f h rt rn fit fit' j x (rw t refl) o c (k j ∙ c))
      | inr d ↦ current_still blank s p m f h rt rn fit fit' i (rw t refl) (rw t (upd_other (value_of blank s) j i x.value d)) (λ _. k i)
    ]
    current_kept (frees j n t o c k) i e = elim (cases_eq i j) [
      | inl q ↦ rw q (current_freed blank s p m f h rt rn fit fit' j n t o c)
      | inr d ↦ current_still blank s p m f h rt rn fit fit' i (relock_other j i (made_lock 0 n) t d) (relock_value j i (made_lock 0 n) t) (λ _. k i)
    ]

    -- and where it is, the value is that of the write set, and the number one more
    pub current_new : (k : Sort) (i : ℕ) (x : Entry V) → commits k i ≡ Some x → current blank (moved blank s p m) i ≡ record { value = x.value; number = (current blank s i).number + 1 }
    current_new (plain c k) i x e = differ e
    current_new (begun c k w) i x e = differ e
    current_new (grabs j n t l u w) i x e = differ e
    current_new (decides a q u z k) i x e =
        let w = k i x e in
        let was : (current blank s i).number ≡ (lock_of blank s i).sequence = ap (λ (o : Option (Entry V)). (shown o (value_of blank s i) (lock_of blank s i).sequence).number) (owner_was blank s p m f h rt rn fit fit' (lock_of blank s i).owner i w.0 ∙ not_committed (own s p) i u) in
        current_decided blank s p m f h rt rn fit fit' i x (decided_lock i q) w.0 (decided_own i q ∙ e) ∙ ap (λ n. record { value = x.value; number = n }) (w.1 ∙ ap (λ n. n + 1) (sym was))
    current_new (puts j y t o c k) i x e = differ e
    current_new (frees j n t o c k) i x e = differ e

    -- an item of which the owner has committed nothing stays so
    of_same : (i : ℕ) → after_lock (lock_of blank s) m.touch i ≡ lock_of blank s i → ((lock_of blank s i).owner ≡ p → committed_in (own s p) i ≡ None → committed_in (after_own (own s p) m) i ≡ None)
        → owned blank s.memory (lock_of blank s i).owner i ≡ None → owned blank (moved blank s p m).memory (lock_of blank (moved blank s p m) i).owner i ≡ None
    of_same i el k n =
        let l : lock_of blank (moved blank s p m) i ≡ lock_of blank s i = lock_after blank s p m f h rt rn fit fit' i ∙ el in
        let o = (lock_of blank s i).owner in
        let w : owned blank (moved blank s p m).memory o i ≡ None = elim (cases_eq o p) [ inl e ↦ owner_own blank s p m f h rt rn fit fit' o i e ∙ k e (sym (owner_was blank s p m f h rt rn fit fit' o i e) ∙ n) | inr d ↦ owner_other blank s p m f h rt rn fit fit' o i d ∙ n ] in
        ap (λ (x : Lock). owned blank (moved blank s p m).memory x.owner i) l ∙ w

    of_lock : (i : ℕ) (l : Lock) → after_lock (lock_of blank s) m.touch i ≡ l → owned blank (moved blank s p m).memory l.owner i ≡ None → owned blank (moved blank s p m).memory (lock_of blank (moved blank s p m) i).owner i ≡ None
    of_lock i l e n = ap (λ (x : Lock). owned blank (moved blank s p m).memory x.owner i) (lock_after blank s p m f h rt rn fit fit' i ∙ e) ∙ n

    pub bank_stays : (k : Sort) (i : ℕ) → commits k i ≡ None → owned blank s.memory (lock_of blank s i).owner i ≡ None → owned blank (moved blank s p m).memory (lock_of blank (moved blank s p m) i).owner i ≡ None
    bank_stays (plain c k) i e n = of_same i (c.0 i) (λ o n. k i ∙ n) n
    bank_stays (begun c k w) i e n = of_same i (c.0 i) (λ o n. absurd (k i o)) n
    bank_stays (grabs j a t l u w) i e n = elim (cases_eq i j) [
      | inl q ↦ of_lock i (made_lock p a) (rw (t, q) (upd_same (lock_of blank s) j (made_lock p a))) (owner_own blank s p m f h rt rn fit fit' p i refl ∙ not_committed (after_own (own s p) m) i w)
      | inr d ↦ of_same i (relock_other j i (made_lock p a) t d) (λ _ _. not_committed (after_own (own s p) m) i w) n
    ]
    bank_stays (decides a q u z k) i e n = of_same i (decided_lock i q) (λ _ _. decided_own i q ∙ e) n
    bank_stays (puts j x t o c k) i e n = of_same i (rw t refl) (λ o n. k i ∙ n) n
    bank_stays (frees j a t o c k) i e n = elim (cases_eq i j) [
      | inl q ↦ of_lock i (made_lock 0 a) (rw (t, q) (upd_same (lock_of blank s) j (made_lock 0 a))) refl
      | inr d ↦ of_same i (relock_other j i (made_lock 0 a) t d) (λ o n. k i ∙ n) n
    ]

    own_same : (k : Sort) → is_begun k ≡ false → (i : ℕ) → commits k i ≡ None → committed_in (after_own (own s p) m) i ≡ committed_in (own s p) i
    own_same (plain c k) b i e = k i
    own_same (begun c k w) b i e = absurd (both_ways true b refl)
    own_same (grabs j a t l u w) b i e = not_committed (after_own (own s p) m) i w ∙ sym (not_committed (own s p) i u)
    own_same (decides a q u z k) b i e = decided_own i q ∙ e ∙ sym (not_committed (own s p) i u)
    own_same (puts j x t o c k) b i e = k i
    own_same (frees j a t o c k) b i e = k i

    -- what a process has committed of an item stays, until it begins anew
    pub owner_stays : (k : Sort) (o i : ℕ) → ((o ≡ p → ⊥) ⊎ (is_begun k ≡ false)) → commits k i ≡ None → owned blank (moved blank s p m).memory o i ≡ owned blank s.memory o i
    owner_stays k o i b e = elim (cases_eq o p) [
      | inl q ↦ owner_own blank s p m f h rt rn fit fit' o i q ∙ (own_same k (elim b [ inl n ↦ absurd (n q) | inr x ↦ x ]) i e ∙ sym (owner_was blank s p m f h rt rn fit fit' o i q))
      | inr d ↦ owner_other blank s p m f h rt rn fit fit' o i d
    ]
