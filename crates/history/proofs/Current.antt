-- The current value and number of an item: which moves change them, by the kind of the move.
use Rattle.std.proofs.Common.{◌≡◌, ℕ, ◌≤◌, Bool, true, false, cond, ◌||◌, eqb, ltb, Some, None, Option, sym, refl, ap, ◌∙◌, inl, inr, arith}
use Rattle.std.proofs.lemmas.Bool.{cases_eq, eqb-true, eqb-false, ltb-true, ltb-false}
use Rattle.bank.specs.declared.lock.Lock.{Lock}
use Rattle.table.specs.Sets.{find}
use Rattle.table.specs.Tasks.{task, in_writes}
use Rattle.table.specs.declared.entry.Entry.{Entry}
use Rattle.rows.specs.Places.{lock_of as made_lock}
use Rattle.rows.specs.Primitives.{relock}
use Rattle.process.specs.Moves.{Move}
use Rattle.process.specs.Rows.{is_committed}
use Rattle.process.specs.Traits.{fresh}
use Rattle.process.specs.declared.record.Process.{Process}
use Rattle.store.specs.Model.{State, process, moved}
use Rattle.store.specs.Rows.{owned}
use Rattle.history.specs.Invariants.{Formed, Here, Own, own, lock_of, value_of, shown, committed_in, current}
use Rattle.history.proofs.Views.{upd_same, after_lock, after_value, after_own, RealTouch, RealNote, locks_after, values_after, mine_after, others_after, writes_are}

module _ {V : Type 0} (blank : V) where
  -- what a process of this number has committed of the item, if there is one
  abbrev pub of_owner : State V → ℕ → ℕ → Option (Entry V)
  of_owner s w i = cond (eqb w 0 || ltb s.memory.number w) None (committed_in (own s w) i)

  abbrev pub Fit : State V → Type 0
  Fit s = (q : ℕ) → Here s q → (process s.memory q).sizes.writes ≤ 8

  pub owned_is : (s : State V) (w i : ℕ) → Fit s → owned blank s.memory w i ≡ of_owner s w i
  owned_is s w i fit = go (eqb w 0) (ltb s.memory.number w) refl refl
    where
      go : (a b : Bool) → eqb w 0 ≡ a → ltb s.memory.number w ≡ b
          → (let q : Process = cond (a || b) fresh (process s.memory w) in cond (is_committed q.status) (in_writes (task blank s.memory.entries w q.sizes) i) None) ≡ cond (a || b) None (committed_in (own s w) i)
      go true b ea eb = refl
      go false true ea eb = refl
      go false false ea eb = ap (λ es. cond (is_committed (process s.memory w).status) (find i es) None) (writes_are blank s w (process s.memory w).sizes.writes (fit w (record { low = (let k = eqb-false w 0 ea in omega arith); high = ltb-false s.memory.number w eb })))

  pub of_here : (s : State V) (w i : ℕ) → Here s w → of_owner s w i ≡ committed_in (own s w) i
  of_here s w i h = go (eqb w 0) (ltb s.memory.number w) refl refl
    where
      go : (a b : Bool) → eqb w 0 ≡ a → ltb s.memory.number w ≡ b → cond (a || b) None (committed_in (own s w) i) ≡ committed_in (own s w) i
      go true b ea eb = absurd (let k = eqb-true w 0 ea in let l = h.low in omega arith)
      go false true ea eb = absurd (let k = ltb-true s.memory.number w eb in let l = h.high in omega arith)
      go false false ea eb = refl

  module _ (s : State V) (p : ℕ) (m : Move V) (f : Formed s) (h : Here s p) (rt : RealTouch s.cells m.touch) (rn : RealNote m.note) (fit : Fit s) (fit' : Fit (moved blank s p m)) where
    pub owner_other : (o i : ℕ) → (o ≡ p → ⊥) → owned blank (moved blank s p m).memory o i ≡ owned blank s.memory o i
    owner_other o i d = owned_is (moved blank s p m) o i fit' ∙ go (eqb o 0) refl ∙ sym (owned_is s o i fit)
      where
        go : (a : Bool) → eqb o 0 ≡ a → cond (a || ltb s.memory.number o) None (committed_in (own (moved blank s p m) o) i) ≡ cond (a || ltb s.memory.number o) None (committed_in (own s o) i)
        go true e = refl
        go false e = ap (λ (x : Own V). cond (ltb s.memory.number o) None (committed_in x i)) (others_after blank s p o m h (let k = eqb-false o 0 e in omega arith) d rn)

    pub owner_own : (o i : ℕ) → o ≡ p → owned blank (moved blank s p m).memory o i ≡ committed_in (after_own (own s p) m) i
    owner_own o i e = owned_is (moved blank s p m) o i fit' ∙ of_here (moved blank s p m) o i (rw e (record { low = h.low; high = h.high })) ∙ ap (λ q. committed_in (own (moved blank s p m) q) i) e ∙ ap (λ (x : Own V). committed_in x i) (mine_after blank s p m f h rn)

    pub owner_was : (o i : ℕ) → o ≡ p → owned blank s.memory o i ≡ committed_in (own s p) i
    owner_was o i e = owned_is s o i fit ∙ of_here s o i (rw e h) ∙ ap (λ q. committed_in (own s q) i) e

    -- 1. the cell is as it was, and p, where it owns the item, has committed what it had
    pub current_still : (i : ℕ) → after_lock (lock_of blank s) m.touch i ≡ lock_of blank s i → after_value (value_of blank s) m.touch i ≡ value_of blank s i
        → ((lock_of blank s i).owner ≡ p → committed_in (after_own (own s p) m) i ≡ committed_in (own s p) i) → current blank (moved blank s p m) i ≡ current blank s i
    current_still i el ev k =
        let l : lock_of blank (moved blank s p m) i ≡ lock_of blank s i = locks_after blank s.cells m.touch rt i ∙ el in
        let v : value_of blank (moved blank s p m) i ≡ value_of blank s i = values_after blank s.cells m.touch rt i ∙ ev in
        let o = (lock_of blank s i).owner in
        let w : owned blank (moved blank s p m).memory o i ≡ owned blank s.memory o i = elim (cases_eq o p) [ inl e ↦ owner_own o i e ∙ (k e ∙ sym (owner_was o i e)) | inr d ↦ owner_other o i d ] in
        shows l v w
      where
        shows : (l : lock_of blank (moved blank s p m) i ≡ lock_of blank s i) → value_of blank (moved blank s p m) i ≡ value_of blank s i → owned blank (moved blank s p m).memory (lock_of blank s i).owner i ≡ owned blank s.memory (lock_of blank s i).owner i → current blank (moved blank s p m) i ≡ current blank s i
        shows l v w = ap (λ (x : Lock). shown (owned blank (moved blank s p m).memory x.owner i) (value_of blank (moved blank s p m) i) x.sequence) l ∙ (λ j. shown (w j) (v j) (lock_of blank s i).sequence)

    shown_lock : (i : ℕ) (l : Lock) (v : V) (e : Option (Entry V)) → lock_of blank (moved blank s p m) i ≡ l → value_of blank (moved blank s p m) i ≡ v → owned blank (moved blank s p m).memory l.owner i ≡ e → current blank (moved blank s p m) i ≡ shown e v l.sequence
    shown_lock i l v e a b c = ap (λ (x : Lock). shown (owned blank (moved blank s p m).memory x.owner i) (value_of blank (moved blank s p m) i) x.sequence) a ∙ (λ j. shown (c j) (b j) l.sequence)

    pub lock_after : (i : ℕ) → lock_of blank (moved blank s p m) i ≡ after_lock (lock_of blank s) m.touch i
    lock_after i = locks_after blank s.cells m.touch rt i

    pub value_after : (i : ℕ) → value_of blank (moved blank s p m) i ≡ after_value (value_of blank s) m.touch i
    value_after i = values_after blank s.cells m.touch rt i

    -- 2. p locks a free item, and has not committed
    pub current_locked : (i n : ℕ) → m.touch ≡ relock i (made_lock p n) → lock_of blank s i ≡ made_lock 0 n → is_committed m.process.status ≡ false → current blank (moved blank s p m) i ≡ current blank s i
    current_locked i n t w c =
        let l : lock_of blank (moved blank s p m) i ≡ made_lock p n = lock_after i ∙ (rw t (upd_same (lock_of blank s) i (made_lock p n))) in
        let v : value_of blank (moved blank s p m) i ≡ value_of blank s i = value_after i ∙ rw t refl in
        let u : owned blank (moved blank s p m).memory p i ≡ None = owner_own p i refl ∙ rw c refl in
        shown_lock i (made_lock p n) (value_of blank s i) None l v u ∙ sym (ap (λ (x : Lock). shown (owned blank s.memory x.owner i) (value_of blank s i) x.sequence) w)

    -- 3. p unlocks its item: the bank's value and the number written back were the current ones
    pub current_freed : (i n : ℕ) → m.touch ≡ relock i (made_lock 0 n) → (lock_of blank s i).owner ≡ p → shown (committed_in (own s p) i) (value_of blank s i) (lock_of blank s i).sequence ≡ record { value = value_of blank s i; number = n } → current blank (moved blank s p m) i ≡ current blank s i
    current_freed i n t o c =
        let l : lock_of blank (moved blank s p m) i ≡ made_lock 0 n = lock_after i ∙ (rw t (upd_same (lock_of blank s) i (made_lock 0 n))) in
        let v : value_of blank (moved blank s p m) i ≡ value_of blank s i = value_after i ∙ rw t refl in
        shown_lock i (made_lock 0 n) (value_of blank s i) None l v refl ∙ sym (ap (λ e. shown e (value_of blank s i) (lock_of blank s i).sequence) (owner_was (lock_of blank s i).owner i o) ∙ c)

    -- 4. the bank's value is written under the owner that has committed it
    pub current_written : (i : ℕ) (x : Entry V) → after_lock (lock_of blank s) m.touch i ≡ lock_of blank s i → (lock_of blank s i).owner ≡ p → committed_in (own s p) i ≡ Some x → committed_in (after_own (own s p) m) i ≡ Some x → current blank (moved blank s p m) i ≡ current blank s i
    current_written i x el o a b =
        let l : lock_of blank (moved blank s p m) i ≡ lock_of blank s i = lock_after i ∙ el in
        let u : owned blank (moved blank s p m).memory (lock_of blank s i).owner i ≡ Some x = owner_own (lock_of blank s i).owner i o ∙ b in
        let w : owned blank s.memory (lock_of blank s i).owner i ≡ Some x = owner_was (lock_of blank s i).owner i o ∙ a in
        shown_lock i (lock_of blank s i) (value_of blank (moved blank s p m) i) (Some x) l refl u ∙ sym (ap (λ e. shown e (value_of blank s i) (lock_of blank s i).sequence) w)

    -- 5. the commit: where p owns the item and writes it, its entry is current from now on
    pub current_decided : (i : ℕ) (x : Entry V) → after_lock (lock_of blank s) m.touch i ≡ lock_of blank s i → (lock_of blank s i).owner ≡ p → committed_in (after_own (own s p) m) i ≡ Some x → current blank (moved blank s p m) i ≡ record { value = x.value; number = x.sequence }
    current_decided i x el o b = shown_lock i (lock_of blank s i) (value_of blank (moved blank s p m) i) (Some x) (lock_after i ∙ el) refl (owner_own (lock_of blank s i).owner i o ∙ b)
