-- A refused call changes nothing: not the state, not what is noted, not the commits.
-- A row never tells a refusal, so a call tells one only where a ground held or a set was full.
use Rattle.std.proofs.Common.{◌≡◌, refl, sym, ap, ◌∙◌, ℕ, ◌+◌, Bool, true, false, cond, not, ◌&&◌, eqb, ltb, leb, List, ◌∷◌, Some, None, Option}
use Rattle.std.proofs.lemmas.Bool.{false≢true, cond-true, cond_both}
use Rattle.bank.specs.Limits.{set_size}
use Rattle.table.specs.Tasks.{Task, in_reads, in_writes, next_item}
use Rattle.table.specs.declared.entry.Entry.{Entry}
use Rattle.rows.specs.Primitives.{said}
use Rattle.rows.specs.declared.asking.Reply.{Reply}
use Rattle.rows.specs.declared.place.Place.{Place}
use Rattle.rows.specs.declared.place.Place.TheVariants.{Closed, Idle, R1, R2, R3, R4, R5, D1, D2, C, L1, L2, L3, L4, K, W, U, A1, A2, A3}
use Rattle.process.specs.Rows.{Turn, unlock_to, next_at}
use Rattle.process.specs.declared.record.Process.{Process}
use Rattle.store.specs.Calls.{called, unless, unless_full, begin_grounds, operation_grounds, step_grounds, first_ground, item_refusal, read_by, write_by, Reached, over}
use Rattle.store.specs.Model.{State, Outcome, process, task_of}
use Rattle.store.specs.declared.calling.Call.{Call}
use Rattle.store.specs.declared.calling.Call.TheVariants.{Begin, Read, Write, TryCommit, Abort, Step}
use Rattle.history.specs.Notes.{Notes, is_refused, caller}
use Rattle.history.specs.History.{history, has_committed, put_in, next_commit}

module _ {V : Type 0} (q : Process) (t : Task V) where
  abbrev Answers : Turn V → Type 0
  Answers u = is_refused u.tells ≡ false

  unlock_answers : (x : Option ℕ) → Answers (unlock_to q x)
  unlock_answers None = refl
  unlock_answers (Some i) = refl

  pub row_answers : (blank : V) (pl : Place) (e : Option (Entry V)) (r : Reply V) → Answers (next_at q t blank pl e r)
  row_answers b Closed e r = refl
  row_answers b Idle e r = refl
  row_answers b (R1 i) e r = refl
  row_answers b (R2 i m) e r = cond_both (said r) _ _ Answers (λ x. refl) (λ x. refl)
  row_answers b (R3 i) e r = refl
  row_answers b (R4 i l) e r = cond_both (eqb l.owner 0) _ _ Answers (λ x. refl) (λ x. refl)
  row_answers b (R5 i l) None r = refl
  row_answers b (R5 i l) (Some e) r = refl
  row_answers b (D1 k a) e r = refl
  row_answers b (D2 k m a) e r = cond_both (said r) _ _ Answers (λ x. refl) (λ x. refl)
  row_answers b C e r = refl
  row_answers b (L1 i) e r = refl
  row_answers b (L2 i l) e r = refl
  row_answers b (L3 i l) e r = refl
  row_answers b (L4 i n) e r = cond_both (said r) _ _ Answers (λ x. refl) (λ x. refl)
  row_answers b K e r = cond_both (said r) _ _ Answers (λ x. refl) (λ x. refl)
  row_answers b (W k) e r = cond_both (ltb (k + 1) t.sizes.writes) _ _ Answers (λ x. refl) (λ x. unlock_answers (next_item t 0))
  row_answers b (U i) e r = unlock_answers (next_item t (i + 1))
  row_answers b (A1 i z) e r = refl
  row_answers b (A2 i n z) e r = refl
  row_answers b (A3 z) e r = refl

module _ {V : Type 0} (blank : V) (s : State V) where
  -- where a refusal is told, the state is as before
  abbrev Untouched : Outcome V → Type 0
  Untouched o = is_refused o.tells ≡ true → o.after ≡ s

  untouched_unless : (r : Option ℕ) (o : Outcome V) → Untouched o → Untouched (unless r s o)
  untouched_unless None o h = h
  untouched_unless (Some n) o h = λ _. refl

  answered : (o : Outcome V) → is_refused o.tells ≡ false → Untouched o
  answered o h = λ t. absurd (false≢true (sym h ∙ t))

  abbrev Kept : Reached V → Type 0
  Kept r = Untouched (over s.cells r)

  untouched_full : (size : ℕ) (r : Reached V) → is_refused r.tells ≡ false → Kept (unless_full size s.memory r)
  untouched_full size r h = cond_both (leb set_size size) _ r Kept (λ _ _. refl) (λ _. answered (over s.cells r) h)

  untouched_read : (p i : ℕ) (w r : Option (Entry V)) → Kept (read_by blank s.memory p i w r)
  untouched_read p i (Some e) r = λ t. absurd (false≢true t)
  untouched_read p i None (Some e) = λ t. absurd (false≢true t)
  untouched_read p i None None = untouched_full (process s.memory p).sizes.reads _ refl

  untouched_write : (p i : ℕ) (v : V) (w : Option (Entry V)) → Kept (write_by blank s.memory p i v w)
  untouched_write p i v (Some e) = λ t. absurd (false≢true t)
  untouched_write p i v None = untouched_full (process s.memory p).sizes.writes _ refl

  pub after-called-refused : (c : Call V) → is_refused (called blank s c).tells ≡ true → (called blank s c).after ≡ s
  after-called-refused (Begin p) = untouched_unless (first_ground (begin_grounds s.memory p)) _ (λ t. absurd (false≢true t))
  after-called-refused (Read p i) = untouched_unless (item_refusal s p i) _ (untouched_read p i (in_writes (task_of blank s.memory p) i) (in_reads (task_of blank s.memory p) i))
  after-called-refused (Write p i v) = untouched_unless (item_refusal s p i) _ (untouched_write p i v (in_writes (task_of blank s.memory p) i))
  after-called-refused (TryCommit p) = untouched_unless (first_ground (operation_grounds s.memory p)) _ (λ t. absurd (false≢true t))
  after-called-refused (Abort p) = untouched_unless (first_ground (operation_grounds s.memory p)) _ (λ t. absurd (false≢true t))
  after-called-refused (Step p) = untouched_unless (first_ground (step_grounds s.memory p)) _ (answered _ (row_answers (process s.memory p) (task_of blank s.memory p) blank (process s.memory p).place _ _))

-- nobody commits anew where nothing changes
none_anew : {A : Type 0} (b : Bool) (x y : A) → cond (not b && b) x y ≡ y
none_anew true x y = refl
none_anew false x y = refl

module _ {V : Type 0} (blank : V) (start : State V) (c : Call V) (cs : List (Call V)) (r : is_refused (called blank (history blank start cs).state c).tells ≡ true) where
  pub state-history-refused : (history blank start (c ∷ cs)).state ≡ (history blank start cs).state
  state-history-refused = after-called-refused blank (history blank start cs).state c r

  pub notes-history-refused : (p : ℕ) → (history blank start (c ∷ cs)).notes p ≡ (history blank start cs).notes p
  notes-history-refused p = cond_both (eqb p (caller c)) _ _ (λ (n : Notes V). n ≡ (history blank start cs).notes p) (λ e. cond-true _ _ _ r) (λ e. refl)

  pub commits-history-refused : (history blank start (c ∷ cs)).commits ≡ (history blank start cs).commits
  commits-history-refused =
      ap
      (λ (t : State V). cond (not (has_committed (history blank start cs).state (caller c)) && has_committed t (caller c))
      (put_in (next_commit (history blank start cs) (caller c)) (history blank start cs).commits)
      (history blank start cs).commits)
      state-history-refused
      ∙ none_anew (has_committed (history blank start cs).state (caller c)) _ _
