-- The status by the place: committed at W and U, not committed at any other place of an open transaction.
-- It is set by K's yes, from which the way leads to W and U only, and by the last row. So a transaction commits at K's yes or at C.
use Rattle.std.proofs.Common.{◌≡◌, ℕ, ◌+◌, Bool, true, false, ◌⊎◌, eqb, ltb, Some, None, Option, inl, inr, refl}
use Rattle.std.proofs.lemmas.Bool.{false≢true, cond_both, both_ways}
use Rattle.bank.specs.declared.lock.Lock.{Lock}
use Rattle.table.specs.Tasks.{Task, in_reads, next_item, sequence_or}
use Rattle.table.specs.declared.entry.Entry.{Entry}
use Rattle.rows.specs.Places.{lock_to, abort_to, counted_out, count_from, compared_with, seen_to, released}
use Rattle.rows.specs.Primitives.{lock_in, said}
use Rattle.rows.specs.declared.asking.Reply.{Reply}
use Rattle.rows.specs.declared.place.Place.{Place}
use Rattle.rows.specs.declared.place.Place.TheVariants.{Closed, Idle, R1, R2, R3, R4, R5, D1, D2, C, L1, L2, L3, L4, K, W, U, A1, A2, A3}
use Rattle.process.specs.Rows.{Turn, unlock_to, next_at, is_committed}
use Rattle.process.specs.declared.record.Process.{Process}

abbrev pub Stated : Place → Bool → Type 0
Stated Closed b = Unit {0}
Stated (W k) b = b ≡ true
Stated (U i) b = b ≡ true
Stated pl b = b ≡ false

abbrev pub StatedOf : Process → Type 0
StatedOf q = Stated q.place (is_committed q.status)

module _ {V : Type 0} (blank : V) (q : Process) (t : Task V) where
  abbrev b : Bool
  b = is_committed q.status

  abbrev At : Place → Type 0
  At pl = Stated pl b

  abbrev Good : Turn V → Type 0
  Good x = StatedOf x.process

  abort_stated : (z x : Option ℕ) → b ≡ false → At (abort_to z x)
  abort_stated z None h = h
  abort_stated z (Some i) h = h

  lock_stated : (x : Option ℕ) → b ≡ false → At (lock_to x)
  lock_stated None h = h
  lock_stated (Some i) h = h

  out_stated : (a : Bool) → b ≡ false → At (counted_out t a)
  out_stated true h = abort_stated None (next_item t 0) h
  out_stated false h = cond_both (eqb t.sizes.writes 0) _ _ At (λ e. h) (λ e. lock_stated (next_item t 0) h)

  pub count_stated : (k : ℕ) (a : Bool) → b ≡ false → At (count_from t k a)
  count_stated k a h = cond_both (ltb k t.sizes.reads) _ _ At (λ e. h) (λ e. out_stated a h)

  compared_stated : (i n : ℕ) (x : Option (Entry V)) → b ≡ false → At (compared_with t i n x)
  compared_stated i n None h = h
  compared_stated i n (Some x) h = cond_both (eqb x.sequence n) _ _ At (λ e. h) (λ e. abort_stated (Some i) (next_item t 0) h)

  seen_stated : (i : ℕ) (l : Lock) → b ≡ false → At (seen_to t i l)
  seen_stated i l h = cond_both (eqb l.owner 0) _ _ At (λ e. compared_stated i l.sequence (in_reads t i) h) (λ e. h)

  released_stated : (i : ℕ) (l : Lock) (z : Option ℕ) → b ≡ false → At (released t i l z)
  released_stated i l z h = cond_both (eqb l.owner t.me) _ _ At (λ e. h) (λ e. abort_stated z (next_item t (i + 1)) h)

  unlock_stated : (x : Option ℕ) → b ≡ true → Good (unlock_to q x)
  unlock_stated None h = tt
  unlock_stated (Some i) h = h

  pub row_stated : (pl : Place) (e : Option (Entry V)) (r : Reply V) → At pl → Good (next_at q t blank pl e r)
  row_stated Closed e r h = tt
  row_stated Idle e r h = h
  row_stated (R1 i) e r h = h
  row_stated (R2 i m) e r h = cond_both (said r) _ _ Good (λ x. h) (λ x. h)
  row_stated (R3 i) e r h = h
  row_stated (R4 i l) e r h = cond_both (eqb l.owner 0) _ _ Good (λ x. h) (λ x. h)
  row_stated (R5 i l) None r h = h
  row_stated (R5 i l) (Some e) r h = h
  row_stated (D1 k a) e r h = h
  row_stated (D2 k m a) e r h = cond_both (said r) _ _ Good (λ x. count_stated (k + 1) a h) (λ x. h)
  row_stated C e r h = tt
  row_stated (L1 i) e r h = h
  row_stated (L2 i l) e r h = seen_stated i l h
  row_stated (L3 i l) e r h = compared_stated i (sequence_or l.sequence e) (in_reads t i) h
  row_stated (L4 i n) e r h = cond_both (said r) _ _ Good (λ x. lock_stated (next_item t (i + 1)) h) (λ x. h)
  row_stated K e r h = cond_both (said r) _ _ Good (λ x. refl) (λ x. h)
  row_stated (W k) e r h = cond_both (ltb (k + 1) t.sizes.writes) _ _ Good (λ x. h) (λ x. unlock_stated (next_item t 0) h)
  row_stated (U i) e r h = unlock_stated (next_item t (i + 1)) h
  row_stated (A1 i z) e r h = released_stated i (lock_in r) z h
  row_stated (A2 i n z) e r h = abort_stated z (next_item t (i + 1)) h
  row_stated (A3 z) e r h = tt

  -- where a row commits
  abbrev pub CommitsAt : Place → Reply V → Type 0
  CommitsAt pl r = ((pl ≡ K) × (said r ≡ true)) ⊎ (pl ≡ C)

  abbrev Commits : Place → Reply V → Turn V → Type 0
  Commits pl r x = b ≡ false → is_committed x.process.status ≡ true → CommitsAt pl r

  no : {A : Type 0} → b ≡ false → b ≡ true → A
  no h k = absurd (both_ways b h k)

  pub row_commits : (pl : Place) (e : Option (Entry V)) (r : Reply V) → At pl → Commits pl r (next_at q t blank pl e r)
  row_commits Closed e r h = no
  row_commits Idle e r h = no
  row_commits (R1 i) e r h = no
  row_commits (R2 i m) e r h = cond_both (said r) _ _ (Commits (R2 i m) r) (λ x. no) (λ x. no)
  row_commits (R3 i) e r h = no
  row_commits (R4 i l) e r h = cond_both (eqb l.owner 0) _ _ (Commits (R4 i l) r) (λ x. no) (λ x. no)
  row_commits (R5 i l) None r h = no
  row_commits (R5 i l) (Some e) r h = no
  row_commits (D1 k a) e r h = no
  row_commits (D2 k m a) e r h = cond_both (said r) _ _ (Commits (D2 k m a) r) (λ x. no) (λ x. no)
  row_commits C e r h = λ x y. inr refl
  row_commits (L1 i) e r h = no
  row_commits (L2 i l) e r h = no
  row_commits (L3 i l) e r h = no
  row_commits (L4 i n) e r h = cond_both (said r) _ _ (Commits (L4 i n) r) (λ x. no) (λ x. no)
  row_commits K e r h = cond_both (said r) _ _ (Commits K r) (λ x y z. inl (refl, x)) (λ x. no)
  row_commits (W k) e r h = λ x y. no x h
  row_commits (U i) e r h = λ x y. no x h
  row_commits (A1 i z) e r h = no
  row_commits (A2 i n z) e r h = no
  row_commits (A3 z) e r h = λ x y. absurd (false≢true y)
