-- Part b, first half: only an update transaction is ever forced to abort. The locks are asked for only once something was written, aborting
-- begins either at an accepted abort or at an item whose lock was asked for, and the write set does not shrink on the way.
use Rattle.std.proofs.Common.{◌≡◌, refl, sym, ap, ◌∙◌, subst, ℕ, zero, suc, ◌+◌, ◌-◌, ◌<◌, Bool, true, false, cond, not, ◌&&◌, eqb, ltb, List, [], ◌∷◌, get_or, set, Some, None, Option, inl, inr, arith, get_or-set_other}
use Rattle.std.proofs.lemmas.Bool.{true≢false, false≢true, cond_both, and_parts, not-true, cases_Bool, cases_eq, eq-eqb, ne_eqb, cond-true, cond-false}
use Rattle.bank.specs.declared.lock.Lock.{Lock}
use Rattle.table.specs.Tasks.{Task, task, in_reads, next_item, sequence_or}
use Rattle.table.specs.declared.entry.Entry.{Entry}
use Rattle.rows.specs.Places.{lock_to, abort_to, counted_out, count_from, compared_with, seen_to, released}
use Rattle.rows.specs.Primitives.{lock_in, said}
use Rattle.rows.specs.declared.asking.Reply.{Reply}
use Rattle.rows.specs.declared.place.Place.{Place}
use Rattle.rows.specs.declared.place.Place.TheVariants.{Closed, Idle, R1, R2, R3, R4, R5, D1, D2, C, L1, L2, L3, L4, K, W, U, A1, A2, A3}
use Rattle.process.specs.Moves.{Move}
use Rattle.process.specs.Tells.{Told, value, refused}
use Rattle.process.specs.Traits.{fresh}
use Rattle.process.specs.Rows.{Turn, unlock_to, next_at}
use Rattle.process.specs.declared.record.Process.{Process}
use Rattle.store.specs.Calls.{called, older, no_process}
use Rattle.store.specs.Model.{State, Outcome, process, task_of, accepted}
use Rattle.store.specs.Rows.{row}
use Rattle.store.specs.declared.calling.Call.{Call}
use Rattle.store.specs.declared.calling.Call.TheVariants.{Begin, Read, Write, TryCommit, Abort, Step}
use Rattle.history.specs.Invariants.{Here}
use Rattle.history.specs.Notes.{Notes, is_refused, value_told, caller, step_noted, call_noted}
use Rattle.history.specs.History.{history, is_aborting, is_forced, is_update, process_at}
use Rattle.history.proofs.CountCalls.{Fresh}
use Rattle.history.proofs.Deeds.{Deeds, Ready, begin_move, start_move, write_move, by_deed, here}

-- what a place tells of its transaction: whether it has written (u), and whether it chose to abort (ch); at C it is read-only, at K an update
abbrev pub Fine : Place → Bool → Bool → Type 0
Fine (D1 k a) u ch = a ≡ true → ch ≡ true
Fine (D2 k m a) u ch = a ≡ true → ch ≡ true
Fine (L1 i) u ch = u ≡ true
Fine (L2 i l) u ch = u ≡ true
Fine (L3 i l) u ch = u ≡ true
Fine (L4 i n) u ch = u ≡ true
Fine K u ch = u ≡ true
Fine (W k) u ch = u ≡ true
Fine (U i) u ch = u ≡ true
Fine C u ch = u ≡ false
Fine (A1 i z) u ch = ch ≡ false → u ≡ true
Fine (A2 i n z) u ch = ch ≡ false → u ≡ true
Fine (A3 z) u ch = ch ≡ false → u ≡ true
Fine pl u ch = Unit {0}

abbrev pub updates : Process → Bool
updates q = not (eqb q.sizes.writes 0)

abbrev pub FineOf : Bool → Process → Type 0
FineOf ch q = Fine q.place (updates q) ch

module _ {V : Type 0} (blank : V) (es : List (Entry V)) (p : ℕ) (q : Process) (ch : Bool) where
  abbrev t : Task V
  t = task blank es p q.sizes

  abbrev u : Bool
  u = updates q

  abbrev At : Place → Type 0
  At pl = Fine pl u ch

  abbrev Good : Turn V → Type 0
  Good x = FineOf ch x.process

  abort_fine : (z x : Option ℕ) → (ch ≡ false → u ≡ true) → At (abort_to z x)
  abort_fine z None h = h
  abort_fine z (Some i) h = h

  lock_fine : (x : Option ℕ) (b : Bool) → b ≡ true → Fine (lock_to x) b ch
  lock_fine None b h = h
  lock_fine (Some i) b h = h

  out_fine : (a : Bool) → (a ≡ true → ch ≡ true) → At (counted_out t a)
  out_fine true h = abort_fine None (next_item t 0) (λ e. absurd (true≢false (sym (h refl) ∙ e)))
  out_fine false h =
      elim (eqb q.sizes.writes 0) as (λ b. Fine (cond b C (lock_to (next_item t 0))) (not b) ch) [ true ↦ refl | false ↦ lock_fine (next_item t 0) true refl ]

  pub count_fine : (k : ℕ) (a : Bool) → (a ≡ true → ch ≡ true) → At (count_from t k a)
  count_fine k a h = cond_both (ltb k t.sizes.reads) _ _ At (λ e. h) (λ e. out_fine a h)

  compared_fine : (i n : ℕ) (x : Option (Entry V)) → u ≡ true → At (compared_with t i n x)
  compared_fine i n None h = h
  compared_fine i n (Some x) h = cond_both (eqb x.sequence n) _ _ At (λ e. h) (λ e. abort_fine (Some i) (next_item t 0) (λ _. h))

  seen_fine : (i : ℕ) (l : Lock) → u ≡ true → At (seen_to t i l)
  seen_fine i l h = cond_both (eqb l.owner 0) _ _ At (λ e. compared_fine i l.sequence (in_reads t i) h) (λ e. h)

  released_fine : (i : ℕ) (l : Lock) (z : Option ℕ) → (ch ≡ false → u ≡ true) → At (released t i l z)
  released_fine i l z h = cond_both (eqb l.owner p) _ _ At (λ e. h) (λ e. abort_fine z (next_item t (i + 1)) h)

  unlock_fine : (x : Option ℕ) → u ≡ true → Good (unlock_to q x)
  unlock_fine None h = tt
  unlock_fine (Some i) h = h

  pub row_fine : (pl : Place) (e : Option (Entry V)) (r : Reply V) → At pl → Good (next_at q t blank pl e r)
  row_fine Closed e r h = tt
  row_fine Idle e r h = tt
  row_fine (R1 i) e r h = tt
  row_fine (R2 i m) e r h = cond_both (said r) _ _ Good (λ x. tt) (λ x. tt)
  row_fine (R3 i) e r h = tt
  row_fine (R4 i l) e r h = cond_both (eqb l.owner 0) _ _ Good (λ x. tt) (λ x. tt)
  row_fine (R5 i l) None r h = tt
  row_fine (R5 i l) (Some e) r h = tt
  row_fine (D1 k a) e r h = h
  row_fine (D2 k m a) e r h = cond_both (said r) _ _ Good (λ x. count_fine (k + 1) a h) (λ x. h)
  row_fine C e r h = tt
  row_fine (L1 i) e r h = h
  row_fine (L2 i l) e r h = seen_fine i l h
  row_fine (L3 i l) e r h = compared_fine i (sequence_or l.sequence e) (in_reads t i) h
  row_fine (L4 i n) e r h = cond_both (said r) _ _ Good (λ x. lock_fine (next_item t (i + 1)) u h) (λ x. h)
  row_fine K e r h = cond_both (said r) _ _ Good (λ x. h) (λ x. h)
  row_fine (W k) e r h = cond_both (ltb (k + 1) t.sizes.writes) _ _ Good (λ x. h) (λ x. unlock_fine (next_item t 0) h)
  row_fine (U i) e r h = unlock_fine (next_item t (i + 1)) h
  row_fine (A1 i z) e r h = released_fine i (lock_in r) z h
  row_fine (A2 i n z) e r h = abort_fine z (next_item t (i + 1)) h
  row_fine (A3 z) e r h = tt

-- what stays in a changed list of processes
set_same : (P : Process → Type 0) (ps : List Process) (i : ℕ) (q : Process) → P fresh → P q → P (get_or (set ps i q) i fresh)
set_same P [] i q f h = f
set_same P (x ∷ ps) zero q f h = h
set_same P (x ∷ ps) (suc i) q f h = set_same P ps i q f h

module _ {V : Type 0} where
  -- a call but begin and abort changes no choice
  pub chose_step : (m : ℕ) (p : ℕ) (x : Told V) (n : Notes V) → (call_noted m (Step p) x n).chose_abort ≡ n.chose_abort
  chose_step m p x n = cond_both (is_refused x) _ _ (λ (k : Notes V). k.chose_abort ≡ n.chose_abort) (λ e. refl) (λ e. by (value_told x))
    where
      by : (v : Option V) → (step_noted m v n).chose_abort ≡ n.chose_abort
      by None = refl
      by (Some v) = refl

-- of each process of the store
abbrev pub AllFine : {V : Type 0} → State V → (ℕ → Notes V) → Type 0
AllFine s n = (p : ℕ) → Here s p → FineOf (n p).chose_abort (process s.memory p)

module _ {V : Type 0} (blank : V) (s : State V) (m : ℕ) (n : ℕ → Notes V) where
  abbrev After : Call V → Outcome V → Type 0
  After c o = AllFine o.after (λ p. cond (eqb p (caller c)) (call_noted m c o.tells (n p)) (n p))

  module _ (f : AllFine s n) where
    -- the move of the caller
    moves : (c : Call V) (r : State V) (mv : Move V) → r.memory.processes ≡ s.memory.processes → r.memory.number ≡ s.memory.number → Here s (caller c)
        → FineOf (call_noted m c mv.tells (n (caller c))).chose_abort mv.process → After c (accepted blank r (caller c) mv)
    moves c r mv ps num h g p there = elim (cases_eq p (caller c)) [ inl e ↦ subst (λ (x : ℕ). FineOf (noted x).chose_abort (found x)) (sym e) own | inr ne ↦ other ne ]
      where
        noted : ℕ → Notes V
        noted x = cond (eqb x (caller c)) (call_noted m c mv.tells (n x)) (n x)

        found : ℕ → Process
        found x = process (accepted blank r (caller c) mv).after.memory x

        own : FineOf (noted (caller c)).chose_abort (found (caller c))
        own =
            set_same (FineOf (noted (caller c)).chose_abort) r.memory.processes (caller c - 1) mv.process tt
            (subst (λ (x : Notes V). FineOf x.chose_abort mv.process) (sym (cond-true (eqb (caller c) (caller c)) _ _ (eq-eqb (caller c) (caller c) refl))) g)

        other : (p ≡ caller c → ⊥) → FineOf (noted p).chose_abort (found p)
        other ne =
            let l : 0 < caller c = h.low in
            let k : 0 < p = there.low in
            let a : p - 1 ≡ caller c - 1 → ⊥ = λ e. ne (omega (arith, e, l, k)) in
            let b : found p ≡ process s.memory p =
            get_or-set_other r.memory.processes (caller c - 1) (p - 1) mv.process fresh a ∙ ap (λ (xs : List Process). get_or xs (p - 1) fresh) ps in
            subst (λ (x : Notes V). FineOf x.chose_abort (found p)) (sym (cond-false (eqb p (caller c)) _ _ (ne_eqb p (caller c) ne)))
            (subst (FineOf (n p).chose_abort) (sym b) (f p (record { low = k; high = omega (arith, num, there.high) })))

    -- nobody moves
    stays : (c : Call V) (x : Told V) → (call_noted m c x (n (caller c))).chose_abort ≡ (n (caller c)).chose_abort → After c (record { tells = x; after = s })
    stays c x e p there =
        subst (λ (b : Bool). FineOf b (process s.memory p)) (sym (elim (cases_eq p (caller c)) [ inl same ↦ mine same | inr ne ↦ ap (λ (k : Notes V). k.chose_abort) (cond-false (eqb p (caller c)) _ _ (ne_eqb p (caller c) ne)) ])) (f p there)
      where
        mine : p ≡ caller c → (cond (eqb p (caller c)) (call_noted m c x (n p)) (n p)).chose_abort ≡ (n p).chose_abort
        mine same =
            subst (λ (k : ℕ). (cond (eqb k (caller c)) (call_noted m c x (n k)) (n k)).chose_abort ≡ (n k).chose_abort) (sym same)
            (ap (λ (k : Notes V). k.chose_abort) (cond-true (eqb (caller c) (caller c)) _ _ (eq-eqb (caller c) (caller c) refl)) ∙ e)

    -- an operation of a process at rest
    rests : (p : ℕ) (v b : Bool) → Ready s p → Fine (process s.memory p).place v b
    rests p v b r = subst (λ (pl : Place). Fine pl v b) (sym r.rests) tt

    fine_deeds : Deeds blank s After
    fine_deeds =
        record {
          refuses = λ c k. stays c (refused k) refl;
          begins = λ p h a b l. moves (Begin p) (older blank s) begin_move refl refl h tt;
          finds_write = λ p i e r a b w. stays (Read p i) (value e.value) refl;
          finds_read = λ p i e r a b w k. stays (Read p i) (value e.value) refl;
          reads = λ p i r a b w k l. moves (Read p i) s (start_move (process s.memory p) (R1 i)) refl refl r.at tt;
          rewrites = λ p i x e r a b w. moves (Write p i x) s (write_move (process s.memory p) (task_of blank s.memory p) i x _) refl refl r.at (rests p _ _ r);
          writes = λ p i x r a b w k. moves (Write p i x) s (write_move (process s.memory p) (task_of blank s.memory p) i x _) refl refl r.at (rests p _ _ r);
          tries = λ p r.
              moves (TryCommit p) s (start_move (process s.memory p) (count_from (task_of blank s.memory p) 0 false)) refl refl r.at
              (count_fine blank s.memory.entries p (process s.memory p) (n p).chose_abort 0 false (λ e. absurd (false≢true e)));
          aborts = λ p r.
              moves (Abort p) s (start_move (process s.memory p) (count_from (task_of blank s.memory p) 0 true)) refl refl r.at
              (count_fine blank s.memory.entries p (process s.memory p) true 0 true (λ e. refl));
          steps = λ p h u.
              moves (Step p) s (row blank s p) refl refl h
              (subst (λ (b : Bool). FineOf b (row blank s p).process) (sym (chose_step m p (row blank s p).tells (n p)))
              (row_fine blank s.memory.entries p (process s.memory p) (n p).chose_abort (process s.memory p).place _ _ (f p h)));
        }

    pub call_fine : (c : Call V) → After c (called blank s c)
    call_fine c = by_deed blank s After fine_deeds c

-- where aborting was not chosen something was written
aborts_updates : (pl : Place) (v b : Bool) → Fine pl v b → (is_aborting pl && not b) ≡ true → v ≡ true
aborts_updates pl v b h e = by pl (and_parts _ _ e).0 (not-true b (and_parts _ _ e).1) h
  where
    by : (pl : Place) → is_aborting pl ≡ true → b ≡ false → Fine pl v b → v ≡ true
    by (A1 i z) a c h = h c
    by (A2 i n z) a c h = h c
    by (A3 z) a c h = h c
    by x a c h = absurd (false≢true a)

module _ {V : Type 0} (blank : V) (start : State V) (started : Fresh blank start) where
  pub fine : (cs : List (Call V)) → AllFine (history blank start cs).state (history blank start cs).notes
  fine [] p h = subst (FineOf false) (sym (started.none p)) tt
  fine (c ∷ cs) p h = call_fine blank (history blank start cs).state ((history blank start cs).moment + 1) (history blank start cs).notes (fine cs) c p h

  pub forces_updates : (cs : List (Call V)) (p : ℕ) → is_forced (history blank start cs) p ≡ true → is_update (history blank start cs).state p ≡ true
  forces_updates cs p =
      elim (cases_Bool (no_process (history blank start cs).state.memory p)) [
        | inl e ↦ forced_at (cond-true _ _ _ e) tt
        | inr e ↦ forced_at (cond-false _ _ _ e) (fine cs p (here blank (history blank start cs).state p e))
      ]
    where
      forced_at : {q : Process} → process_at (history blank start cs).state p ≡ q → FineOf ((history blank start cs).notes p).chose_abort q
          → is_forced (history blank start cs) p ≡ true → is_update (history blank start cs).state p ≡ true
      forced_at e f t = aborts_updates _ _ _ (subst (FineOf ((history blank start cs).notes p).chose_abort) (sym e) f) t
