-- After its accepted try-commit a transaction is neither at rest nor reading, since no row leads back there: so its script and what it got stay as
-- they are until it begins anew. And on the way to commit a try-commit was accepted, since no other call leads there.
use Rattle.std.proofs.Common.{◌≡◌, ℕ, ◌+◌, Bool, true, false, eqb, ltb, Some, None, Option, is_some, refl, sym, ap, ◌∙◌, subst}
use Rattle.std.proofs.lemmas.Bool.{true≢false, cond_both, cond-false}
use Rattle.bank.specs.declared.lock.Lock.{Lock}
use Rattle.table.specs.Tasks.{Task, in_reads, next_item, sequence_or}
use Rattle.table.specs.declared.entry.Entry.{Entry}
use Rattle.rows.specs.Places.{lock_to, abort_to, counted_out, count_from, compared_with, seen_to, released}
use Rattle.rows.specs.Primitives.{lock_in, said}
use Rattle.rows.specs.declared.asking.Reply.{Reply}
use Rattle.rows.specs.declared.place.Place.{Place}
use Rattle.rows.specs.declared.place.Place.TheVariants.{Closed, Idle, R1, R2, R3, R4, R5, D1, D2, C, L1, L2, L3, L4, K, W, U, A1, A2, A3}
use Rattle.process.specs.Rows.{Turn, unlock_to, next_at}
use Rattle.process.specs.Tells.{Told, value, refused}
use Rattle.process.specs.declared.record.Process.{Process}
use Rattle.store.specs.Calls.{called, older}
use Rattle.store.specs.Model.{State, process, task_of}
use Rattle.store.specs.Rows.{row}
use Rattle.store.specs.declared.calling.Call.{Call}
use Rattle.store.specs.declared.calling.Call.TheVariants.{Begin, Read, Write, TryCommit, Abort, Step}
use Rattle.history.specs.Invariants.{Here, Own, Counts}
use Rattle.history.specs.Notes.{Notes, is_refused, value_told, caller, step_noted, call_noted}
use Rattle.history.proofs.Deeds.{Deeds, Ready, begin_move, start_move, write_move, by_deed}
use Rattle.history.proofs.Noting.{OfAll, After, stays, moves}
use Rattle.history.proofs.Refused.{row_answers}
use Rattle.history.proofs.StatusCalls.{real_rewrite, real_write, real_row}

-- neither at rest nor reading
abbrev pub Away : Place → Type 0
Away Idle = ⊥
Away (R1 i) = ⊥
Away (R2 i m) = ⊥
Away (R3 i) = ⊥
Away (R4 i l) = ⊥
Away (R5 i l) = ⊥
Away pl = Unit {0}

abort_away : (z x : Option ℕ) → Away (abort_to z x)
abort_away z None = tt
abort_away z (Some i) = tt

lock_away : (x : Option ℕ) → Away (lock_to x)
lock_away None = tt
lock_away (Some i) = tt

module _ {V : Type 0} (blank : V) (q : Process) (t : Task V) where
  -- it stays away, and no read ends
  abbrev Good : Turn V → Type 0
  Good x = Away x.process.place × (value_told x.tells ≡ None)

  out_away : (a : Bool) → Away (counted_out t a)
  out_away true = abort_away None (next_item t 0)
  out_away false = cond_both (eqb t.sizes.writes 0) _ _ Away (λ e. tt) (λ e. lock_away (next_item t 0))

  pub count_away : (k : ℕ) (a : Bool) → Away (count_from t k a)
  count_away k a = cond_both (ltb k t.sizes.reads) _ _ Away (λ e. tt) (λ e. out_away a)

  compared_away : (i n : ℕ) (x : Option (Entry V)) → Away (compared_with t i n x)
  compared_away i n None = tt
  compared_away i n (Some x) = cond_both (eqb x.sequence n) _ _ Away (λ e. tt) (λ e. abort_away (Some i) (next_item t 0))

  seen_away : (i : ℕ) (l : Lock) → Away (seen_to t i l)
  seen_away i l = cond_both (eqb l.owner 0) _ _ Away (λ e. compared_away i l.sequence (in_reads t i)) (λ e. tt)

  released_away : (i : ℕ) (l : Lock) (z : Option ℕ) → Away (released t i l z)
  released_away i l z = cond_both (eqb l.owner t.me) _ _ Away (λ e. tt) (λ e. abort_away z (next_item t (i + 1)))

  unlock_away : (x : Option ℕ) → Good (unlock_to q x)
  unlock_away None = (tt, refl)
  unlock_away (Some i) = (tt, refl)

  pub row_away : (pl : Place) (e : Option (Entry V)) (r : Reply V) → Away pl → Good (next_at q t blank pl e r)
  row_away Closed e r h = (tt, refl)
  row_away Idle e r h = absurd h
  row_away (R1 i) e r h = absurd h
  row_away (R2 i m) e r h = absurd h
  row_away (R3 i) e r h = absurd h
  row_away (R4 i l) e r h = absurd h
  row_away (R5 i l) e r h = absurd h
  row_away (D1 k a) e r h = (tt, refl)
  row_away (D2 k m a) e r h = cond_both (said r) _ _ Good (λ x. (count_away (k + 1) a, refl)) (λ x. (tt, refl))
  row_away C e r h = (tt, refl)
  row_away (L1 i) e r h = (tt, refl)
  row_away (L2 i l) e r h = (seen_away i l, refl)
  row_away (L3 i l) e r h = (compared_away i (sequence_or l.sequence e) (in_reads t i), refl)
  row_away (L4 i n) e r h = cond_both (said r) _ _ Good (λ x. (lock_away (next_item t (i + 1)), refl)) (λ x. (tt, refl))
  row_away K e r h = cond_both (said r) _ _ Good (λ x. (tt, refl)) (λ x. (tt, refl))
  row_away (W k) e r h = cond_both (ltb (k + 1) t.sizes.writes) _ _ Good (λ x. (tt, refl)) (λ x. unlock_away (next_item t 0))
  row_away (U i) e r h = unlock_away (next_item t (i + 1))
  row_away (A1 i z) e r h = (released_away i (lock_in r) z, refl)
  row_away (A2 i n z) e r h = (abort_away z (next_item t (i + 1)), refl)
  row_away (A3 z) e r h = (tt, refl)

module _ {V : Type 0} where
  abbrev pub TriedAway : Notes V → Own V → Type 0
  TriedAway n o = (k : ℕ) → n.tried ≡ Some k → Away o.process.place

  step_keeps : (m : ℕ) (r : Option V) (n : Notes V) → (step_noted m r n).tried ≡ n.tried
  step_keeps m None n = refl
  step_keeps m (Some v) n = refl

  -- a step changes no moment of a try-commit
  pub tried_step : (m p : ℕ) (x : Told V) (n : Notes V) → (call_noted m (Step p) x n).tried ≡ n.tried
  tried_step m p x n = cond_both (is_refused x) _ _ (λ (k : Notes V). k.tried ≡ n.tried) (λ e. refl) (λ e. step_keeps m (value_told x) n)

pub none_some : {A : Type 0} {k : ℕ} → ◌≡◌ {A = Option ℕ} None (Some k) → A
none_some e = absurd (true≢false (sym (ap is_some e)))

module _ {V : Type 0} (blank : V) (s : State V) (v : Counts blank s) (m : ℕ) (n : ℕ → Notes V) (f : OfAll TriedAway s n) where
  -- at rest no try-commit was accepted
  pub rest_untried : (p : ℕ) → Ready s p → (k : ℕ) → (n p).tried ≡ Some k → ⊥
  rest_untried p r k e = subst Away r.rests (f p r.at k e)

  -- after a try-commit a step notes nothing
  pub step_silent : (p : ℕ) → Here s p → (k : ℕ) → (n p).tried ≡ Some k → call_noted m (Step p) (row blank s p).tells (n p) ≡ n p
  step_silent p h k e =
      cond-false _ _ _ (row_answers (process s.memory p) (task_of blank s.memory p) blank (process s.memory p).place _ _)
      ∙ ap (λ (x : Option V). step_noted m x (n p)) (row_away blank (process s.memory p) (task_of blank s.memory p) (process s.memory p).place _ _ (f p h k e)).1

  tried_deeds : Deeds blank s (After blank TriedAway s m n)
  tried_deeds =
      record {
        refuses = λ c k. stays blank TriedAway s m n f c (refused k) (λ h. f (caller c) h);
        begins = λ p h a b l.
            moves blank TriedAway s m n f (Begin p) (older blank s) begin_move (λ q. refl) refl (record { sixteen = v.formed.sixteen; few = v.formed.few; long = v.formed.long }) h tt (λ k e. none_some e);
        finds_write = λ p i y r a b w. stays blank TriedAway s m n f (Read p i) (value y.value) (λ h. f p h);
        finds_read = λ p i y r a b w g. stays blank TriedAway s m n f (Read p i) (value y.value) (λ h. f p h);
        reads = λ p i r a b w g l. moves blank TriedAway s m n f (Read p i) s (start_move (process s.memory p) (R1 i)) (λ q. refl) refl v.formed r.at tt (λ k e. rest_untried p r k e);
        rewrites = λ p i x y r a b w.
            moves blank TriedAway s m n f (Write p i x) s (write_move (process s.memory p) (task_of blank s.memory p) i x _) (λ q. refl) refl v.formed r.at (real_rewrite blank s v p i y r w) (λ k e. absurd (rest_untried p r k e));
        writes = λ p i x r a b w g.
            moves blank TriedAway s m n f (Write p i x) s (write_move (process s.memory p) (task_of blank s.memory p) i x _) (λ q. refl) refl v.formed r.at (real_write blank s v p i r w g) (λ k e. absurd (rest_untried p r k e));
        tries = λ p r.
            moves blank TriedAway s m n f (TryCommit p) s (start_move (process s.memory p) (count_from (task_of blank s.memory p) 0 false)) (λ q. refl) refl v.formed r.at tt
            (λ k e. count_away blank (process s.memory p) (task_of blank s.memory p) 0 false);
        aborts = λ p r.
            moves blank TriedAway s m n f (Abort p) s (start_move (process s.memory p) (count_from (task_of blank s.memory p) 0 true)) (λ q. refl) refl v.formed r.at tt
            (λ k e. count_away blank (process s.memory p) (task_of blank s.memory p) 0 true);
        steps = λ p h u.
            moves blank TriedAway s m n f (Step p) s (row blank s p) (λ q. refl) refl v.formed h (real_row blank s v p h u)
            (λ k e. (row_away blank (process s.memory p) (task_of blank s.memory p) (process s.memory p).place _ _ (f p h k (sym (tried_step m p (row blank s p).tells (n p)) ∙ e))).0);
      }

  pub tried_call : (c : Call V) → After blank TriedAway s m n c (called blank s c)
  tried_call c = by_deed blank s (After blank TriedAway s m n) tried_deeds c

-- on the way to commit
abbrev pub Trying : Place → Type 0
Trying (D1 k a) = a ≡ false
Trying (D2 k m a) = a ≡ false
Trying C = Unit {0}
Trying (L1 i) = Unit {0}
Trying (L2 i l) = Unit {0}
Trying (L3 i l) = Unit {0}
Trying (L4 i n) = Unit {0}
Trying K = Unit {0}
Trying (W k) = Unit {0}
Trying (U i) = Unit {0}
Trying pl = ⊥

abort_trying : {A : Type 0} (z x : Option ℕ) → Trying (abort_to z x) → A
abort_trying z None h = absurd h
abort_trying z (Some i) h = absurd h

module _ {V : Type 0} (blank : V) (q : Process) (t : Task V) where
  -- the way to commit is gone from where it was gone before
  abbrev From : Place → Turn V → Type 0
  From pl x = Trying x.process.place → Trying pl

  out_trying : (a : Bool) → Trying (counted_out t a) → a ≡ false
  out_trying true = abort_trying None (next_item t 0)
  out_trying false = λ h. refl

  pub count_trying : (k : ℕ) (a : Bool) → Trying (count_from t k a) → a ≡ false
  count_trying k a = cond_both (ltb k t.sizes.reads) _ _ (λ (pl : Place). Trying pl → a ≡ false) (λ e h. h) (λ e. out_trying a)

  released_trying : (i : ℕ) (l : Lock) (z : Option ℕ) → Trying (released t i l z) → ⊥
  released_trying i l z = cond_both (eqb l.owner t.me) _ _ (λ (pl : Place). Trying pl → ⊥) (λ e h. h) (λ e. abort_trying z (next_item t (i + 1)))

  pub row_trying : (pl : Place) (e : Option (Entry V)) (r : Reply V) → From pl (next_at q t blank pl e r)
  row_trying Closed e r = λ h. h
  row_trying Idle e r = λ h. h
  row_trying (R1 i) e r = λ h. h
  row_trying (R2 i m) e r = cond_both (said r) _ _ (From (R2 i m)) (λ x h. h) (λ x h. h)
  row_trying (R3 i) e r = λ h. h
  row_trying (R4 i l) e r = cond_both (eqb l.owner 0) _ _ (From (R4 i l)) (λ x h. h) (λ x h. h)
  row_trying (R5 i l) None r = λ h. h
  row_trying (R5 i l) (Some e) r = λ h. h
  row_trying (D1 k a) e r = λ h. h
  row_trying (D2 k m a) e r = cond_both (said r) _ _ (From (D2 k m a)) (λ x. count_trying (k + 1) a) (λ x h. h)
  row_trying C e r = λ h. tt
  row_trying (L1 i) e r = λ h. tt
  row_trying (L2 i l) e r = λ h. tt
  row_trying (L3 i l) e r = λ h. tt
  row_trying (L4 i n) e r = λ h. tt
  row_trying K e r = λ h. tt
  row_trying (W k) e r = λ h. tt
  row_trying (U i) e r = λ h. tt
  row_trying (A1 i z) e r = λ h. released_trying i (lock_in r) z h
  row_trying (A2 i n z) e r = λ h. abort_trying z (next_item t (i + 1)) h
  row_trying (A3 z) e r = λ h. h

abbrev pub TryingTried : {V : Type 0} → Notes V → Own V → Type 0
TryingTried n o = Trying o.process.place → is_some n.tried ≡ true

module _ {V : Type 0} (blank : V) (s : State V) (v : Counts blank s) (m : ℕ) (n : ℕ → Notes V) (f : OfAll TryingTried s n) where
  rest_trying : {A : Type 0} (p : ℕ) → Ready s p → Trying (process s.memory p).place → A
  rest_trying p r h = absurd (subst Trying r.rests h)

  trying_deeds : Deeds blank s (After blank TryingTried s m n)
  trying_deeds =
      record {
        refuses = λ c k. stays blank TryingTried s m n f c (refused k) (λ h. f (caller c) h);
        begins = λ p h a b l.
            moves blank TryingTried s m n f (Begin p) (older blank s) begin_move (λ q. refl) refl (record { sixteen = v.formed.sixteen; few = v.formed.few; long = v.formed.long }) h tt (λ e. absurd e);
        finds_write = λ p i y r a b w. stays blank TryingTried s m n f (Read p i) (value y.value) (λ h. f p h);
        finds_read = λ p i y r a b w g. stays blank TryingTried s m n f (Read p i) (value y.value) (λ h. f p h);
        reads = λ p i r a b w g l. moves blank TryingTried s m n f (Read p i) s (start_move (process s.memory p) (R1 i)) (λ q. refl) refl v.formed r.at tt (λ e. absurd e);
        rewrites = λ p i x y r a b w.
            moves blank TryingTried s m n f (Write p i x) s (write_move (process s.memory p) (task_of blank s.memory p) i x _) (λ q. refl) refl v.formed r.at (real_rewrite blank s v p i y r w) (λ e. rest_trying p r e);
        writes = λ p i x r a b w g.
            moves blank TryingTried s m n f (Write p i x) s (write_move (process s.memory p) (task_of blank s.memory p) i x _) (λ q. refl) refl v.formed r.at (real_write blank s v p i r w g) (λ e. rest_trying p r e);
        tries = λ p r. moves blank TryingTried s m n f (TryCommit p) s (start_move (process s.memory p) (count_from (task_of blank s.memory p) 0 false)) (λ q. refl) refl v.formed r.at tt (λ e. refl);
        aborts = λ p r.
            moves blank TryingTried s m n f (Abort p) s (start_move (process s.memory p) (count_from (task_of blank s.memory p) 0 true)) (λ q. refl) refl v.formed r.at tt
            (λ e. absurd (true≢false (count_trying blank (process s.memory p) (task_of blank s.memory p) 0 true e)));
        steps = λ p h u.
            moves blank TryingTried s m n f (Step p) s (row blank s p) (λ q. refl) refl v.formed h (real_row blank s v p h u)
            (λ e. ap is_some (tried_step m p (row blank s p).tells (n p)) ∙ f p h (row_trying blank (process s.memory p) (task_of blank s.memory p) (process s.memory p).place _ _ e));
      }

  pub trying_call : (c : Call V) → After blank TryingTried s m n c (called blank s c)
  trying_call c = by_deed blank s (After blank TryingTried s m n) trying_deeds c
