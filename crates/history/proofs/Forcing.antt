-- A step that forces its transaction to abort met an entry of the read set that is older than its item is now: it compares an entry with
-- the number that it has seen, which is at least the entry's, and at most that of now.
use Rattle.std.proofs.Common.{◌≡◌, ℕ, ◌+◌, ◌<◌, ◌≤◌, Bool, true, false, not, ◌&&◌, eqb, ltb, Some, None, Option, refl, sym, ap, ◌∙◌, inl, inr, arith}
use Rattle.std.proofs.lemmas.Bool.{false≢true, both_ways, cond_both, and_parts, not-true, eqb-true, eqb-false, cases_lt}
use Rattle.bank.specs.declared.lock.Lock.{Lock}
use Rattle.table.specs.Sets.{find}
use Rattle.table.specs.Tasks.{Task, next_item, in_reads, sequence_or}
use Rattle.table.specs.declared.entry.Entry.{Entry}
use Rattle.rows.specs.Places.{lock_to, count_from, compared_with, seen_to}
use Rattle.rows.specs.Primitives.{said}
use Rattle.rows.specs.declared.asking.Reply.{Reply}
use Rattle.rows.specs.declared.place.Place.{Place}
use Rattle.rows.specs.declared.place.Place.TheVariants.{Closed, Idle, R1, R2, R3, R4, R5, D1, D2, C, L1, L2, L3, L4, K, W, U, A1, A2, A3}
use Rattle.process.specs.Moves.{Move}
use Rattle.process.specs.Rows.{Turn, unlock_to, next_at, settled}
use Rattle.process.specs.declared.record.Process.{Process}
use Rattle.store.specs.Calls.{older, called}
use Rattle.store.specs.Model.{State, Outcome, process, task_of, moved}
use Rattle.store.specs.Rows.{owned, recalled, row}
use Rattle.store.specs.declared.calling.Call.{Call}
use Rattle.history.specs.Ages.{Sight, seen, Seen, Ages}
use Rattle.history.specs.History.{is_aborting, process_at}
use Rattle.history.specs.Invariants.{Formed, Here, Own, own, reads_in, Counts}
use Rattle.history.specs.Notes.{Notes, caller, call_noted}
use Rattle.history.proofs.Deeds.{Deeds, Ready, begin_move, start_move, write_move, by_deed}
use Rattle.history.proofs.Forced.{Fine, AllFine, chose_step}
use Rattle.history.proofs.Standing.{process_at_here}
use Rattle.history.proofs.Stamps.{number}
use Rattle.history.proofs.StatusCalls.{real_rewrite, real_write, real_row}
use Rattle.history.proofs.Views.{RealNote, mine_after, reads_are}

module _ {V : Type 0} (blank : V) (s : State V) (p : ℕ) where
  abbrev q : Process
  q = process s.memory p

  abbrev t : Task V
  t = task_of blank s.memory p

  -- the read set has another number than was seen
  abbrev Met : ℕ → Lock → Type 0
  Met i l = (x : Entry V) × (in_reads t i ≡ Some x) × (x.sequence ≡ seen blank s i l → ⊥)

  abbrev pub Forcing : Place → Type 0
  Forcing (L2 i l) = Met i l
  Forcing (L3 i l) = Met i l
  Forcing pl = ⊥

  abbrev In : Place → Type 0
  In pl = is_aborting pl ≡ true

  abbrev No : Turn V → Type 0
  No x = In x.process.place → ⊥

  no : false ≡ true → ⊥
  no h = false≢true h

  lock_in_no : (x : Option ℕ) → In (lock_to x) → ⊥
  lock_in_no None = no
  lock_in_no (Some i) = no

  pub count_no : (k : ℕ) (a : Bool) → (a ≡ true → ⊥) → In (count_from t k a) → ⊥
  count_no k true h = absurd (h refl)
  count_no k false h =
      cond_both (ltb k t.sizes.reads) _ _ (λ x. In x → ⊥) (λ e. no)
      (λ e. cond_both (eqb t.sizes.writes 0) _ _ (λ x. In x → ⊥) (λ e. no) (λ e. lock_in_no (next_item t 0)))

  unlock_no : (x : Option ℕ) → No (unlock_to q x)
  unlock_no None = no
  unlock_no (Some i) = no

  compared_met : (i n : ℕ) (o : Option (Entry V)) → in_reads t i ≡ o → In (compared_with t i n o) → (x : Entry V) × (in_reads t i ≡ Some x) × (x.sequence ≡ n → ⊥)
  compared_met i n None f = λ h. absurd (no h)
  compared_met i n (Some x) f =
      cond_both (eqb x.sequence n) _ _ (λ y. In y → (x : Entry V) × (in_reads t i ≡ Some x) × (x.sequence ≡ n → ⊥))
      (λ e h. absurd (no h))
      (λ e h. (x, f, eqb-false x.sequence n e))

  seen_met : (i : ℕ) (l : Lock) → In (seen_to t i l) → Met i l
  seen_met i l =
      cond_both (eqb l.owner 0) _ _ (λ y. In y → Met i l)
      (λ e h.
      let r = compared_met i l.sequence (in_reads t i) refl h in
      let z : seen blank s i l ≡ l.sequence = ap (λ w. sequence_or l.sequence (owned blank s.memory w i)) (eqb-true l.owner 0 e) in
      (r.0, r.1, λ y. r.2 (y ∙ z)))
      (λ e h. absurd (no h))

  -- a place counts out for an abort only where one was chosen
  abbrev Unforced : Place → Type 0
  Unforced (D2 k m a) = a ≡ true → ⊥
  Unforced pl = Unit {0}

  row_forces : (pl : Place) (r : Reply V) → is_aborting pl ≡ false → Unforced pl → In (next_at q t blank pl (recalled blank s.memory pl) r).process.place → Forcing pl
  row_forces Closed r a u h = no h
  row_forces Idle r a u h = no h
  row_forces (R1 i) r a u h = no h
  row_forces (R2 i m) r a u h = cond_both (said r) _ _ No (λ x. no) (λ x. no) h
  row_forces (R3 i) r a u h = no h
  row_forces (R4 i l) r a u h = cond_both (eqb l.owner 0) _ _ No (λ x. no) (λ x. no) h
  row_forces (R5 i l) r a u h = settled_no (owned blank s.memory l.owner i) h
    where
      settled_no : (o : Option (Entry V)) → No (settled q t o)
      settled_no None = no
      settled_no (Some x) = no
  row_forces (D1 k z) r a u h = no h
  row_forces (D2 k m z) r a u h = cond_both (said r) _ _ No (λ x. count_no (k + 1) z u) (λ x. no) h
  row_forces C r a u h = no h
  row_forces (L1 i) r a u h = no h
  row_forces (L2 i l) r a u h = seen_met i l h
  row_forces (L3 i l) r a u h = compared_met i (seen blank s i l) (in_reads t i) refl h
  row_forces (L4 i n) r a u h = cond_both (said r) _ _ No (λ x. lock_in_no (next_item t (i + 1))) (λ x. no) h
  row_forces K r a u h = cond_both (said r) _ _ No (λ x. no) (λ x. no) h
  row_forces (W k) r a u h = cond_both (ltb (k + 1) t.sizes.writes) _ _ No (λ x. no) (λ x. unlock_no (next_item t 0)) h
  row_forces (U i) r a u h = unlock_no (next_item t (i + 1)) h
  row_forces (A1 i z) r a u h = no (sym a)
  row_forces (A2 i n z) r a u h = no (sym a)
  row_forces (A3 z) r a u h = no (sym a)

  -- some entry of the read set is older than its item is now
  abbrev pub Old : Type 0
  Old = (i : ℕ) × (x : Entry V) × (find i (reads_in (own s p)) ≡ Some x) × (x.sequence < number blank s i)

  met_old : (v : Counts blank s) → Here s p → (i : ℕ) (l : Lock) → Met i l → Seen blank s (reads_in (own s p)) i l → Old
  met_old v h i l f y =
      let g : find i (reads_in (own s p)) ≡ Some f.0 = ap (find i) (sym (reads_are blank s p q.sizes.reads (v.sane p h).reads)) ∙ f.1 in
      (i, f.0, g, less f.0.sequence (seen blank s i l) (y.entry f.0 g) f.2 y.now)
    where
      less : (a b : ℕ) → a ≤ b → (a ≡ b → ⊥) → b ≤ number blank s i → a < number blank s i
      less a b h d k = elim (cases_lt a b) [ inl u ↦ omega (arith, u, k) | inr u ↦ absurd (d (omega (arith, h, u))) ]

  forcing_old : (v : Counts blank s) → Here s p → (pl : Place) → Forcing pl → Sight (Seen blank s (reads_in (own s p))) pl → Old
  forcing_old v h (L2 i l) f y = met_old v h i l f y
  forcing_old v h (L3 i l) f y = met_old v h i l f y
  forcing_old v h pl f y = absurd f

module _ {V : Type 0} (blank : V) (s : State V) (v : Counts blank s) (ag : Ages blank s) (m : ℕ) (n : ℕ → Notes V) (fs : AllFine s n) where
  abbrev IsForced : State V → ℕ → Notes V → Bool
  IsForced r p k = is_aborting (process_at r p).place && not k.chose_abort

  abbrev pub Forces : Call V → Outcome V → Type 0
  Forces c o = IsForced s (caller c) (n (caller c)) ≡ false → IsForced o.after (caller c) (call_noted m c o.tells (n (caller c))) ≡ true → Old blank s (caller c)

  -- what the caller is after its move
  landed : (r : State V) (p : ℕ) (u : Move V) → Formed r → Here r p → RealNote u.note → process_at (moved blank r p u) p ≡ u.process
  landed r p u f h real = process_at_here blank (moved blank r p u) p (record { low = h.low; high = h.high }) ∙ ap (λ (o : Own V). o.process) (mine_after blank r p u f h real)

  elsewhere : {A : Type 0} (x : Place) (pl : Place) → x ≡ pl → is_aborting pl ≡ false → is_aborting x ≡ true → A
  elsewhere x pl e o a = absurd (both_ways _ o (ap is_aborting (sym e) ∙ a))

  rests_at : (p : ℕ) (r : Ready s p) → (process_at s p).place ≡ Idle
  rests_at p r = ap (λ (x : Process). x.place) (process_at_here blank s p r.at) ∙ r.rests

  moved_at : (p : ℕ) (u : Move V) → Here s p → RealNote u.note → (process_at (moved blank s p u) p).place ≡ u.process.place
  moved_at p u h real = ap (λ (x : Process). x.place) (landed s p u v.formed h real)

  tried_out : (p : ℕ) → is_aborting (count_from (task_of blank s.memory p) 0 false) ≡ false
  tried_out p = by (is_aborting (count_from (task_of blank s.memory p) 0 false)) refl
    where
      by : (b : Bool) → is_aborting (count_from (task_of blank s.memory p) 0 false) ≡ b → b ≡ false
      by true e = absurd (count_no blank s p 0 false (λ x. false≢true x) e)
      by false e = refl

  first_false : (x y : Bool) → (x && not y) ≡ false → y ≡ false → x ≡ false
  first_false true true h e = absurd (false≢true (sym e))
  first_false true false h e = absurd (false≢true (sym h))
  first_false false y h e = refl

  unforced : (p : ℕ) (pl : Place) (u ch : Bool) → Fine pl u ch → ch ≡ false → Unforced blank s p pl
  unforced p (D2 k j a) u ch f e = λ z. both_ways ch e (f z)
  unforced p pl u ch f e = tt

  forces_deeds : Deeds blank s Forces
  forces_deeds =
      record {
        refuses = λ c k b a. absurd (both_ways _ b a);
        begins = λ p h x w l b a. elsewhere _ Idle (ap (λ (x : Process). x.place) (landed (older blank s) p begin_move (record { sixteen = v.formed.sixteen; few = v.formed.few; long = v.formed.long }) (record { low = h.low; high = h.high }) tt)) refl (and_parts _ _ a).0;
        finds_write = λ p i x r c d w b a. elsewhere _ Idle (rests_at p r) refl (and_parts _ _ a).0;
        finds_read = λ p i x r c d w g b a. elsewhere _ Idle (rests_at p r) refl (and_parts _ _ a).0;
        reads = λ p i r c d w g l b a. elsewhere _ (R1 i) (moved_at p (start_move (process s.memory p) (R1 i)) r.at tt) refl (and_parts _ _ a).0;
        rewrites = λ p i x e r c d w b a.
            elsewhere _ Idle (moved_at p (write_move (process s.memory p) (task_of blank s.memory p) i x (process s.memory p).sizes.writes) r.at (real_rewrite blank s v p i e r w) ∙ r.rests) refl (and_parts _ _ a).0;
        writes = λ p i x r c d w k b a.
            elsewhere _ Idle (moved_at p (write_move (process s.memory p) (task_of blank s.memory p) i x ((process s.memory p).sizes.writes + 1)) r.at (real_write blank s v p i r w k) ∙ r.rests) refl (and_parts _ _ a).0;
        tries = λ p r b a. elsewhere _ _ (moved_at p (start_move (process s.memory p) (count_from (task_of blank s.memory p) 0 false)) r.at tt) (tried_out p) (and_parts _ _ a).0;
        aborts = λ p r b a. absurd (false≢true (and_parts _ _ a).1);
        steps = λ p h u b a.
            let c : (n p).chose_abort ≡ false = sym (chose_step m p (row blank s p).tells (n p)) ∙ not-true _ (and_parts _ _ a).1 in
            let o : is_aborting (row blank s p).process.place ≡ true = ap is_aborting (sym (moved_at p (row blank s p) h (real_row blank s v p h u))) ∙ (and_parts _ _ a).0 in
            let w : is_aborting (process s.memory p).place ≡ false = ap (λ (x : Process). is_aborting x.place) (sym (process_at_here blank s p h)) ∙ first_false _ _ b c in
            forcing_old blank s p v h (process s.memory p).place (row_forces blank s p (process s.memory p).place _ w (unforced p (process s.memory p).place _ (n p).chose_abort (fs p h) c) o) (ag p h).sight;
      }

  pub call_forces : (c : Call V) → Forces c (called blank s c)
  call_forces c = by_deed blank s Forces forces_deeds c
