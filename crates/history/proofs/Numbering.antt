-- The numbers of items, entries and places are at most how many transactions have committed, row by row.
use Rattle.std.proofs.Common.{◌≡◌, ℕ, ◌+◌, ◌-◌, ◌<◌, ◌≤◌, Bool, true, false, cond, not, ◌&&◌, ◌||◌, eqb, ltb, ◌⊎◌, List, [], ◌∷◌, take, set, Some, None, Option, sym, refl, ap, subst, inl, inr, arith}
use Rattle.std.proofs.lemmas.Bool.{both_ways, cases_eq, cond_both, eqb-true, eqb-false, ltb-false}
use Rattle.std.proofs.lemmas.List.{take-take, take_more_set}
use Rattle.std.proofs.lemmas.List.Elements.{All-set, All-take, All-push, All-weaker, All-head, All-tail, All-nil}
use Rattle.bank.specs.declared.lock.Lock.{Lock}
use Rattle.table.specs.Sets.{find}
use Rattle.table.specs.Tasks.{Task, task, in_reads, in_writes, write_slot, next_item, sequence_or, unlock_sequence}
use Rattle.table.specs.declared.entry.Entry.{Entry}
use Rattle.table.specs.declared.entry.Part.TheVariants.{Reads, Writes}
use Rattle.rows.specs.Places.{lock_to, abort_to, counted_out, count_from, compared_with, seen_to, released}
use Rattle.rows.specs.Primitives.{nothing, swap_count, Touch, still, relock, revalue, recount, replied, said, touching, if_said}
use Rattle.rows.specs.declared.place.Place.{Place}
use Rattle.rows.specs.declared.place.Place.TheVariants.{Closed, Idle, R1, R2, R3, R4, R5, D1, D2, C, L1, L2, L3, L4, K, W, U, A1, A2, A3}
use Rattle.process.specs.Moves.{Note, keep, put, Move}
use Rattle.process.specs.Rows.{placed, decided, go, wait, read_ends, unlock_to, settled, numbered, locked, is_committed}
use Rattle.process.specs.Tells.{Told, going, waiting, committed, aborted}
use Rattle.process.specs.Traits.{traits, fresh}
use Rattle.process.specs.declared.record.Process.{Process}
use Rattle.process.specs.declared.record.Status.{Status}
use Rattle.process.specs.declared.record.Status.TheVariants.{Committed, Aborted}
use Rattle.store.specs.Model.{State, process, task_of, moved}
use Rattle.store.specs.Rows.{owned}
use Rattle.history.specs.Invariants.{Formed, Here, Own, part, own, writes_in, total, one, Counts, stage, live, AtMost, Numbered, Numbers, lock_of}
use Rattle.history.proofs.Views.{take_set, upd, after_lock, after_note, after_own, RealTouch, RealNote, locks_after, mine_after, others_after, part_long, reads_are, writes_are}
use Rattle.history.proofs.Sums.{total_one}
use Rattle.history.proofs.Counting.{with_touch, row_at, mv}

module _ {V : Type 0} where
  most_more : (c : ℕ) (es : List (Entry V)) → AtMost c es → AtMost (c + 1) es
  most_more c es h = All-weaker (λ (e : Entry V). e.sequence ≤ c) (λ (e : Entry V). e.sequence ≤ c + 1) (λ e k. omega arith) es h

  -- fewer entries
  most_less : (c a b : ℕ) (es : List (Entry V)) → a ≤ b → AtMost c (take b es) → AtMost c (take a es)
  most_less c a b es h k = subst (AtMost c) (take-take a b es h) (All-take (λ (e : Entry V). e.sequence ≤ c) a (take b es) k)

  -- what is found has the number
  most_found : (c i : ℕ) (es : List (Entry V)) (e : Entry V) → find i es ≡ Some e → AtMost c es → e.sequence ≤ c
  most_found c i [] e h k = let z : ◌≡◌ {A = ℕ} 0 1 = cc in absurd (omega arith)
  most_found c i (x ∷ es) e h k = go (eqb x.item i) h (λ u. most_found c i es e u (All-tail (λ (e : Entry V). e.sequence ≤ c) x es k))
    where
      go : (b : Bool) → cond b (Some x) (find i es) ≡ Some e → (find i es ≡ Some e → e.sequence ≤ c) → e.sequence ≤ c
      go true u f = let a : x ≡ e = cc in subst (λ (e : Entry V). e.sequence ≤ c) a (All-head (λ (e : Entry V). e.sequence ≤ c) x es k)
      go false u f = f u

  numbered_more : (c : ℕ) (o : Own V) → Numbered c o → Numbered (c + 1) o
  numbered_more c o n =
      record {
        reads = most_more c _ n.reads;
        writes = most_more (c + 1) _ n.writes;
        done = λ t. most_more c _ (n.done t);
        place = (let x = n.place in omega arith);
        before = n.before;
        after = n.after;
        only = n.only;
      }

module _ {V : Type 0} (blank : V) where
  -- the state with another life
  abbrev pub aged : State V → ℕ → State V
  aged s l = record { cells = s.cells; memory = record { processes = s.memory.processes; number = s.memory.number; life = l; entries = s.memory.entries } }

  -- from c commits to d, which is c unless the move commits
  pub numbers_move : (s : State V) (p c d l' : ℕ) (m : Move V) → Formed s → Here s p → RealTouch s.cells m.touch → RealNote m.note
      → ((i : ℕ) → (after_lock (lock_of blank s) m.touch i).sequence ≤ d) → Numbered d (after_own (own s p) m) → (d ≡ c) ⊎ (d ≡ c + 1)
      → d + live m.process + l' ≤ c + live (process s.memory p) + s.memory.life → Numbers blank c s → Numbers blank d (aged (moved blank s p m) l')
  numbers_move s p c d l' m f h rt rn l o cd lv n =
      record {
        locks = λ i. subst (λ (x : Lock). x.sequence ≤ d) (sym (locks_after blank s.cells m.touch rt i)) (l i);
        each = λ q hq. elim (cases_eq q p) [
          | inl e ↦ rw e (subst (Numbered d) (sym (mine_after blank s p m f h rn)) o)
          | inr k ↦ subst (Numbered d) (sym (others_after blank s p q m h hq.low k rn)) (later q (n.each q (record { low = hq.low; high = hq.high })) cd)
        ];
        life =
            let was : ℕ → ℕ = λ q. live (process s.memory q) in
            let new : ℕ → ℕ = λ q. live (process (moved blank s p m).memory q) in
            let a : total new s.memory.number + was p ≡ total was s.memory.number + new p = total_one was new p s.memory.number h.low h.high (λ q lo k. ap (λ (x : Own V). live x.process) (sym (others_after blank s p q m h lo k rn))) in
            let b : new p ≡ live m.process = ap (λ (x : Own V). live x.process) (mine_after blank s p m f h rn) in
            let x = n.life in
            omega arith;
      }
    where
      later : (q : ℕ) → Numbered c (own s q) → (d ≡ c) ⊎ (d ≡ c + 1) → Numbered d (own s q)
      later q x (inl e) = rw e x
      later q x (inr e) = rw e (numbered_more c (own s q) x)

false_true : {A : Type 0} → false ≡ true → A
false_true e = absurd (both_ways true (sym e) refl)

module _ {V : Type 0} (blank : V) (s : State V) (p c : ℕ) (v : Counts blank s) (here : Here s p) (n : Numbers blank c s) where
  -- what a row must show of its process
  pub record NumRow (m : Move V) : Type 0 where
    pub next : ℕ
    pub locks : (i : ℕ) → (after_lock (lock_of blank s) m.touch i).sequence ≤ next
    pub own : Numbered next (after_own (own s p) m)
    pub by : (next ≡ c) ⊎ (next ≡ c + 1)
    pub lives : next + live m.process ≤ c + live (process s.memory p)

  mine : Numbered c (own s p)
  mine = n.each p here

  -- an entry that the code recalls of a committed owner is at most c
  owned_most : (w i : ℕ) (x : Entry V) → owned blank s.memory w i ≡ Some x → x.sequence ≤ c
  owned_most w i x = outside (eqb w 0) (ltb s.memory.number w) refl refl
    where
      real : Here s w → (b : Bool) → is_committed (process s.memory w).status ≡ b → cond b (in_writes (task_of blank s.memory w) i) None ≡ Some x → x.sequence ≤ c
      real h true t e = most_found c i (task_of blank s.memory w).writes x e (subst (AtMost c) (sym (writes_are blank s w (process s.memory w).sizes.writes (v.sane w h).writes)) ((n.each w h).done t))
      real h false t e = let z : ◌≡◌ {A = ℕ} 0 1 = cc in absurd (omega arith)

      none : cond (is_committed fresh.status) (in_writes (task blank s.memory.entries w fresh.sizes) i) None ≡ Some x → x.sequence ≤ c
      none e = let z : ◌≡◌ {A = ℕ} 0 1 = cc in absurd (omega arith)

      outside : (a b : Bool) → eqb w 0 ≡ a → ltb s.memory.number w ≡ b → (let q : Process = cond (a || b) fresh (process s.memory w) in cond (is_committed q.status) (in_writes (task blank s.memory.entries w q.sizes) i) None ≡ Some x) → x.sequence ≤ c
      outside true b ea eb e = none e
      outside false true ea eb e = none e
      outside false false ea eb e = real (record { low = (let k = eqb-false w 0 ea in omega arith); high = ltb-false s.memory.number w eb }) (is_committed (process s.memory w).status) refl e

  owned_number : (l : Lock) (i : ℕ) (o : Option (Entry V)) → owned blank s.memory l.owner i ≡ o → l.sequence ≤ c → sequence_or l.sequence o ≤ c
  owned_number l i None e h = h
  owned_number l i (Some x) e h = owned_most l.owner i x e

  -- the number of what is unlocked after a commit
  number_or : (k : ℕ) (o : Option (Entry V)) → k ≤ c → ((x : Entry V) → o ≡ Some x → x.sequence ≤ c) → sequence_or k o ≤ c
  number_or k None h f = h
  number_or k (Some x) h f = f x refl

  pub unlock_most : (stage (process s.memory p).place).late ≡ true → (i : ℕ) → unlock_sequence (task_of blank s.memory p) i ≤ c
  unlock_most l i =
      let t : Task V = task_of blank s.memory p in
      let rs : AtMost c t.reads = subst (AtMost c) (sym (reads_are blank s p (process s.memory p).sizes.reads (v.sane p here).reads)) (most_less c (process s.memory p).sizes.reads _ (part s p Reads) (omega arith) mine.reads) in
      let ws : AtMost c t.writes = subst (AtMost c) (sym (writes_are blank s p (process s.memory p).sizes.writes (v.sane p here).writes)) (mine.done (mine.after l)) in
      number_or _ (in_writes t i) (number_or 0 (in_reads t i) (omega arith) (λ x e. most_found c i t.reads x e rs)) (λ x e. most_found c i t.writes x e ws)

  -- a place before the decision that remembers no number above c
  pub record Calm (pl : Place) : Type 0 where
    pub number : (stage pl).number ≤ c
    pub early : (stage pl).late ≡ false
    pub out : (stage pl).noted ≡ 0
    pub only : (stage pl).only ≡ true → (process s.memory p).sizes.writes ≡ 0

  pub calm : (pl : Place) → (stage pl).number ≤ c → (stage pl).late ≡ false → (stage pl).noted ≡ 0 → (stage pl).only ≡ false → Calm pl
  calm pl a b d e = record { number = a; early = b; out = d; only = λ t. absurd (both_ways _ e t) }

  calm_lock : (o : Option ℕ) → Calm (lock_to o)
  calm_lock None = calm K (omega arith) refl refl refl
  calm_lock (Some i) = calm (L1 i) (omega arith) refl refl refl

  calm_abort : (z o : Option ℕ) → Calm (abort_to z o)
  calm_abort z None = calm (A3 z) (omega arith) refl refl refl
  calm_abort z (Some i) = calm (A1 i z) (omega arith) refl refl refl

  calm_out : (a : Bool) → Calm (counted_out (task_of blank s.memory p) a)
  calm_out true = calm_abort None _
  calm_out false = cond_both (eqb (process s.memory p).sizes.writes 0) _ _ Calm (λ z. record { number = omega arith; early = refl; out = refl; only = λ _. eqb-true _ 0 z }) (λ _. calm_lock _)

  pub calm_from : (k : ℕ) (a : Bool) → Calm (count_from (task_of blank s.memory p) k a)
  calm_from k a = cond_both (ltb k (process s.memory p).sizes.reads) _ _ Calm (λ _. calm (D1 k a) (omega arith) refl refl refl) (λ _. calm_out a)

  calm_compared : (i m : ℕ) (o : Option (Entry V)) → m ≤ c → Calm (compared_with (task_of blank s.memory p) i m o)
  calm_compared i m None h = calm (L4 i m) h refl refl refl
  calm_compared i m (Some x) h = cond_both (eqb x.sequence m) _ _ Calm (λ _. calm (L4 i m) h refl refl refl) (λ _. calm_abort (Some i) _)

  calm_seen : (i : ℕ) (l : Lock) → l.sequence ≤ c → Calm (seen_to (task_of blank s.memory p) i l)
  calm_seen i l h = cond_both (eqb l.owner 0) _ _ Calm (λ _. calm_compared i l.sequence _ h) (λ _. calm (L3 i l) h refl refl refl)

  calm_released : (i : ℕ) (l : Lock) (z : Option ℕ) → l.sequence ≤ c → Calm (released (task_of blank s.memory p) i l z)
  calm_released i l z h = cond_both (eqb l.owner p) _ _ Calm (λ _. calm (A2 i l.sequence z) h refl refl refl) (λ _. calm_abort z _)

  pub live_less : (a b y : Bool) → a ≡ true → one (b && y) ≤ one (a && y)
  live_less true true true e = omega arith
  live_less true true false e = omega arith
  live_less true false true e = omega arith
  live_less true false false e = omega arith
  live_less false b y e = false_true e

  pub few_reads : AtMost c (take (process s.memory p).sizes.reads (part s p Reads))
  few_reads = most_less c (process s.memory p).sizes.reads _ (part s p Reads) (omega arith) mine.reads

  module _ (o : (traits (process s.memory p).place).is_open ≡ true) where
    -- before the decision a row commits nothing
    early_row : (w : Told V) (pl : Place) (t : Touch V) (u : Note V) → (stage (process s.memory p).place).late ≡ false → Calm pl
        → ((i : ℕ) → (after_lock (lock_of blank s) t i).sequence ≤ c)
        → AtMost c (take (process s.memory p).sizes.reads (after_note (part s p) u Reads))
        → AtMost (c + 1) (take (process s.memory p).sizes.writes (after_note (part s p) u Writes))
        → NumRow (mv blank s p w (process s.memory p).status pl t u)
    early_row w pl t u e k l rs ws =
        let null = mine.before e o in
        record {
          next = c;
          locks = l;
          own = record {
            reads = most_less c _ (process s.memory p).sizes.reads (after_note (part s p) u Reads) (let x = k.out in omega arith) rs;
            writes = ws;
            done = λ t. absurd (both_ways _ null t);
            place = k.number;
            before = λ _ _. null;
            after = λ t. absurd (both_ways _ k.early t);
            only = k.only;
          };
          by = inl refl;
          lives = (let x = live_less (traits (process s.memory p).place).is_open (traits pl).is_open (not (is_committed (process s.memory p).status)) o in omega arith);
        }

    pub go_row : (w : Told V) (pl : Place) → (stage (process s.memory p).place).late ≡ false → Calm pl → NumRow (mv blank s p w (process s.memory p).status pl still keep)
    go_row w pl e k = early_row w pl still keep e k n.locks few_reads mine.writes

    -- the read set with what was noted behind it
    noted_reads : (x : Entry V) → (process s.memory p).sizes.reads < 8 → x.sequence ≤ c → AtMost c (take ((process s.memory p).sizes.reads + 1) (set (part s p Reads) (process s.memory p).sizes.reads x))
    noted_reads x r h = subst (AtMost c) (sym (take_more_set (part s p Reads) (process s.memory p).sizes.reads x (let l = part_long blank s p v.formed here Reads in omega arith))) (All-push (λ (e : Entry V). e.sequence ≤ c) _ x few_reads h)

    -- the end of a read
    end_row : (x : V) (u : Note V) → (stage (process s.memory p).place).late ≡ false
        → AtMost c (take ((process s.memory p).sizes.reads + 1) (after_note (part s p) u Reads))
        → AtMost (c + 1) (take (process s.memory p).sizes.writes (after_note (part s p) u Writes))
        → NumRow (with_touch (read_ends (process s.memory p) x u) still)
    end_row x u e rs ws =
        let null = mine.before e o in
        record {
          next = c;
          locks = n.locks;
          own = record {
            reads = most_less c _ ((process s.memory p).sizes.reads + 1) (after_note (part s p) u Reads) (omega arith) rs;
            writes = ws;
            done = λ t. absurd (both_ways _ null t);
            place = omega arith;
            before = λ _ _. null;
            after = λ t. false_true t;
            only = λ t. false_true t;
          };
          by = inl refl;
          lives = (let x = live_less (traits (process s.memory p).place).is_open true (not (is_committed (process s.memory p).status)) o in omega arith);
        }

    num_r4 : (i : ℕ) (l : Lock) (x : V) (b : Bool) → (stage (process s.memory p).place).late ≡ false → (process s.memory p).sizes.reads < 8 → l.sequence ≤ c
        → NumRow (with_touch (cond b (read_ends (process s.memory p) x (put Reads (process s.memory p).sizes.reads (record { item = i; sequence = l.sequence; value = x }))) (record { tells = going; process = placed (process s.memory p) (R5 i l); note = put Reads (process s.memory p).sizes.reads (record { item = i; sequence = l.sequence; value = x }) })) still)
    num_r4 i l x true e r h = let y : Entry V = record { item = i; sequence = l.sequence; value = x } in end_row x (put Reads (process s.memory p).sizes.reads y) e (noted_reads y r h) mine.writes
    num_r4 i l x false e r h =
        let y : Entry V = record { item = i; sequence = l.sequence; value = x } in
        let null = mine.before e o in
        record {
          next = c;
          locks = n.locks;
          own = record { reads = noted_reads y r h; writes = mine.writes; done = λ t. absurd (both_ways _ null t); place = h; before = λ _ _. null; after = λ t. false_true t; only = λ t. false_true t };
          by = inl refl;
          lives = (let x = live_less (traits (process s.memory p).place).is_open true (not (is_committed (process s.memory p).status)) o in omega arith);
        }

    num_r5 : (i : ℕ) (l : Lock) (e : Option (Entry V)) → (process s.memory p).place ≡ R5 i l → owned blank s.memory l.owner i ≡ e → (process s.memory p).sizes.reads < 8
        → NumRow (with_touch (settled (process s.memory p) (task_of blank s.memory p) e) still)
    num_r5 i l None at w r = end_row _ keep (ap (λ x. (stage x).late) at) (most_less c _ _ (part s p Reads) (let z : (stage (process s.memory p).place).noted ≡ 1 = ap (λ x. (stage x).noted) at in omega arith) mine.reads) mine.writes
    num_r5 i l (Some x) at w r = end_row x.value (put Reads (process s.memory p).sizes.reads x) (ap (λ x. (stage x).late) at) (noted_reads x r (owned_most l.owner i x w)) mine.writes

    num_r2 : (i m : ℕ) (b : Bool) → (stage (process s.memory p).place).late ≡ false → NumRow (with_touch (cond b (go (process s.memory p) (R3 i)) (wait (process s.memory p) (R1 i))) (if_said b (recount i (m + 1))))
    num_r2 i m true e = early_row going (R3 i) (recount i (m + 1)) keep e (calm (R3 i) (omega arith) refl refl refl) n.locks few_reads mine.writes
    num_r2 i m false e = go_row waiting (R1 i) e (calm (R1 i) (omega arith) refl refl refl)

    num_d2 : (k m : ℕ) (a : Bool) (j : ℕ) (z : Bool) → (stage (process s.memory p).place).late ≡ false
        → NumRow (with_touch (cond (said (replied blank s.cells (cond z nothing (swap_count j m (m - 1))))) (go (process s.memory p) (count_from (task_of blank s.memory p) (k + 1) a)) (wait (process s.memory p) (D1 k a))) (if_said (said (replied blank s.cells (cond z nothing (swap_count j m (m - 1))))) (touching (cond z nothing (swap_count j m (m - 1))))))
    num_d2 k m a j true e = go_row waiting (D1 k a) e (calm (D1 k a) (omega arith) refl refl refl)
    num_d2 k m a j false e = go' _
      where
        go' : (b : Bool) → NumRow (with_touch (cond b (go (process s.memory p) (count_from (task_of blank s.memory p) (k + 1) a)) (wait (process s.memory p) (D1 k a))) (if_said b (recount j (m - 1))))
        go' true = early_row going _ (recount j (m - 1)) keep e (calm_from (k + 1) a) n.locks few_reads mine.writes
        go' false = go_row waiting (D1 k a) e (calm (D1 k a) (omega arith) refl refl refl)

  relocked : (i : ℕ) (l : Lock) → l.sequence ≤ c → (j : ℕ) → (upd (lock_of blank s) i l j).sequence ≤ c
  relocked i l h j = cond_both (eqb j i) _ _ (λ (y : Lock). y.sequence ≤ c) (λ _. h) (λ _. n.locks j)

  -- a lock that is written if the bank says so
  relocked_said : (b : Bool) (i : ℕ) (l : Lock) → l.sequence ≤ c → (j : ℕ) → (after_lock {V = V} (lock_of blank s) (if_said b (relock i l)) j).sequence ≤ c
  relocked_said true i l h j = relocked i l h j
  relocked_said false i l h j = n.locks j

  revalued_said : (b : Bool) (i : ℕ) (x : V) (j : ℕ) → (after_lock (lock_of blank s) (if_said b (revalue i x)) j).sequence ≤ c
  revalued_said true i x j = n.locks j
  revalued_said false i x j = n.locks j

  numbered_reads : (i m : ℕ) → AtMost c (take (process s.memory p).sizes.reads (after_note (part s p) (numbered (process s.memory p) (task_of blank s.memory p) i m) Reads))
  numbered_reads i m = cond_both (ltb (write_slot (task_of blank s.memory p) i) (process s.memory p).sizes.writes) _ _ (λ u. AtMost c (take (process s.memory p).sizes.reads (after_note (part s p) u Reads))) (λ _. few_reads) (λ _. few_reads)

  numbered_writes : (i m : ℕ) → m ≤ c + 1 → AtMost (c + 1) (take (process s.memory p).sizes.writes (after_note (part s p) (numbered (process s.memory p) (task_of blank s.memory p) i m) Writes))
  numbered_writes i m h =
      cond_both (ltb (write_slot (task_of blank s.memory p) i) (process s.memory p).sizes.writes) _ _ (λ u. AtMost (c + 1) (take (process s.memory p).sizes.writes (after_note (part s p) u Writes)))
      (λ _. subst (AtMost (c + 1)) (sym (take_set (process s.memory p).sizes.writes (part s p Writes) (write_slot (task_of blank s.memory p) i) _)) (All-set (λ (e : Entry V). e.sequence ≤ c + 1) _ (write_slot (task_of blank s.memory p) i) _ h mine.writes))
      (λ _. mine.writes)

  -- a transaction ends
  closed_row : (w : Told V) (st : Status) (t : Touch V) → ((i : ℕ) → (after_lock (lock_of blank s) t i).sequence ≤ c) → (is_committed st ≡ true → AtMost c (writes_in (own s p))) → NumRow (mv blank s p w st Closed t keep)
  closed_row w st t l d =
      record {
        next = c;
        locks = l;
        own = record { reads = most_less c _ (process s.memory p).sizes.reads (part s p Reads) (omega arith) few_reads; writes = mine.writes; done = d; place = omega arith; before = λ _ e. false_true e; after = λ t. false_true t; only = λ t. false_true t };
        by = inl refl;
        lives = omega arith;
      }

  -- after K's yes
  late_row : (pl : Place) (t : Touch V) → (stage (process s.memory p).place).late ≡ true → (stage pl).late ≡ true → (stage pl).number ≡ 0 → (stage pl).noted ≡ 0 → (stage pl).only ≡ false
      → ((i : ℕ) → (after_lock (lock_of blank s) t i).sequence ≤ c) → NumRow (mv blank s p going (process s.memory p).status pl t keep)
  late_row pl t e e' a b d l =
      let yes = mine.after e in
      record {
        next = c;
        locks = l;
        own = record { reads = most_less c _ (process s.memory p).sizes.reads (part s p Reads) (omega arith) few_reads; writes = mine.writes; done = mine.done; place = omega arith; before = λ t. absurd (both_ways _ t e'); after = λ _. yes; only = λ t. absurd (both_ways _ d t) };
        by = inl refl;
        lives = (let x = dead (traits pl).is_open (is_committed (process s.memory p).status) yes in omega arith);
      }
    where
      dead : (a b : Bool) → b ≡ true → one (a && not b) ≡ 0
      dead true b e = rw e refl
      dead false b e = refl

  num_u : (t : Touch V) (o : Option ℕ) → (stage (process s.memory p).place).late ≡ true → ((i : ℕ) → (after_lock (lock_of blank s) t i).sequence ≤ c) → NumRow (with_touch (unlock_to (process s.memory p) o) t)
  num_u t None e l = closed_row committed Committed t l (λ _. mine.done (mine.after e))
  num_u t (Some i) e l = late_row (U i) t e refl refl refl refl l

  num_w : (k : ℕ) (t : Touch V) (b : Bool) → (stage (process s.memory p).place).late ≡ true → ((i : ℕ) → (after_lock (lock_of blank s) t i).sequence ≤ c) → NumRow (with_touch (cond b (go (process s.memory p) (W (k + 1))) (unlock_to (process s.memory p) (next_item (task_of blank s.memory p) 0))) t)
  num_w k t true e l = late_row (W (k + 1)) t e refl refl refl refl l
  num_w k t false e l = num_u t _ e l

  module _ (o : (traits (process s.memory p).place).is_open ≡ true) where
    num_l4 : (i m : ℕ) (b : Bool) → (stage (process s.memory p).place).late ≡ false → m ≤ c → NumRow (with_touch (cond b (locked (process s.memory p) (task_of blank s.memory p) i m) (wait (process s.memory p) (L1 i))) (if_said b (relock i (record { owner = p; sequence = m }))))
    num_l4 i m true e h = early_row o going _ (relock i _) _ e (calm_lock _) (relocked i _ h) (numbered_reads i (m + 1)) (numbered_writes i (m + 1) (omega arith))
    num_l4 i m false e h = go_row o waiting (L1 i) e (calm (L1 i) (omega arith) refl refl refl)

    num_k : (b : Bool) → (stage (process s.memory p).place).late ≡ false → NumRow (with_touch (cond b (record { tells = going; process = decided (process s.memory p) Committed (W 0); note = keep }) (wait (process s.memory p) K)) (if_said b still))
    num_k false e = go_row o waiting K e (calm K (omega arith) refl refl refl)
    num_k true e =
        let null = mine.before e o in
        record {
          next = c + 1;
          locks = λ i. let x = n.locks i in omega arith;
          own = record { reads = most_less (c + 1) _ (process s.memory p).sizes.reads (part s p Reads) (omega arith) (most_more c _ few_reads); writes = most_more (c + 1) _ mine.writes; done = λ _. mine.writes; place = omega arith; before = λ t. absurd (both_ways true t refl); after = λ _. refl; only = λ t. false_true t };
          by = inr refl;
          lives = (let x : live (process s.memory p) ≡ 1 = alive _ _ o null in omega arith);
        }
      where
        alive : (a b : Bool) → a ≡ true → b ≡ false → one (a && not b) ≡ 1
        alive a b e f = rw (e, f) refl

    pub num_row : (pl : Place) → (process s.memory p).place ≡ pl → (traits pl).under_way ≡ true → ((traits pl).ahead ≡ 1 → (process s.memory p).sizes.reads < 8) → NumRow (row_at blank s p pl)
    num_row Closed e d r = false_true d
    num_row Idle e d r = false_true d
    num_row (R1 i) e d r = go_row o going (R2 i _) (ap (λ x. (stage x).late) e) (calm (R2 i _) (omega arith) refl refl refl)
    num_row (R2 i m) e d r = num_r2 o i m _ (ap (λ x. (stage x).late) e)
    num_row (R3 i) e d r = go_row o going (R4 i _) (ap (λ x. (stage x).late) e) (calm (R4 i _) (n.locks i) refl refl refl)
    num_row (R4 i l) e d r = num_r4 o i l _ (eqb l.owner 0) (ap (λ x. (stage x).late) e) (r refl) (rw e at mine.place)
    num_row (R5 i l) e d r = num_r5 o i l (owned blank s.memory l.owner i) e refl (r refl)
    num_row (D1 k a) e d r = go_row o going (D2 k _ a) (ap (λ x. (stage x).late) e) (calm (D2 k _ a) (omega arith) refl refl refl)
    num_row (D2 k m a) e d r = num_d2 o k m a _ (eqb m 0) (ap (λ x. (stage x).late) e)
    num_row C e d r = closed_row committed Committed still n.locks (λ _. subst (λ w. AtMost c (take w (part s p Writes))) (sym (mine.only (ap (λ x. (stage x).only) e))) (All-nil (λ (y : Entry V). y.sequence ≤ c)))
    num_row (L1 i) e d r = go_row o going (L2 i _) (ap (λ x. (stage x).late) e) (calm (L2 i _) (n.locks i) refl refl refl)
    num_row (L2 i l) e d r = go_row o going _ (ap (λ x. (stage x).late) e) (calm_seen i l (rw e at mine.place))
    num_row (L3 i l) e d r = go_row o going _ (ap (λ x. (stage x).late) e) (calm_compared i _ _ (owned_number l i (owned blank s.memory l.owner i) refl (rw e at mine.place)))
    num_row (L4 i m) e d r = num_l4 i m _ (ap (λ x. (stage x).late) e) (rw e at mine.place)
    num_row K e d r = num_k _ (ap (λ x. (stage x).late) e)
    num_row (W k) e d r = num_w k _ _ (ap (λ x. (stage x).late) e) (revalued_said _ _ _)
    num_row (U i) e d r = num_u _ _ (ap (λ x. (stage x).late) e) (relocked_said _ i _ (unlock_most (ap (λ x. (stage x).late) e) i))
    num_row (A1 i z) e d r = go_row o going _ (ap (λ x. (stage x).late) e) (calm_released i _ z (n.locks i))
    num_row (A2 i m z) e d r = early_row o going _ _ keep (ap (λ x. (stage x).late) e) (calm_abort z _) (relocked_said _ i _ (rw e at mine.place)) few_reads mine.writes
    num_row (A3 z) e d r = closed_row (aborted z) Aborted still n.locks (λ t. false_true t)
