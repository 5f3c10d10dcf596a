-- A process and the items that it has locked keep what they say of each other, row by row.
use Rattle.std.proofs.Common.{◌≡◌, ℕ, ◌+◌, ◌-◌, ◌<◌, ◌≤◌, Bool, true, false, cond, eqb, ltb, List, length, get_or, take, set, Some, None, Option, sym, refl, ap, ◌∙◌, subst, inl, inr, arith}
use Rattle.std.proofs.lemmas.Bool.{both_ways, cases_eq, cond_both, eqb-true, eqb-false, ltb-true, ltb-false}
use Rattle.std.proofs.lemmas.List.{length-take-le, take_more, get_or-take, get_or_default}
use Rattle.bank.specs.Cells.{has}
use Rattle.bank.specs.declared.lock.Lock.{Lock}
use Rattle.table.specs.Sets.{blank_entry, find, slot, item_of}
use Rattle.table.specs.Tasks.{in_reads, write_slot, next_item}
use Rattle.table.specs.declared.entry.Entry.{Entry}
use Rattle.table.specs.declared.entry.Part.TheVariants.{Reads, Writes}
use Rattle.rows.specs.Places.{lock_of as made_lock, lock_to, abort_to, counted_out, count_from, compared_with, seen_to, released}
use Rattle.rows.specs.Primitives.{nothing, swap_count, Touch, still, relock, revalue, recount, replied, said, touching, if_said}
use Rattle.rows.specs.declared.place.Place.{Place}
use Rattle.rows.specs.declared.place.Place.TheVariants.{Closed, Idle, R1, R2, R3, R4, R5, D1, D2, C, L1, L2, L3, L4, K, W, U, A1, A2, A3}
use Rattle.process.specs.Moves.{Note, keep, put, Move}
use Rattle.process.specs.Rows.{placed, decided, go, wait, read_ends, unlock_to, settled, numbered, locked}
use Rattle.process.specs.Tells.{Told, going, committed, aborted}
use Rattle.process.specs.Traits.{traits}
use Rattle.process.specs.declared.record.Status.{Status}
use Rattle.process.specs.declared.record.Status.TheVariants.{Committed, Aborted}
use Rattle.store.specs.Model.{State, process, task_of, moved}
use Rattle.history.specs.Invariants.{Formed, Here, Own, part, own, reads_in, writes_in, times, Counts, Once, none, whole, grip, Owns, data_set, Named, nameless, wanted, compared as is_compared, gripped, stage, lock_of, value_of, NumberIs, Tied, Ties}
use Rattle.history.proofs.Views.{take_set, upd, upd_same, upd_other, after_lock, after_value, after_note, after_own, RealTouch, RealNote, locks_after, values_after, mine_after, others_after, part_long, reads_are, writes_are, entry_is}
use Rattle.history.proofs.Sums.{times_like, slot_found, slot_item}
use Rattle.history.proofs.Counting.{with_touch, row_at, mv}
use Rattle.history.proofs.Finding.{differ, same_some, times_some, times_take, find_at, find_put, find_put_other, find_push_other}
use Rattle.history.proofs.Locking.{Fair, cell_there}

module _ {V : Type 0} where
  number_like : (locks locks' : ℕ → Lock) (p : ℕ) (es : List (Entry V)) (g : Named) (n : ℕ) → ((i : ℕ) → (locks' i).owner ≡ p → locks' i ≡ locks i) → NumberIs locks p es g n → NumberIs locks' p es g n
  number_like locks locks' p es nameless n h t = tt
  number_like locks locks' p es (wanted i) n h t = tt
  number_like locks locks' p es (is_compared i) n h t = t
  number_like locks locks' p es (gripped i) n h t = λ o. let k = h i o in t (rw k at o) ∙ ap (λ l. l.sequence) (sym k)

  -- cells that p has locked stay
  pub tied_like : (locks locks' : ℕ → Lock) (values values' : ℕ → V) (p : ℕ) (o : Own V) → ((i : ℕ) → (locks' i).owner ≡ p → (locks' i ≡ locks i) × (values' i ≡ values i)) → Tied locks values p o → Tied locks' values' p o
  tied_like locks locks' values values' p o h t =
      record {
        reads_once = t.reads_once;
        writes_once = t.writes_once;
        enough = t.enough;
        next = λ i x w f. let k = (h i w).0 in rw k (t.next i x (rw k at w) f);
        same = λ i x w f. let k = (h i w).0 in rw k (t.same i x (rw k at w) f);
        kept = λ i x w f. let k = h i w in k.1 ∙ t.kept i x (rw k.0 at w) f;
        told = number_like locks locks' p (reads_in o) _ _ (λ i w. (h i w).0) t.told;
      }

  -- a move writes a value only under its own lock
  abbrev pub OwnValue : (ℕ → Lock) → ℕ → Touch V → Type 0
  OwnValue locks p still = Unit {0}
  OwnValue locks p (recount i n) = Unit {0}
  OwnValue locks p (relock i l) = Unit {0}
  OwnValue locks p (revalue i v) = (locks i).owner ≡ p

  stays : (locks : ℕ → Lock) (values : ℕ → V) (p q : ℕ) (t : Touch V) → Fair locks p t → OwnValue locks p t → 0 < q → (q ≡ p → ⊥) → (i : ℕ) → (after_lock locks t i).owner ≡ q → (after_lock locks t i ≡ locks i) × (after_value values t i ≡ values i)
  stays locks values p q still f w l d i o = (refl, refl)
  stays locks values p q (recount j n) f w l d i o = (refl, refl)
  stays locks values p q (relock j k) f w l d i o = elim (cases_eq i j) [
    | inl e ↦ absurd (let a : (after_lock {V = V} locks (relock j k) i).owner ≡ k.owner = rw e (ap (λ x. x.owner) (upd_same locks j k)) in let f1 = f.1 in omega arith)
    | inr n ↦ (upd_other locks j i k n, refl)
  ]
  stays locks values p q (revalue j v) f w l d i o = (
    refl,
    elim (cases_eq i j) [
      | inl e ↦ absurd (let a : (locks i).owner ≡ (locks j).owner = ap (λ x. (locks x).owner) e in let b : (locks j).owner ≡ p = w in let c : (locks i).owner ≡ q = o in omega arith)
      | inr n ↦ upd_other values j i v n
    ],
  )

module _ {V : Type 0} (blank : V) where
  pub ties_move : (s : State V) (p : ℕ) (m : Move V) → Formed s → Here s p → RealTouch s.cells m.touch → RealNote m.note → Fair (lock_of blank s) p m.touch → OwnValue (lock_of blank s) p m.touch
      → Tied (after_lock (lock_of blank s) m.touch) (after_value (value_of blank s) m.touch) p (after_own (own s p) m) → Ties blank s → Ties blank (moved blank s p m)
  ties_move s p m f h rt rn fair ov o n = λ q hq. elim (cases_eq q p) [
    | inl e ↦ rw e mine
    | inr d ↦ other q hq d (n q (record { low = hq.low; high = hq.high }))
  ]
    where
      mine : Tied (lock_of blank (moved blank s p m)) (value_of blank (moved blank s p m)) p (own (moved blank s p m) p)
      mine =
          subst (Tied (lock_of blank (moved blank s p m)) (value_of blank (moved blank s p m)) p) (sym (mine_after blank s p m f h rn))
          (tied_like (after_lock (lock_of blank s) m.touch) (lock_of blank (moved blank s p m)) (after_value (value_of blank s) m.touch) (value_of blank (moved blank s p m)) p (after_own (own s p) m) (λ i w. (locks_after blank s.cells m.touch rt i, values_after blank s.cells m.touch rt i)) o)

      other : (q : ℕ) → Here (moved blank s p m) q → (q ≡ p → ⊥) → Tied (lock_of blank s) (value_of blank s) q (own s q) → Tied (lock_of blank (moved blank s p m)) (value_of blank (moved blank s p m)) q (own (moved blank s p m) q)
      other q hq d t =
          subst (Tied (lock_of blank (moved blank s p m)) (value_of blank (moved blank s p m)) q) (sym (others_after blank s p q m h hq.low d rn))
          (tied_like (lock_of blank s) (lock_of blank (moved blank s p m)) (value_of blank s) (value_of blank (moved blank s p m)) q (own s q) (λ i w.
          let la = locks_after blank s.cells m.touch rt i in
          let va = values_after blank s.cells m.touch rt i in
          let k = stays (lock_of blank s) (value_of blank s) p q m.touch fair ov hq.low d i (sym (ap (λ l. l.owner) la) ∙ w) in
          (la ∙ k.0, va ∙ k.1)) t)

module _ {V : Type 0} where
  -- a place that says nothing of written values, and whose number fits
  pub record Easy (locks : ℕ → Lock) (p : ℕ) (es : List (Entry V)) (w : ℕ) (pl : Place) : Type 0 where
    pub unwritten : (stage pl).written w ≡ 0
    pub enough : (stage pl).least ≤ w
    pub told : NumberIs locks p es (stage pl).named (stage pl).number

  -- the place changes, and the status
  pub tied_go : {locks : ℕ → Lock} {values : ℕ → V} {p : ℕ} (o : Own V) (st : Status) (pl : Place) → Easy locks p (reads_in o) o.process.sizes.writes pl → Tied locks values p o
      → Tied locks values p (record { process = record { status = st; sizes = o.process.sizes; place = pl }; part = o.part })
  tied_go o st pl k t =
      record {
        reads_once = t.reads_once;
        writes_once = t.writes_once;
        enough = k.enough;
        next = t.next;
        same = t.same;
        kept = λ i x w f. differ (rw k.unwritten at f);
        told = k.told;
      }

  -- a process that has locked nothing
  pub tied_loose : {locks : ℕ → Lock} {values : ℕ → V} {p : ℕ} (o : Own V) → ((i : ℕ) → (locks i).owner ≡ p → ⊥) → ((i : ℕ) → times i (reads_in o) ≤ 1) → ((i : ℕ) → times i (writes_in o) ≤ 1) → Easy locks p (reads_in o) o.process.sizes.writes o.process.place → Tied locks values p o
  tied_loose o n a b k = record { reads_once = a; writes_once = b; enough = k.enough; next = λ i x w. absurd (n i w); same = λ i x w. absurd (n i w); kept = λ i x w. absurd (n i w); told = k.told }

  -- an item is unlocked
  pub tied_free : {locks : ℕ → Lock} {values : ℕ → V} {p : ℕ} {o : Own V} (j n : ℕ) → 0 < p → Tied locks values p o → Tied (upd locks j (made_lock 0 n)) values p o
  tied_free {locks} {values} {p} {o} j n l t = tied_like locks (upd locks j (made_lock 0 n)) values values p o (λ i w. elim (cases_eq i j) [ inl q ↦ absurd (let a : (upd locks j (made_lock 0 n) i).owner ≡ 0 = rw q (ap (λ x. x.owner) (upd_same locks j (made_lock 0 n))) in omega arith) | inr d ↦ (upd_other locks j i (made_lock 0 n) d, refl) ]) t

module _ {V : Type 0} (blank : V) (s : State V) (p : ℕ) (v : Counts blank s) (here : Here s p) where
  abbrev Mine : Move V → Type 0
  Mine m = Tied (after_lock (lock_of blank s) m.touch) (after_value (value_of blank s) m.touch) p (after_own (own s p) m)

  abbrev Simple : Place → Type 0
  Simple pl = Easy (lock_of blank s) p (reads_in (own s p)) (process s.memory p).sizes.writes pl

  pub easy : (pl : Place) → (stage pl).written (process s.memory p).sizes.writes ≡ 0 → (stage pl).least ≤ (process s.memory p).sizes.writes → NumberIs (lock_of blank s) p (reads_in (own s p)) (stage pl).named (stage pl).number → Simple pl
  easy pl a b c = record { unwritten = a; enough = b; told = c }

  easy_lock : (o : Option ℕ) → 0 < (process s.memory p).sizes.writes → Simple (lock_to o)
  easy_lock None h = easy K refl (omega arith) tt
  easy_lock (Some i) h = easy (L1 i) refl (omega arith) tt

  easy_abort : (z o : Option ℕ) → Simple (abort_to z o)
  easy_abort z None = easy (A3 z) refl (omega arith) tt
  easy_abort z (Some i) = easy (A1 i z) refl (omega arith) tt

  easy_out : (a : Bool) → Simple (counted_out (task_of blank s.memory p) a)
  easy_out true = easy_abort None _
  easy_out false = cond_both (eqb (process s.memory p).sizes.writes 0) _ _ Simple (λ z. easy C refl (omega arith) tt) (λ z. easy_lock _ (let y = eqb-false (process s.memory p).sizes.writes 0 z in omega arith))

  pub easy_from : (k : ℕ) (a : Bool) → Simple (count_from (task_of blank s.memory p) k a)
  easy_from k a = cond_both (ltb k (process s.memory p).sizes.reads) _ _ Simple (λ _. easy (D1 k a) refl (omega arith) tt) (λ _. easy_out a)

  -- what is found in the task's read set is found in the process's own
  pub read_found : (i : ℕ) → find i (reads_in (own s p)) ≡ in_reads (task_of blank s.memory p) i
  read_found i = ap (find i) (sym (reads_are blank s p (process s.memory p).sizes.reads (v.sane p here).reads))

  easy_compared : (i n : ℕ) (o : Option (Entry V)) → find i (reads_in (own s p)) ≡ o → 0 < (process s.memory p).sizes.writes → Simple (compared_with (task_of blank s.memory p) i n o)
  easy_compared i n None f h = easy (L4 i n) refl (omega arith) (λ x e. differ (sym f ∙ e))
  easy_compared i n (Some y) f h = cond_both (eqb y.sequence n) _ _ Simple (λ q. easy (L4 i n) refl (omega arith) (λ x e. ap (λ (z : Entry V). z.sequence) (same_some (sym e ∙ f)) ∙ eqb-true y.sequence n q)) (λ _. easy_abort (Some i) _)

  easy_seen : (i : ℕ) (l : Lock) → 0 < (process s.memory p).sizes.writes → Simple (seen_to (task_of blank s.memory p) i l)
  easy_seen i l w = cond_both (eqb l.owner 0) _ _ Simple (λ _. easy_compared i l.sequence _ (read_found i) w) (λ _. easy (L3 i l) refl (omega arith) tt)

  easy_released : (i : ℕ) (z : Option ℕ) → Simple (released (task_of blank s.memory p) i (lock_of blank s i) z)
  easy_released i z = cond_both (eqb (lock_of blank s i).owner p) _ _ Simple (λ _. easy (A2 i (lock_of blank s i).sequence z) refl (omega arith) (λ _. refl)) (λ _. easy_abort z _)

  module _ (t : Tied (lock_of blank s) (value_of blank s) p (own s p)) where
    pub mine_go : (w : Told V) (st : Status) (pl : Place) → Simple pl → Mine (mv blank s p w st pl still keep)
    mine_go w st pl k = tied_go (own s p) st pl k t

    mine_r2 : (i m : ℕ) (b : Bool) → Mine (with_touch (cond b (go (process s.memory p) (R3 i)) (wait (process s.memory p) (R1 i))) (if_said b (recount i (m + 1))))
    mine_r2 i m true = tied_go (own s p) (process s.memory p).status (R3 i) (easy (R3 i) refl (omega arith) tt) t
    mine_r2 i m false = tied_go (own s p) (process s.memory p).status (R1 i) (easy (R1 i) refl (omega arith) tt) t

    mine_d2 : (k m : ℕ) (a : Bool) (j : ℕ) (z : Bool)
        → Mine (with_touch (cond (said (replied blank s.cells (cond z nothing (swap_count j m (m - 1))))) (go (process s.memory p) (count_from (task_of blank s.memory p) (k + 1) a)) (wait (process s.memory p) (D1 k a))) (if_said (said (replied blank s.cells (cond z nothing (swap_count j m (m - 1))))) (touching (cond z nothing (swap_count j m (m - 1))))))
    mine_d2 k m a j true = tied_go (own s p) (process s.memory p).status (D1 k a) (easy (D1 k a) refl (omega arith) tt) t
    mine_d2 k m a j false = go' _
      where
        go' : (b : Bool) → Mine (with_touch (cond b (go (process s.memory p) (count_from (task_of blank s.memory p) (k + 1) a)) (wait (process s.memory p) (D1 k a))) (if_said b (recount j (m - 1))))
        go' true = tied_go (own s p) (process s.memory p).status _ (easy_from (k + 1) a) t
        go' false = tied_go (own s p) (process s.memory p).status (D1 k a) (easy (D1 k a) refl (omega arith) tt) t

    -- in a read nothing is locked
    mine_read : (m : Move V) → ((i : ℕ) → (lock_of blank s i).owner ≡ p → ⊥) → ((i : ℕ) → times i (reads_in (after_own (own s p) m)) ≤ 1) → ((i : ℕ) → times i (writes_in (after_own (own s p) m)) ≡ times i (writes_in (own s p))) → Easy (lock_of blank s) p (reads_in (after_own (own s p) m)) m.process.sizes.writes m.process.place
        → Tied (lock_of blank s) (value_of blank s) p (after_own (own s p) m)
    mine_read m n a b k = tied_loose (after_own (own s p) m) n a (λ i. rw (b i) (t.writes_once i)) k

    mine_r4 : (i : ℕ) (l : Lock) (x : V) (b : Bool) → ((i : ℕ) → (lock_of blank s i).owner ≡ p → ⊥)
        → Once (after_own (own s p) (with_touch (cond b (read_ends (process s.memory p) x (put Reads (process s.memory p).sizes.reads (record { item = i; sequence = l.sequence; value = x }))) (record { tells = going; process = placed (process s.memory p) (R5 i l); note = put Reads (process s.memory p).sizes.reads (record { item = i; sequence = l.sequence; value = x }) })) still))
        → Mine (with_touch (cond b (read_ends (process s.memory p) x (put Reads (process s.memory p).sizes.reads (record { item = i; sequence = l.sequence; value = x }))) (record { tells = going; process = placed (process s.memory p) (R5 i l); note = put Reads (process s.memory p).sizes.reads (record { item = i; sequence = l.sequence; value = x }) })) still)
    mine_r4 i l x true n c =
        let e : Entry V = record { item = i; sequence = l.sequence; value = x } in
        mine_read (with_touch (read_ends (process s.memory p) x (put Reads (process s.memory p).sizes.reads e)) still) n c (λ j. refl) (record { unwritten = refl; enough = omega arith; told = tt })
    mine_r4 i l x false n c =
        let e : Entry V = record { item = i; sequence = l.sequence; value = x } in
        mine_read (mv blank s p going (process s.memory p).status (R5 i l) still (put Reads (process s.memory p).sizes.reads e)) n (λ j. let a = c j in omega arith) (λ j. refl) (record { unwritten = refl; enough = omega arith; told = tt })

    mine_r5 : (e : Option (Entry V)) → ((i : ℕ) → (lock_of blank s i).owner ≡ p → ⊥) → Once (after_own (own s p) (with_touch (settled (process s.memory p) (task_of blank s.memory p) e) still)) → Mine (with_touch (settled (process s.memory p) (task_of blank s.memory p) e) still)
    mine_r5 None n c = mine_read (with_touch (settled (process s.memory p) (task_of blank s.memory p) None) still) n c (λ j. refl) (record { unwritten = refl; enough = omega arith; told = tt })
    mine_r5 (Some x) n c = mine_read (with_touch (settled (process s.memory p) (task_of blank s.memory p) (Some x)) still) n c (λ j. refl) (record { unwritten = refl; enough = omega arith; told = tt })

    mine_k : (b : Bool) → 0 < (process s.memory p).sizes.writes → Mine (with_touch (cond b (record { tells = going; process = decided (process s.memory p) Committed (W 0); note = keep }) (wait (process s.memory p) K)) (if_said b still))
    mine_k true g = tied_go (own s p) Committed (W 0) (record { unwritten = refl; enough = omega arith; told = tt }) t
    mine_k false g = tied_go (own s p) (process s.memory p).status K (easy K refl (omega arith) tt) t

    -- U goes on, with all values written
    freeing : {locks : ℕ → Lock} {values : ℕ → V} (u : Touch V) (o : Option ℕ) → ((i : ℕ) (x : Entry V) → (locks i).owner ≡ p → find i (writes_in (own s p)) ≡ Some x → values i ≡ x.value)
        → ((i : ℕ) (x : Entry V) → (locks i).owner ≡ p → find i (writes_in (own s p)) ≡ Some x → x.sequence ≡ (locks i).sequence + 1)
        → ((i : ℕ) (x : Entry V) → (locks i).owner ≡ p → find i (reads_in (own s p)) ≡ Some x → x.sequence ≡ (locks i).sequence)
        → Tied locks values p (after_own (own s p) (with_touch (unlock_to (process s.memory p) o) u))
    freeing u None a w r = record { reads_once = t.reads_once; writes_once = t.writes_once; enough = omega arith; next = w; same = r; kept = λ i x o f. differ f; told = tt }
    freeing u (Some j) a w r = record { reads_once = t.reads_once; writes_once = t.writes_once; enough = omega arith; next = w; same = r; kept = a; told = tt }

    mine_u : (i n : ℕ) (b : Bool) (o : Option ℕ) (j : ℕ) → (process s.memory p).place ≡ U j → Mine (with_touch (unlock_to (process s.memory p) o) (if_said b (relock i (made_lock 0 n))))
    mine_u i n true o j e = tied_free i n here.low (freeing (relock i (made_lock 0 n)) o (λ k x w f. t.kept k x w (rw e f)) t.next t.same)
    mine_u i n false o j e = freeing still o (λ k x w f. t.kept k x w (rw e f)) t.next t.same

    mine_a2 : (i n : ℕ) (z : Option ℕ) (b : Bool) → Mine (mv blank s p going (process s.memory p).status (abort_to z (next_item (task_of blank s.memory p) (i + 1))) (if_said b (relock i (made_lock 0 n))) keep)
    mine_a2 i n z true = tied_free i n here.low (tied_go (own s p) (process s.memory p).status _ (easy_abort z _) t)
    mine_a2 i n z false = tied_go (own s p) (process s.memory p).status _ (easy_abort z _) t

  -- the write set once the item's entry has taken a number
  abbrev with_number : ℕ → ℕ → Note V → List (Entry V)
  with_number i k u = take (process s.memory p).sizes.writes (after_note (part s p) u Writes)

  pub own_long : length (writes_in (own s p)) ≡ (process s.memory p).sizes.writes
  own_long = length-take-le (process s.memory p).sizes.writes (part s p Writes) (let l = part_long blank s p v.formed here Writes in let w = (v.sane p here).writes in omega arith)

  pub slot_same : (i : ℕ) → write_slot (task_of blank s.memory p) i ≡ slot i (writes_in (own s p))
  slot_same i = ap (slot i) (writes_are blank s p (process s.memory p).sizes.writes (v.sane p here).writes)

  pub slot_has : (i : ℕ) → write_slot (task_of blank s.memory p) i < (process s.memory p).sizes.writes → (get_or (writes_in (own s p)) (write_slot (task_of blank s.memory p) i) (blank_entry blank)).item ≡ i
  slot_has i h = let l = own_long in let a = slot_same i in rw a (slot_item i (writes_in (own s p)) (blank_entry blank) (omega arith))

  number_times : (i k j : ℕ) → times j (with_number i k (numbered (process s.memory p) (task_of blank s.memory p) i k)) ≡ times j (writes_in (own s p))
  number_times i k j =
      cond_both (ltb (write_slot (task_of blank s.memory p) i) (process s.memory p).sizes.writes) _ _ (λ u. times j (with_number i k u) ≡ times j (writes_in (own s p)))
      (λ e. ap (times j) (take_set (process s.memory p).sizes.writes (part s p Writes) (write_slot (task_of blank s.memory p) i) _) ∙ times_like j (writes_in (own s p)) (write_slot (task_of blank s.memory p) i) _ (blank_entry blank) (sym (slot_has i (ltb-true _ _ e))))
      (λ _. refl)

  number_other : (i k j : ℕ) → (j ≡ i → ⊥) → find j (with_number i k (numbered (process s.memory p) (task_of blank s.memory p) i k)) ≡ find j (writes_in (own s p))
  number_other i k j d =
      cond_both (ltb (write_slot (task_of blank s.memory p) i) (process s.memory p).sizes.writes) _ _ (λ u. find j (with_number i k u) ≡ find j (writes_in (own s p)))
      (λ e. ap (find j) (take_set (process s.memory p).sizes.writes (part s p Writes) (write_slot (task_of blank s.memory p) i) _) ∙ find_put_other j (writes_in (own s p)) (write_slot (task_of blank s.memory p) i) _ (blank_entry blank) (λ q. d (sym q ∙ slot_has i (ltb-true _ _ e))) (λ q. d (sym q)))
      (λ _. refl)

  number_same : (i k : ℕ) → times i (writes_in (own s p)) ≤ 1 → (z : Entry V) → find i (with_number i k (numbered (process s.memory p) (task_of blank s.memory p) i k)) ≡ Some z → z.sequence ≡ k
  number_same i k o z =
      cond_both (ltb (write_slot (task_of blank s.memory p) i) (process s.memory p).sizes.writes) _ _ (λ u. find i (with_number i k u) ≡ Some z → z.sequence ≡ k)
      (λ e f. put_there (ltb-true _ _ e) f)
      (λ e f. absurd (let a = slot_found i (writes_in (own s p)) z z f in let b = ltb-false _ _ e in let c = slot_same i in let l = own_long in let d = a.0 in omega arith))
    where
      new : Entry V
      new = record { item = i; sequence = k; value = ((task_of blank s.memory p).entry Writes (write_slot (task_of blank s.memory p) i)).value }

      put_there : write_slot (task_of blank s.memory p) i < (process s.memory p).sizes.writes → find i (take (process s.memory p).sizes.writes (set (part s p Writes) (write_slot (task_of blank s.memory p) i) new)) ≡ Some z → z.sequence ≡ k
      put_there h f =
          let a : find i (take (process s.memory p).sizes.writes (set (part s p Writes) (write_slot (task_of blank s.memory p) i) new)) ≡ Some new = ap (find i) (take_set (process s.memory p).sizes.writes (part s p Writes) (write_slot (task_of blank s.memory p) i) new) ∙ find_put i (writes_in (own s p)) (write_slot (task_of blank s.memory p) i) new (blank_entry blank) o (let l = own_long in omega arith) (slot_has i h) refl in
          ap (λ (y : Entry V). y.sequence) (same_some (sym f ∙ a))

  numbered_reads : (i k : ℕ) → take (process s.memory p).sizes.reads (after_note (part s p) (numbered (process s.memory p) (task_of blank s.memory p) i k) Reads) ≡ reads_in (own s p)
  numbered_reads i k = cond_both (ltb (write_slot (task_of blank s.memory p) i) (process s.memory p).sizes.writes) _ _ (λ u. take (process s.memory p).sizes.reads (after_note (part s p) u Reads) ≡ reads_in (own s p)) (λ _. refl) (λ _. refl)

  module _ (t : Tied (lock_of blank s) (value_of blank s) p (own s p)) where
    mine_l4 : (i n : ℕ) (b : Bool) → (process s.memory p).place ≡ L4 i n → Mine (with_touch (cond b (locked (process s.memory p) (task_of blank s.memory p) i n) (wait (process s.memory p) (L1 i))) (if_said b (relock i (made_lock p n))))
    mine_l4 i n false g = tied_go (own s p) (process s.memory p).status (L1 i) (easy (L1 i) refl (rw g at t.enough) tt) t
    mine_l4 i n true g =
        let k = easy_lock (next_item (task_of blank s.memory p) (i + 1)) (rw g at t.enough) in
        let told : (x : Entry V) → find i (reads_in (own s p)) ≡ Some x → x.sequence ≡ n = rw g at t.told in
        let at_i : upd (lock_of blank s) i (made_lock p n) i ≡ made_lock p n = upd_same (lock_of blank s) i (made_lock p n) in
        let low = numbered_reads i (n + 1) in
        record {
          reads_once = λ j. rw low (t.reads_once j);
          writes_once = λ j. rw (number_times i (n + 1) j) (t.writes_once j);
          enough = k.enough;
          next = λ j x o f. elim (cases_eq j i) [
            | inl e ↦ rw (e, at_i) (number_same i (n + 1) (t.writes_once i) x (rw e at f))
            | inr d ↦ (let u = upd_other (lock_of blank s) i j (made_lock p n) d in rw u (t.next j x (rw u at o) (sym (number_other i (n + 1) j d) ∙ f)))
          ];
          same = λ j x o f. elim (cases_eq j i) [
            | inl e ↦ rw (e, at_i) (told x (rw (e, low) at f))
            | inr d ↦ (let u = upd_other (lock_of blank s) i j (made_lock p n) d in rw u (t.same j x (rw u at o) (rw low at f)))
          ];
          kept = λ j x o f. differ (rw k.unwritten at f);
          told = lock_told _ _ (next_item (task_of blank s.memory p) (i + 1));
        }
      where
        lock_told : (locks : ℕ → Lock) (es : List (Entry V)) (o : Option ℕ) → NumberIs locks p es (stage (lock_to o)).named (stage (lock_to o)).number
        lock_told locks es None = tt
        lock_told locks es (Some j) = tt

    abbrev entry_now : ℕ → Entry V
    entry_now k = (task_of blank s.memory p).entry Writes k

    -- W k writes entry k
    now_written : (k : ℕ) → (process s.memory p).place ≡ W k → k + 1 ≤ (process s.memory p).sizes.writes
        → (i : ℕ) (x : Entry V) → (lock_of blank s i).owner ≡ p → find i (take (k + 1) (part s p Writes)) ≡ Some x → upd (value_of blank s) (entry_now k).item (entry_now k).value i ≡ x.value
    now_written k g le i x o f =
        let fit = (v.sane p here).writes in
        let long = part_long blank s p v.formed here Writes in
        let it : entry_now k ≡ get_or (part s p Writes) k (blank_entry blank) = entry_is blank s p Writes k (omega arith) in
        let last : get_or (take (k + 1) (part s p Writes)) k (blank_entry blank) ≡ entry_now k = get_or-take (k + 1) (part s p Writes) k (blank_entry blank) (omega arith) ∙ sym it in
        let size : length (take (k + 1) (part s p Writes)) ≡ k + 1 = length-take-le (k + 1) (part s p Writes) (omega arith) in
        let once : times i (take (k + 1) (part s p Writes)) ≤ 1 = (let a = times_take i (k + 1) (process s.memory p).sizes.writes (part s p Writes) le in let b = t.writes_once i in omega arith) in
        elim (cases_eq i (entry_now k).item) [
          | inl e ↦ (let a = find_at i (take (k + 1) (part s p Writes)) k (blank_entry blank) once (omega arith) (ap item_of last ∙ sym e) in
              rw e (upd_same (value_of blank s) (entry_now k).item (entry_now k).value) ∙ ap (λ (z : Entry V). z.value) (sym last ∙ same_some (sym a ∙ f)))
          | inr d ↦ (let a : find i (take (k + 1) (part s p Writes)) ≡ find i (take k (part s p Writes)) = ap (find i) (take_more (part s p Writes) k (entry_now k) (omega arith)) ∙ find_push_other i (take k (part s p Writes)) (get_or (part s p Writes) k (entry_now k)) (λ q. d (sym q ∙ ap item_of (last_any k it long le fit))) in
              upd_other (value_of blank s) (entry_now k).item i (entry_now k).value d ∙ t.kept i x o (rw g (sym a ∙ f)))
        ]
      where
        last_any : (k : ℕ) → entry_now k ≡ get_or (part s p Writes) k (blank_entry blank) → length (part s p Writes) ≡ 8 → k + 1 ≤ (process s.memory p).sizes.writes → (process s.memory p).sizes.writes ≤ 8 → get_or (part s p Writes) k (entry_now k) ≡ entry_now k
        last_any k it long le fit = get_or_default (part s p Writes) k (entry_now k) (blank_entry blank) (omega arith) ∙ sym it

    -- p has locked the item that it writes, so the bank has it
    pub writes_own : (k : ℕ) → k + 1 ≤ (process s.memory p).sizes.writes → Owns (lock_of blank s) (data_set (own s p)) whole p → ((lock_of blank s (entry_now k).item).owner ≡ p) × (has s.cells (entry_now k).item ≡ true)
    writes_own k le o =
        let fit = (v.sane p here).writes in
        let it : entry_now k ≡ get_or (part s p Writes) k (blank_entry blank) = entry_is blank s p Writes k (omega arith) in
        let there : (get_or (writes_in (own s p)) k (blank_entry blank)).item ≡ (entry_now k).item = ap item_of (get_or-take (process s.memory p).sizes.writes (part s p Writes) k (blank_entry blank) (omega arith) ∙ sym it) in
        let some = times_some (entry_now k).item (writes_in (own s p)) k (blank_entry blank) (let l = own_long in omega arith) there in
        let mine : (lock_of blank s (entry_now k).item).owner ≡ p = o.owned (entry_now k).item (omega arith) in
        (mine, cell_there blank s.cells (entry_now k).item (let l = here.low in omega arith))

    mine_w : (k : ℕ) (b : Bool) → (process s.memory p).place ≡ W k → ltb (k + 1) (process s.memory p).sizes.writes ≡ b
        → Mine (with_touch (cond b (go (process s.memory p) (W (k + 1))) (unlock_to (process s.memory p) (next_item (task_of blank s.memory p) 0))) (revalue (entry_now k).item (entry_now k).value))
    mine_w k true g lt =
        let le = ltb-true (k + 1) (process s.memory p).sizes.writes lt in
        record { reads_once = t.reads_once; writes_once = t.writes_once; enough = omega arith; next = t.next; same = t.same; kept = λ i x o f. now_written k g (omega arith) i x o f; told = tt }
    mine_w k false g lt =
        let ge = ltb-false (k + 1) (process s.memory p).sizes.writes lt in
        let en : k + 1 ≤ (process s.memory p).sizes.writes = rw g at t.enough in
        let z : (process s.memory p).sizes.writes ≡ k + 1 = omega arith in
        freeing t (revalue (entry_now k).item (entry_now k).value) (next_item (task_of blank s.memory p) 0) (λ i x o f. now_written k g en i x o (rw z at f)) t.next t.same

    -- what a row must show of its process
    pub record RowTied (m : Move V) : Type 0 where
      pub value : OwnValue (lock_of blank s) p m.touch
      pub mine : Mine m

    row_w : (k : ℕ) (d : Bool) → d ≡ true → (process s.memory p).place ≡ W k → Owns (lock_of blank s) (data_set (own s p)) whole p
        → RowTied (with_touch (cond (ltb (k + 1) (process s.memory p).sizes.writes) (go (process s.memory p) (W (k + 1))) (unlock_to (process s.memory p) (next_item (task_of blank s.memory p) 0))) (if_said d (revalue (entry_now k).item (entry_now k).value)))
    row_w k d said_yes g o = let en : k + 1 ≤ (process s.memory p).sizes.writes = rw g at t.enough in rw said_yes (record { value = (writes_own k en o).0; mine = mine_w k (ltb (k + 1) (process s.memory p).sizes.writes) g refl })

    nothing_own : Owns (lock_of blank s) (data_set (own s p)) none p → (i : ℕ) → (lock_of blank s i).owner ≡ p → ⊥
    nothing_own o i e = let y = o.owner i e in omega arith

    -- a touch of no value
    abbrev pub NoValue : Touch V → Type 0
    NoValue still = Unit {0}
    NoValue (recount i n) = Unit {0}
    NoValue (relock i l) = Unit {0}
    NoValue (revalue i x) = ⊥

    no_value : (b : Bool) (u : Touch V) → NoValue u → OwnValue (lock_of blank s) p (if_said b u)
    no_value false u h = tt
    no_value true still h = tt
    no_value true (recount i n) h = tt
    no_value true (relock i l) h = tt
    no_value true (revalue i x) h = absurd h

    pub row_tied : (pl : Place) → (process s.memory p).place ≡ pl → (traits pl).under_way ≡ true → Owns (lock_of blank s) (data_set (own s p)) (grip pl) p → Once (after_own (own s p) (row_at blank s p pl)) → RowTied (row_at blank s p pl)
    row_tied Closed e d o c = absurd (both_ways true (sym d) refl)
    row_tied Idle e d o c = absurd (both_ways true (sym d) refl)
    row_tied (R1 i) e d o c = record { value = tt; mine = mine_go t going (process s.memory p).status (R2 i _) (easy (R2 i _) refl (omega arith) tt) }
    row_tied (R2 i m) e d o c = record { value = no_value _ (recount i _) tt; mine = mine_r2 t i m _ }
    row_tied (R3 i) e d o c = record { value = tt; mine = mine_go t going (process s.memory p).status (R4 i _) (easy (R4 i _) refl (omega arith) tt) }
    row_tied (R4 i l) e d o c = record { value = tt; mine = mine_r4 t i l _ (eqb l.owner 0) (nothing_own o) c }
    row_tied (R5 i l) e d o c = record { value = tt; mine = mine_r5 t _ (nothing_own o) c }
    row_tied (D1 k a) e d o c = record { value = tt; mine = mine_go t going (process s.memory p).status (D2 k _ a) (easy (D2 k _ a) refl (omega arith) tt) }
    row_tied (D2 k m a) e d o c = record { value = d2_value (eqb m 0); mine = mine_d2 t k m a _ (eqb m 0) }
      where
        d2_value : (z : Bool) → OwnValue {V = V} (lock_of blank s) p (if_said (said (replied blank s.cells (cond z nothing (swap_count ((task_of blank s.memory p).entry Reads k).item m (m - 1))))) (touching (cond z nothing (swap_count ((task_of blank s.memory p).entry Reads k).item m (m - 1)))))
        d2_value true = tt
        d2_value false = no_value _ (recount _ _) tt
    row_tied C e d o c = record { value = tt; mine = mine_go t committed Committed Closed (easy Closed refl (omega arith) tt) }
    row_tied (L1 i) e d o c = record { value = tt; mine = mine_go t going (process s.memory p).status (L2 i _) (easy (L2 i _) refl (rw e at t.enough) tt) }
    row_tied (L2 i l) e d o c = record { value = tt; mine = mine_go t going (process s.memory p).status _ (easy_seen i l (rw e at t.enough)) }
    row_tied (L3 i l) e d o c = record { value = tt; mine = mine_go t going (process s.memory p).status _ (easy_compared i _ _ (read_found i) (rw e at t.enough)) }
    row_tied (L4 i m) e d o c = record { value = no_value _ (relock i _) tt; mine = mine_l4 i m _ e }
    row_tied K e d o c = record { value = no_value _ still tt; mine = mine_k t _ (rw e at t.enough) }
    row_tied (W k) e d o c = row_w k _ (writes_own k (rw e at t.enough) o).1 e o
    row_tied (U i) e d o c = record { value = no_value _ (relock i _) tt; mine = mine_u t i _ _ _ i e }
    row_tied (A1 i z) e d o c = record { value = tt; mine = mine_go t going (process s.memory p).status _ (easy_released i z) }
    row_tied (A2 i m z) e d o c = record { value = no_value _ (relock i _) tt; mine = mine_a2 t i m z _ }
    row_tied (A3 z) e d o c = record { value = tt; mine = mine_go t (aborted z) Aborted Closed (easy Closed refl (omega arith) tt) }
