-- A row changes the owners of items as it changes what its process has locked.
use Rattle.std.proofs.Common.{◌≡◌, ℕ, ◌+◌, ◌-◌, ◌^◌, ◌<◌, ◌≤◌, Bool, true, false, cond, ◌&&◌, eqb, ltb, leb, ◌⊎◌, List, length, get_or, take, set, Some, None, Option, sym, refl, ap, ◌∙◌, subst, inl, inr, arith}
use mathlib.Core.Path.{fun_ext}
use Rattle.std.proofs.lemmas.Bool.{and_parts, and_from, both_ways, cases_eq, cond_both, eqb-true, eqb-false, ltb-true, ltb-false, le-leb}
use Rattle.std.proofs.lemmas.Bool.Decides.{nat_tests}
use Rattle.std.proofs.lemmas.List.{get_or_past, length-take-le}
use Rattle.bank.specs.Cells.{absent, cell_at, has, storable, same_lock, stores_lock, swaps_lock}
use Rattle.bank.specs.declared.lock.Lock.{Lock}
use Rattle.bank.specs.declared.record.Record.{Record}
use Rattle.table.specs.Sets.{blank_entry, slot}
use Rattle.table.specs.Tasks.{in_reads, write_slot, next_item, sequence_or}
use Rattle.table.specs.declared.entry.Entry.{Entry}
use Rattle.table.specs.declared.entry.Part.TheVariants.{Writes}
use Rattle.rows.specs.Places.{lock_of as made_lock, lock_to, abort_to, counted_out, count_from, compared_with, seen_to}
use Rattle.rows.specs.Primitives.{nothing, swap_count, Touch, still, relock, revalue, recount, replied, said, touching, if_said}
use Rattle.rows.specs.declared.place.Place.{Place}
use Rattle.rows.specs.declared.place.Place.TheVariants.{Closed, Idle, R1, R2, R3, R4, R5, D1, D2, C, L1, L2, L3, L4, K, W, U, A1, A2, A3}
use Rattle.process.specs.Moves.{Note, keep, Move}
use Rattle.process.specs.Rows.{placed, decided, go, wait, read_ends, unlock_to, settled, numbered, locked}
use Rattle.process.specs.Tells.{Told, going, waiting}
use Rattle.process.specs.Traits.{traits}
use Rattle.process.specs.declared.record.Status.TheVariants.{Committed}
use Rattle.store.specs.Model.{State, process, task_of, moved}
use Rattle.store.specs.Rows.{owned}
use Rattle.history.specs.Invariants.{Formed, Here, Own, part, own, reads_in, writes_in, times, Counts, Grip, none, below, whole, above, window_to, grip, hold, HeldAt, Owns, data_set, OwnsItems, Owner, Numbers, stage, lock_of}
use Rattle.history.proofs.Views.{take_set, upd, upd_same, upd_other, after_lock, after_own, RealTouch, RealNote, locks_after, mine_after, others_after, part_long, writes_are}
use Rattle.history.proofs.Sums.{times_like, slot_item}
use Rattle.history.proofs.Counting.{with_touch, row_at, mv}
use Rattle.history.proofs.Next.{Lowest, next_lowest}
use Rattle.history.proofs.Numbering.{unlock_most}

abbrev pub inside_of : Option ℕ → ℕ → ℕ → ℕ
inside_of None h i = 0
inside_of (Some c) h i = cond (ltb i c) h 0

module _ (h : ℕ → ℕ) where
  pub lock_hold : (from : ℕ) (o : Option ℕ) → Lowest h from o → (i : ℕ) → hold (grip (lock_to o)) (h i) i ≡ cond (ltb i from) (h i) 0
  lock_hold from None l i = let k = l i in grind (arith, nat_tests)
  lock_hold from (Some j) l i = let k = l.2 i in let a = l.0 in grind (arith, nat_tests)

  pub unlock_hold : (from : ℕ) (j : ℕ) → Lowest h from (Some j) → (i : ℕ) → hold (above j) (h i) i ≡ cond (leb from i) (h i) 0
  unlock_hold from j l i = let k = l.2 i in let a = l.0 in grind (arith, nat_tests)

  pub unlock_none : (from : ℕ) → Lowest h from None → (i : ℕ) → 0 ≡ cond (leb from i) (h i) 0
  unlock_none from l i = let k = l i in grind (arith, nat_tests)

  pub abort_hold : (from : ℕ) (z o : Option ℕ) → Lowest h from o → (i : ℕ) → hold (grip (abort_to z o)) (h i) i ≡ cond (leb from i) (inside_of z (h i) i) 0
  abort_hold from None None l i = grind (arith, nat_tests)
  abort_hold from None (Some j) l i = grind (arith, nat_tests)
  abort_hold from (Some c) None l i = let k = l i in grind (arith, nat_tests)
  abort_hold from (Some c) (Some j) l i = let k = l.2 i in let a = l.0 in grind (arith, nat_tests)

owns_like : {locks : ℕ → Lock} (h h' : ℕ → ℕ) (g g' : Grip) {p : ℕ} → ((i : ℕ) → hold g' (h' i) i ≡ hold g (h i) i) → Owns locks h g p → Owns locks h' g' p
owns_like h h' g g' e o = record { owner = λ i x. rw (e i) (o.owner i x); owned = λ i x. o.owned i (rw (e i) at x) }

owns_relock : (locks : ℕ → Lock) (h h' : ℕ → ℕ) (g g' : Grip) (p j : ℕ) (l : Lock) → ((i : ℕ) → (i ≡ j → ⊥) → hold g' (h' i) i ≡ hold g (h i) i) → (l.owner ≡ p → 0 < hold g' (h' j) j) → (0 < hold g' (h' j) j → l.owner ≡ p) → Owns locks h g p → Owns (upd locks j l) h' g' p
owns_relock locks h h' g g' p j l e a b o =
    record {
      owner = λ i x. elim (cases_eq i j) [ inl q ↦ rw q (a (sym (ap (λ y. y.owner) (upd_same locks j l)) ∙ (rw q at x))) | inr d ↦ rw (e i d) (o.owner i (sym (ap (λ y. y.owner) (upd_other locks j i l d)) ∙ x)) ];
      owned = λ i x. elim (cases_eq i j) [ inl q ↦ rw q (ap (λ y. y.owner) (upd_same locks j l) ∙ b (rw q at x)) | inr d ↦ ap (λ y. y.owner) (upd_other locks j i l d) ∙ o.owned i (rw (e i d) at x) ];
    }

module _ {V : Type 0} where
  -- a move of p relocks only what is free or its own, for itself or for no one
  abbrev pub Fair : (ℕ → Lock) → ℕ → Touch V → Type 0
  Fair locks p still = Unit {0}
  Fair locks p (recount i n) = Unit {0}
  Fair locks p (relock i l) = (((locks i).owner ≡ 0) ⊎ ((locks i).owner ≡ p)) × ((l.owner ≡ 0) ⊎ (l.owner ≡ p))
  Fair locks p (revalue i v) = Unit {0}

  fair_other : (locks : ℕ → Lock) (p q : ℕ) (t : Touch V) → Fair locks p t → 0 < q → (q ≡ p → ⊥) → (i : ℕ) → ((after_lock locks t i).owner ≡ q → (locks i).owner ≡ q) × ((locks i).owner ≡ q → (after_lock locks t i).owner ≡ q)
  fair_other locks p q still f l d i = (λ e. e, λ e. e)
  fair_other locks p q (recount j n) f l d i = (λ e. e, λ e. e)
  fair_other locks p q (revalue j v) f l d i = (λ e. e, λ e. e)
  fair_other locks p q (relock j k) f l d i = elim (cases_eq i j) [
    | inl e ↦ (let a : (after_lock {V = V} locks (relock j k) i).owner ≡ k.owner = rw e (ap (λ x. x.owner) (upd_same locks j k)) in let b : (locks i).owner ≡ (locks j).owner = ap (λ x. (locks x).owner) e in let f0 = f.0 in let f1 = f.1 in (λ x. absurd (omega arith), λ x. absurd (omega arith)))
    | inr n ↦ (let a : (after_lock {V = V} locks (relock j k) i).owner ≡ (locks i).owner = ap (λ x. x.owner) (upd_other locks j i k n) in (λ x. sym a ∙ x, λ x. a ∙ x))
  ]

  fair_known : (locks : ℕ → Lock) (p n : ℕ) (t : Touch V) → Fair locks p t → p ≤ n → ((i : ℕ) → (locks i).owner ≤ n) → (i : ℕ) → (after_lock locks t i).owner ≤ n
  fair_known locks p n still f l h i = h i
  fair_known locks p n (recount j m) f l h i = h i
  fair_known locks p n (revalue j v) f l h i = h i
  fair_known locks p n (relock j k) f l h i = cond_both (eqb i j) k (locks i) (λ (x : Lock). x.owner ≤ n) (λ _. let f1 = f.1 in omega arith) (λ _. h i)

module _ {V : Type 0} (blank : V) where
  pub owner_move : (s : State V) (p : ℕ) (m : Move V) → Formed s → Here s p → RealTouch s.cells m.touch → RealNote m.note → Fair (lock_of blank s) p m.touch
      → OwnsItems (after_lock (lock_of blank s) m.touch) (after_own (own s p) m) p → HeldAt (data_set (after_own (own s p) m)) m.process.place → Owner blank s → Owner blank (moved blank s p m)
  owner_move s p m f h rt rn fair o hd n =
      record {
        known = λ i. subst (λ (l : Lock). l.owner ≤ s.memory.number) (sym (locks_after blank s.cells m.touch rt i)) (fair_known (lock_of blank s) p s.memory.number m.touch fair h.high n.known i);
        each = λ q hq. elim (cases_eq q p) [
          | inl e ↦ rw e (mine o)
          | inr d ↦ other q hq d (n.each q (record { low = hq.low; high = hq.high }))
        ];
        held = λ q hq. elim (cases_eq q p) [
          | inl e ↦ rw e (subst (λ (x : Own V). HeldAt (data_set x) x.process.place) (sym (mine_after blank s p m f h rn)) hd)
          | inr d ↦ subst (λ (x : Own V). HeldAt (data_set x) x.process.place) (sym (others_after blank s p q m h hq.low d rn)) (n.held q (record { low = hq.low; high = hq.high }))
        ];
      }
    where
      same : (i : ℕ) → (lock_of blank (moved blank s p m) i).owner ≡ (after_lock (lock_of blank s) m.touch i).owner
      same i = ap (λ l. l.owner) (locks_after blank s.cells m.touch rt i)

      mine : OwnsItems (after_lock (lock_of blank s) m.touch) (after_own (own s p) m) p → OwnsItems (lock_of blank (moved blank s p m)) (own (moved blank s p m) p) p
      mine o = subst (λ (x : Own V). OwnsItems (lock_of blank (moved blank s p m)) x p) (sym (mine_after blank s p m f h rn)) (record { owner = λ i x. o.owner i (sym (same i) ∙ x); owned = λ i x. same i ∙ o.owned i x })

      other : (q : ℕ) → Here (moved blank s p m) q → (q ≡ p → ⊥) → OwnsItems (lock_of blank s) (own s q) q → OwnsItems (lock_of blank (moved blank s p m)) (own (moved blank s p m) q) q
      other q hq d o = subst (λ (x : Own V). OwnsItems (lock_of blank (moved blank s p m)) x q) (sym (others_after blank s p q m h hq.low d rn)) (record { owner = λ i x. o.owner i ((fair_other (lock_of blank s) p q m.touch fair hq.low d i).0 (sym (same i) ∙ x)); owned = λ i x. same i ∙ (fair_other (lock_of blank s) p q m.touch fair hq.low d i).1 (o.owned i x) })

  -- an item with an owner is one of the bank's
  pub cell_there : (cs : List (Record V)) (i : ℕ) → 0 < (cell_at blank cs i).lock.owner → has cs i ≡ true
  cell_there cs i h = go (has cs i) refl
    where
      go : (b : Bool) → has cs i ≡ b → b ≡ true
      go true e = refl
      go false e = absurd (let z : (cell_at blank cs i).lock.owner ≡ 0 = ap (λ (c : Record V). c.lock.owner) (get_or_past cs i (absent blank) (ltb-false i (length cs) e)) in omega arith)

  -- a lock that was taken had no owner
  pub took_free : (cs : List (Record V)) (i n : ℕ) (l : Lock) → swaps_lock blank cs i (made_lock 0 n) l ≡ true → (cell_at blank cs i).lock.owner ≡ 0
  took_free cs i n l h = eqb-true _ 0 (and_parts _ _ (and_parts (has cs i && storable l) (same_lock (cell_at blank cs i).lock (made_lock 0 n)) h).1).0

module _ {V : Type 0} (blank : V) (s : State V) (p : ℕ) (v : Counts blank s) (here : Here s p) where
  abbrev pub has_item : ℕ → ℕ
  has_item = data_set (own s p)

  -- what a row must show of its process
  pub record Kept (m : Move V) : Type 0 where
    pub fair : Fair (lock_of blank s) p m.touch
    pub owns : OwnsItems (after_lock (lock_of blank s) m.touch) (after_own (own s p) m) p
    pub held : HeldAt (data_set (after_own (own s p) m)) m.process.place

  goes : (w : Told V) (g : Grip) (pl : Place) → Owns (lock_of blank s) has_item g p → ((i : ℕ) → hold (grip pl) (has_item i) i ≡ hold g (has_item i) i) → HeldAt has_item pl → Kept (mv blank s p w (process s.memory p).status pl still keep)
  goes w g pl o e k = record { fair = tt; owns = owns_like has_item has_item g (grip pl) e o; held = k }

  next : (from : ℕ) → Lowest has_item from (next_item (task_of blank s.memory p) from)
  next from = next_lowest blank s p from (v.sane p here).reads (v.sane p here).writes

  held_lock : (from : ℕ) (o : Option ℕ) → Lowest has_item from o → HeldAt has_item (lock_to o)
  held_lock from None l = tt
  held_lock from (Some j) l = l.1

  held_abort : (z o : Option ℕ) → HeldAt has_item (abort_to z o)
  held_abort z None = tt
  held_abort z (Some j) = tt

  abbrev pub Takes : ℕ → Place → Type 0
  Takes i pl = ((x : ℕ) → hold (grip pl) (has_item x) x ≡ hold (below i) (has_item x) x) × HeldAt has_item pl

  abbrev pub TakesNone : Place → Type 0
  TakesNone pl = ((x : ℕ) → hold (grip pl) (has_item x) x ≡ 0) × HeldAt has_item pl

  out_held : (a : Bool) → TakesNone (counted_out (task_of blank s.memory p) a)
  out_held true = (λ i. abort_hold has_item 0 None _ (next 0) i ∙ grind (arith, nat_tests), held_abort None _)
  out_held false = cond_both (eqb (process s.memory p).sizes.writes 0) _ _ TakesNone (λ _. (λ i. refl, tt)) (λ _. (λ i. lock_hold has_item 0 _ (next 0) i ∙ grind (arith, nat_tests), held_lock 0 _ (next 0)))

  pub from_held : (k : ℕ) (a : Bool) → TakesNone (count_from (task_of blank s.memory p) k a)
  from_held k a = cond_both (ltb k (process s.memory p).sizes.reads) _ _ TakesNone (λ _. (λ i. refl, tt)) (λ _. out_held a)

  compared_held : (i n : ℕ) (o : Option (Entry V)) → 0 < has_item i → Takes i (compared_with (task_of blank s.memory p) i n o)
  compared_held i n None h = (λ x. refl, h)
  compared_held i n (Some e) h = cond_both (eqb e.sequence n) _ _ (Takes i) (λ _. (λ x. refl, h)) (λ _. (λ x. abort_hold has_item 0 (Some i) _ (next 0) x ∙ grind (arith, nat_tests), held_abort (Some i) _))

  seen_held : (i : ℕ) (l : Lock) → 0 < has_item i → Takes i (seen_to (task_of blank s.memory p) i l)
  seen_held i l h = cond_both (eqb l.owner 0) _ _ (Takes i) (λ _. compared_held i l.sequence _ h) (λ _. (λ x. refl, h))

  -- a row in which nothing is locked before or after
  pub kept_none : (m : Move V) → Fair (lock_of blank s) p m.touch → ((i : ℕ) → after_lock (lock_of blank s) m.touch i ≡ lock_of blank s i) → grip m.process.place ≡ none → HeldAt (data_set (after_own (own s p) m)) m.process.place → Owns (lock_of blank s) has_item none p → Kept m
  kept_none m f e g k o =
      record {
        fair = f;
        owns = record { owner = λ i x. absurd (let y = o.owner i (sym (ap (λ l. l.owner) (e i)) ∙ x) in omega arith); owned = λ i x. absurd (let y = rw g at x in omega arith) };
        held = k;
      }

  kept_r2 : (i m : ℕ) (b : Bool) → Owns (lock_of blank s) has_item none p → Kept (with_touch (cond b (go (process s.memory p) (R3 i)) (wait (process s.memory p) (R1 i))) (if_said b (recount i (m + 1))))
  kept_r2 i m true o = kept_none _ tt (λ _. refl) refl tt o
  kept_r2 i m false o = kept_none _ tt (λ _. refl) refl tt o

  kept_r4 : (i : ℕ) (l : Lock) (x : V) (b : Bool) (u : Note V) → Owns (lock_of blank s) has_item none p
      → Kept (with_touch (cond b (read_ends (process s.memory p) x u) (record { tells = going; process = placed (process s.memory p) (R5 i l); note = u })) still)
  kept_r4 i l x true u o = kept_none _ tt (λ _. refl) refl tt o
  kept_r4 i l x false u o = kept_none _ tt (λ _. refl) refl tt o

  kept_r5 : (e : Option (Entry V)) → Owns (lock_of blank s) has_item none p → Kept (with_touch (settled (process s.memory p) (task_of blank s.memory p) e) still)
  kept_r5 None o = kept_none _ tt (λ _. refl) refl tt o
  kept_r5 (Some e) o = kept_none _ tt (λ _. refl) refl tt o

  kept_d2 : (k m : ℕ) (a : Bool) (j : ℕ) (z : Bool) → Owns (lock_of blank s) has_item none p
      → Kept (with_touch (cond (said (replied blank s.cells (cond z nothing (swap_count j m (m - 1))))) (go (process s.memory p) (count_from (task_of blank s.memory p) (k + 1) a)) (wait (process s.memory p) (D1 k a))) (if_said (said (replied blank s.cells (cond z nothing (swap_count j m (m - 1))))) (touching (cond z nothing (swap_count j m (m - 1))))))
  kept_d2 k m a j true o = kept_none _ tt (λ _. refl) refl tt o
  kept_d2 k m a j false o = go' _
    where
      go' : (b : Bool) → Kept (with_touch (cond b (go (process s.memory p) (count_from (task_of blank s.memory p) (k + 1) a)) (wait (process s.memory p) (D1 k a))) (if_said b (recount j (m - 1))))
      go' true = let f = from_held (k + 1) a in record { fair = tt; owns = owns_like has_item has_item none _ f.0 o; held = f.1 }
      go' false = kept_none _ tt (λ _. refl) refl tt o

  -- the entry of the write set that takes a number keeps its item
  pub numbered_has : (i n x : ℕ) → data_set (after_own (own s p) (mv blank s p going (process s.memory p).status K still (numbered (process s.memory p) (task_of blank s.memory p) i n))) x ≡ has_item x
  numbered_has i n x =
      cond_both (ltb (write_slot (task_of blank s.memory p) i) (process s.memory p).sizes.writes) _ _ (λ u. data_set (after_own (own s p) (mv blank s p going (process s.memory p).status K still u)) x ≡ has_item x)
      (λ e. kept (ltb-true _ _ e)) (λ _. refl)
    where
      ws : List (Entry V)
      ws = writes_in (own s p)

      same : (task_of blank s.memory p).writes ≡ ws
      same = writes_are blank s p (process s.memory p).sizes.writes (v.sane p here).writes

      long : length ws ≡ (process s.memory p).sizes.writes
      long = length-take-le (process s.memory p).sizes.writes (part s p Writes) (let l = part_long blank s p v.formed here Writes in let w = (v.sane p here).writes in omega arith)

      kept : write_slot (task_of blank s.memory p) i < (process s.memory p).sizes.writes
          → times x (reads_in (own s p)) + times x (take (process s.memory p).sizes.writes (set (part s p Writes) (write_slot (task_of blank s.memory p) i) (record { item = i; sequence = n; value = ((task_of blank s.memory p).entry Writes (write_slot (task_of blank s.memory p) i)).value }))) ≡ has_item x
      kept h =
          let at : slot i (task_of blank s.memory p).writes ≡ slot i ws = ap (slot i) same in
          let it : (get_or ws (slot i (task_of blank s.memory p).writes) (blank_entry blank)).item ≡ i = rw at (slot_item i ws (blank_entry blank) (let l = long in omega arith)) in
          ap (λ a. times x (reads_in (own s p)) + a) (ap (times x) (take_set (process s.memory p).sizes.writes (part s p Writes) (write_slot (task_of blank s.memory p) i) _) ∙ times_like x ws (write_slot (task_of blank s.memory p) i) _ (blank_entry blank) (sym it))

  kept_l4 : (i n : ℕ) (b : Bool) → swaps_lock blank s.cells i (made_lock 0 n) (made_lock p n) ≡ b → Owns (lock_of blank s) has_item (below i) p → 0 < has_item i
      → Kept (with_touch (cond b (locked (process s.memory p) (task_of blank s.memory p) i n) (wait (process s.memory p) (L1 i))) (if_said b (relock i (made_lock p n))))
  kept_l4 i n false e o h = goes waiting (below i) (L1 i) o (λ _. refl) h
  kept_l4 i n true e o h =
      let m : Move V = with_touch (locked (process s.memory p) (task_of blank s.memory p) i n) (relock i (made_lock p n)) in
      let has' : ℕ → ℕ = data_set (after_own (own s p) m) in
      let eq : (x : ℕ) → has' x ≡ has_item x = λ x. numbered_has i (n + 1) x in
      let at : (x : ℕ) → hold (grip (lock_to (next_item (task_of blank s.memory p) (i + 1)))) (has' x) x ≡ cond (ltb x (i + 1)) (has_item x) 0 = λ x. rw (eq x) (lock_hold has_item (i + 1) _ (next (i + 1)) x) in
      record {
        fair = (inl (took_free blank s.cells i n (made_lock p n) e), inr refl);
        owns = owns_relock (lock_of blank s) has_item has' (below i) (grip (lock_to (next_item (task_of blank s.memory p) (i + 1)))) p i (made_lock p n) (λ x d. at x ∙ grind (arith, nat_tests)) (λ _. rw (at i) (grind (arith, nat_tests))) (λ _. refl) o;
        held = subst (λ f. HeldAt f (lock_to (next_item (task_of blank s.memory p) (i + 1)))) (sym (fun_ext eq)) (held_lock (i + 1) _ (next (i + 1)));
      }

  kept_k : (b : Bool) → Owns (lock_of blank s) has_item whole p → Kept (with_touch (cond b (record { tells = going; process = decided (process s.memory p) Committed (W 0); note = keep }) (wait (process s.memory p) K)) (if_said b still))
  kept_k true o = record { fair = tt; owns = o; held = tt }
  kept_k false o = goes waiting whole K o (λ _. refl) tt

  -- U goes on from an item
  unlock_on : (from : ℕ) (t : Touch V) (o : Option ℕ) → Lowest has_item from o → Fair (lock_of blank s) p t → Owns (after_lock (lock_of blank s) t) has_item (above from) p → Kept (with_touch (unlock_to (process s.memory p) o) t)
  unlock_on from t None l f o = record { fair = f; owns = owns_like has_item has_item (above from) none (λ i. unlock_none has_item from l i) o; held = tt }
  unlock_on from t (Some j) l f o = record { fair = f; owns = owns_like has_item has_item (above from) (above j) (λ i. unlock_hold has_item from j l i) o; held = l.1 }

  kept_w : (k : ℕ) (i : ℕ) (x : V) (b d : Bool) → Owns (lock_of blank s) has_item whole p → Kept (with_touch (cond b (go (process s.memory p) (W (k + 1))) (unlock_to (process s.memory p) (next_item (task_of blank s.memory p) 0))) (if_said d (revalue i x)))
  kept_w k i x true true o = record { fair = tt; owns = o; held = tt }
  kept_w k i x true false o = record { fair = tt; owns = o; held = tt }
  kept_w k i x false true o = unlock_on 0 (revalue i x) _ (next 0) tt (owns_like has_item has_item whole (above 0) (λ i. grind (arith, nat_tests)) o)
  kept_w k i x false false o = unlock_on 0 still _ (next 0) tt (owns_like has_item has_item whole (above 0) (λ i. grind (arith, nat_tests)) o)

  -- an item that p owns is unlocked
  frees : (i n : ℕ) (g g' : Grip) → ((x : ℕ) → (x ≡ i → ⊥) → hold g' (has_item x) x ≡ hold g (has_item x) x) → hold g' (has_item i) i ≡ 0 → Owns (lock_of blank s) has_item g p → Owns (upd (lock_of blank s) i (made_lock 0 n)) has_item g' p
  frees i n g g' k z o = owns_relock (lock_of blank s) has_item has_item g g' p i (made_lock 0 n) k (λ x. absurd (let l = here.low in omega arith)) (λ x. absurd (omega arith)) o

  -- the bank stores what it is asked to
  stored : (i n : ℕ) → (lock_of blank s i).owner ≡ p → n ≤ 2 ^ 56 - 1 → stores_lock s.cells i (made_lock 0 n) ≡ true
  stored i n e h = and_from (has s.cells i) (storable (made_lock 0 n)) (cell_there blank s.cells i (let l = here.low in omega arith)) (le-leb n (2 ^ 56 - 1) h)

  kept_u : (i n : ℕ) → n ≤ 2 ^ 56 - 1 → Owns (lock_of blank s) has_item (above i) p → 0 < has_item i
      → Kept (with_touch (unlock_to (process s.memory p) (next_item (task_of blank s.memory p) (i + 1))) (if_said (stores_lock s.cells i (made_lock 0 n)) (relock i (made_lock 0 n))))
  kept_u i n h o k =
      let mine : (lock_of blank s i).owner ≡ p = o.owned i (grind (arith, nat_tests)) in
      rw (stored i n mine h) (unlock_on (i + 1) (relock i (made_lock 0 n)) _ (next (i + 1)) (inr mine, inl refl) (frees i n (above i) (above (i + 1)) (λ x d. grind (arith, nat_tests)) (grind (arith, nat_tests)) o))

  window_is : (from : ℕ) (z : Option ℕ) (h i : ℕ) → hold (window_to from z) h i ≡ cond (leb from i) (inside_of z h i) 0
  window_is from None h i = grind (arith, nat_tests)
  window_is from (Some c) h i = refl

  window_next : (from : ℕ) (z : Option ℕ) (h i : ℕ) → (i ≡ from → ⊥) → hold (window_to (from + 1) z) h i ≡ hold (window_to from z) h i
  window_next from None h i d = refl
  window_next from (Some c) h i d = grind (arith, nat_tests)

  window_out : (from : ℕ) (z : Option ℕ) (h : ℕ) → hold (window_to (from + 1) z) h from ≡ 0
  window_out from None h = refl
  window_out from (Some c) h = grind (arith, nat_tests)

  abort_on : (from : ℕ) (z : Option ℕ) (t : Touch V) → Fair (lock_of blank s) p t → Owns (after_lock (lock_of blank s) t) has_item (window_to from z) p → Kept (mv blank s p going (process s.memory p).status (abort_to z (next_item (task_of blank s.memory p) from)) t keep)
  abort_on from z t f o = record { fair = f; owns = owns_like has_item has_item (window_to from z) _ (λ i. abort_hold has_item from z _ (next from) i ∙ sym (window_is from z (has_item i) i)) o; held = held_abort z _ }

  kept_a1 : (i n : ℕ) (z : Option ℕ) (b : Bool) → eqb (lock_of blank s i).owner p ≡ b → Owns (lock_of blank s) has_item (window_to i z) p
      → Kept (mv blank s p going (process s.memory p).status (cond b (A2 i n z) (abort_to z (next_item (task_of blank s.memory p) (i + 1)))) still keep)
  kept_a1 i n z true e o = goes going (window_to i z) (A2 i n z) o (λ _. refl) (o.owner i (eqb-true _ p e))
  kept_a1 i n z false e o = abort_on (i + 1) z still tt (owns_like has_item has_item (window_to i z) (window_to (i + 1) z) (λ x. elim (cases_eq x i) [ inl q ↦ rw q (let n : 0 < hold (window_to i z) (has_item i) i → ⊥ = λ y. eqb-false _ p e (o.owned i y) in let w = window_out i z (has_item i) in omega arith) | inr d ↦ window_next i z (has_item x) x d ]) o)

  kept_a2 : (i n : ℕ) (z : Option ℕ) → n ≤ 2 ^ 56 - 1 → Owns (lock_of blank s) has_item (window_to i z) p → 0 < hold (window_to i z) (has_item i) i
      → Kept (mv blank s p going (process s.memory p).status (abort_to z (next_item (task_of blank s.memory p) (i + 1))) (if_said (stores_lock s.cells i (made_lock 0 n)) (relock i (made_lock 0 n))) keep)
  kept_a2 i n z h o k =
      let mine : (lock_of blank s i).owner ≡ p = o.owned i k in
      rw (stored i n mine h) (abort_on (i + 1) z (relock i (made_lock 0 n)) (inr mine, inl refl) (frees i n (window_to i z) (window_to (i + 1) z) (λ x d. window_next i z (has_item x) x d) (window_out i z (has_item i)) o))

  pub row_kept : (c : ℕ) (n : Numbers blank c s) (pl : Place) → (process s.memory p).place ≡ pl → (traits pl).under_way ≡ true → Owns (lock_of blank s) has_item (grip pl) p → HeldAt has_item pl → Kept (row_at blank s p pl)
  row_kept c n Closed e d o h = absurd (both_ways true (sym d) refl)
  row_kept c n Idle e d o h = absurd (both_ways true (sym d) refl)
  row_kept c n (R1 i) e d o h = goes going none _ o (λ _. refl) tt
  row_kept c n (R2 i m) e d o h = kept_r2 i m _ o
  row_kept c n (R3 i) e d o h = goes going none _ o (λ _. refl) tt
  row_kept c n (R4 i l) e d o h = kept_r4 i l _ (eqb l.owner 0) _ o
  row_kept c n (R5 i l) e d o h = kept_r5 _ o
  row_kept c n (D1 k a) e d o h = goes going none _ o (λ _. refl) tt
  row_kept c n (D2 k m a) e d o h = kept_d2 k m a _ (eqb m 0) o
  row_kept c n C e d o h = kept_none _ tt (λ _. refl) refl tt o
  row_kept c n (L1 i) e d o h = goes going (below i) (L2 i _) o (λ _. refl) h
  row_kept c n (L2 i l) e d o h = let f = seen_held i l h in goes going (below i) _ o f.0 f.1
  row_kept c n (L3 i l) e d o h = let f = compared_held i (sequence_or l.sequence (owned blank s.memory l.owner i)) (in_reads (task_of blank s.memory p) i) h in goes going (below i) _ o f.0 f.1
  row_kept c n (L4 i m) e d o h = kept_l4 i m _ refl o h
  row_kept c n K e d o h = kept_k _ o
  row_kept c n (W k) e d o h = kept_w k _ _ (ltb (k + 1) (process s.memory p).sizes.writes) _ o
  row_kept c n (U i) e d o h = kept_u i _ (let a = unlock_most blank s p c v here n (ap (λ x. (stage x).late) e) i in let b = n.life in omega arith) o h
  row_kept c n (A1 i z) e d o h = kept_a1 i _ z _ refl o
  row_kept c n (A2 i m z) e d o h = kept_a2 i m z (let a : m ≤ c = rw e at (n.each p here).place in let b = n.life in omega arith) o h
  row_kept c n (A3 z) e d o h = kept_none _ tt (λ _. refl) refl tt o
