-- A step of a transaction that ends lowers what it has left to do, or only its place changes, and it is nearer to a step that does, if nothing hinders it.
use Rattle.std.proofs.Common.{◌≡◌, ℕ, zero, suc, ◌+◌, ◌-◌, ◌*◌, ◌^◌, ◌<◌, ◌≤◌, Bool, true, false, cond, ◌&&◌, eqb, ltb, leb, ◌⊎◌, List, [], ◌∷◌, length, map, get_or, take, drop, set, Some, None, Option, sym, refl, ap, ◌∙◌, subst, inl, inr, arith}
use Rattle.std.proofs.lemmas.Bool.{and_from, both_ways, cond_both, eq-eqb, ne_eqb, ltb-true, ltb-false, le-leb, lt-ltb}
use Rattle.std.proofs.lemmas.List.{length-take-le, get_or_past, get_or-take}
use Rattle.bank.specs.Cells.{absent, cell_at, has, storable, storable_count, same_lock, swaps_lock, all_zero}
use Rattle.bank.specs.declared.lock.Lock.{Lock}
use Rattle.bank.specs.declared.record.Record.{Record}
use Rattle.table.specs.Sets.{blank_entry, item_of, slot}
use Rattle.table.specs.Tasks.{in_reads, write_slot, next_item, sequence_or}
use Rattle.table.specs.declared.entry.Entry.{Entry}
use Rattle.table.specs.declared.entry.Part.TheVariants.{Reads, Writes}
use Rattle.rows.specs.Places.{lock_of as made_lock, lock_to, abort_to, counted_out, count_from, compared_with, released}
use Rattle.rows.specs.Primitives.{nothing, swap_count, Touch, still, replied, said, if_said}
use Rattle.rows.specs.declared.place.Place.{Place}
use Rattle.rows.specs.declared.place.Place.TheVariants.{Closed, Idle, R1, R2, R3, R4, R5, D1, D2, C, L1, L2, L3, L4, K, W, U, A1, A2, A3}
use Rattle.process.specs.Moves.{Note, keep, Move}
use Rattle.process.specs.Rows.{placed, decided, go, wait, unlock_to, numbered, locked}
use Rattle.process.specs.Tells.{going}
use Rattle.process.specs.Traits.{traits}
use Rattle.process.specs.declared.record.Process.{Process}
use Rattle.process.specs.declared.record.Status.{Status}
use Rattle.process.specs.declared.record.Status.TheVariants.{Committed, Aborted}
use Rattle.store.specs.Model.{State, process, task_of}
use Rattle.store.specs.Rows.{owned}
use Rattle.history.specs.Invariants.{Here, part, own, reads_in, writes_in, one, times, counted, HeldAt, data_set, Standing}
use Rattle.history.specs.Endings.{Celled, Need, resting_or_reading, out, freely, zeros, lock, need, is_ending, cost, from_on, left, weight}
use Rattle.history.proofs.Views.{take_set, after_note, part_long, entry_is, writes_are}
use Rattle.history.proofs.Sums.{total_part, times_rest, slot_item}
use Rattle.history.proofs.Next.{Lowest, next_lowest}
use Rattle.history.proofs.Counting.{with_touch, row_at}
use Rattle.history.proofs.CountCalls.{count_few}
use Rattle.history.proofs.Measure.{from_most, from_like, lock_cost, abort_cost, unlock_cost}

end_lock : (o : Option ℕ) → is_ending (lock_to o) ≡ true
end_lock None = refl
end_lock (Some i) = refl

end_abort : (z o : Option ℕ) → is_ending (abort_to z o) ≡ true
end_abort z None = refl
end_abort z (Some i) = refl

one_sooner : (b : Bool) → cond b 0 3 < cond b 1 5
one_sooner true = omega arith
one_sooner false = omega arith

below_four : (b : Bool) → cond b 0 3 < 4
below_four true = omega arith
below_four false = omega arith

module _ {V : Type 0} (blank : V) where
  all_zeros : (cs : List (Record V)) (is : List ℕ) (n : ℕ) → ((i : ℕ) → (cell_at blank cs i).count ≡ 0) → all_zero blank cs (take n is) ≡ true
  all_zeros cs [] zero h = refl
  all_zeros cs [] (suc n) h = refl
  all_zeros cs (i ∷ is) zero h = refl
  all_zeros cs (i ∷ is) (suc n) h = and_from (eqb (cell_at blank cs i).count 0) _ (eq-eqb _ 0 (h i)) (all_zeros cs is n h)

  -- an item that has been counted is one of the bank's
  counted_there : (cs : List (Record V)) (i : ℕ) → 0 < (cell_at blank cs i).count → has cs i ≡ true
  counted_there cs i h = go (has cs i) refl
    where
      go : (b : Bool) → has cs i ≡ b → b ≡ true
      go true e = refl
      go false e = absurd (let z : (cell_at blank cs i).count ≡ 0 = ap (λ (c : Record V). c.count) (get_or_past cs i (absent blank) (ltb-false i (length cs) e)) in omega arith)

  -- what lets a process advance
  abbrev pub Can : List (Record V) → Need → Type 0
  Can cs resting_or_reading = ⊥
  Can cs out = Unit {0}
  Can cs freely = Unit {0}
  Can cs zeros = (i : ℕ) → (cell_at blank cs i).count ≡ 0
  Can cs (lock i) = (cell_at blank cs i).lock.owner ≡ 0

  -- how many steps of its own come before one that lowers what is left to do, while no one else lowers it
  abbrev pub patience : List (Record V) → (ℕ → ℕ) → Place → ℕ
  patience cs item Closed = 0
  patience cs item Idle = 0
  patience cs item (R1 i) = 0
  patience cs item (R2 i m) = 0
  patience cs item (R3 i) = 0
  patience cs item (R4 i l) = 0
  patience cs item (R5 i l) = 0
  patience cs item (D1 k a) = 1
  patience cs item (D2 k m a) = cond (eqb (cell_at blank cs (item k)).count m) 0 2
  patience cs item C = 0
  patience cs item (L1 i) = 2
  patience cs item (L2 i l) = cond (eqb l.owner 0) (cond (eqb (cell_at blank cs i).lock.sequence l.sequence) 1 5) 5
  patience cs item (L3 i l) = 4
  patience cs item (L4 i n) = cond (eqb (cell_at blank cs i).lock.sequence n) 0 3
  patience cs item K = 0
  patience cs item (W k) = 0
  patience cs item (U i) = 0
  patience cs item (A1 i z) = 0
  patience cs item (A2 i n z) = 0
  patience cs item (A3 z) = 0

  module _ (s : State V) (p : ℕ) where
    -- the items of its read set, entry by entry
    abbrev pub item_at : ℕ → ℕ
    item_at k = ((task_of blank s.memory p).entry Reads k).item

    abbrev pub left_now : ℕ → ℕ
    left_now = left (own s p)

    -- a real advance
    pub record Falls (pl : Place) (q : Process) (n : Note V) : Type 0 where
      pub less : weight (record { process = q; part = after_note (part s p) n }) < cost (left (own s p)) pl
      pub ends : (traits q.place).is_open ≡ true → is_ending q.place ≡ true

    -- a step on the way to one
    pub record Nears (pl : Place) (m : Move V) : Type 0 where
      pub to : Place
      pub becomes : m.process ≡ placed (process s.memory p) to
      pub note : m.note ≡ keep
      pub touch : m.touch ≡ still
      pub like : need to ≡ need pl
      pub equal : cost (left (own s p)) to ≡ cost (left (own s p)) pl
      pub sooner : Can s.cells (need pl) → patience s.cells item_at to < patience s.cells item_at pl

    abbrev pub Advances : Place → Move V → Type 0
    Advances pl m = Falls pl m.process m.note ⊎ Nears pl m

    module _ (v : Standing blank s) (h : Here s p) where
      few : (process s.memory p).sizes.reads ≤ 8
      few = (v.counts.sane p h).reads

      fit : (process s.memory p).sizes.writes ≤ 8
      fit = (v.counts.sane p h).writes

      reads_long : length (reads_in (own s p)) ≡ (process s.memory p).sizes.reads
      reads_long = length-take-le _ (part s p Reads) (let l = part_long blank s p v.counts.formed h Reads in let w = few in omega arith)

      writes_in_long : length (writes_in (own s p)) ≡ (process s.memory p).sizes.writes
      writes_in_long = length-take-le _ (part s p Writes) (let l = part_long blank s p v.counts.formed h Writes in let w = fit in omega arith)

      next : (from : ℕ) → Lowest (data_set (own s p)) from (next_item (task_of blank s.memory p) from)
      next from = next_lowest blank s p from few fit

      most : (i : ℕ) → left_now i ≤ 16
      most i = let a = from_most (reads_in (own s p)) i in let b = from_most (writes_in (own s p)) i in let c = reads_long in let d = writes_in_long in let e = few in let f = fit in omega arith

      aborts : (from : ℕ) (z : Option ℕ) → cost left_now (abort_to z (next_item (task_of blank s.memory p) from)) ≤ 1 + 2 * left_now from
      aborts from z = abort_cost (own s p) from z _ (next from)

      locks : (from : ℕ) → cost left_now (lock_to (next_item (task_of blank s.memory p) from)) ≤ 33 + left_now from
      locks from = lock_cost (own s p) from _ (next from)

      down : (pl to : Place) → cost left_now to < cost left_now pl → is_ending to ≡ true → Falls pl (placed (process s.memory p) to) keep
      down pl to l e = record { less = l; ends = λ _. e }

      shut : (pl : Place) (st : Status) → 0 < cost left_now pl → Falls pl (decided (process s.memory p) st Closed) keep
      shut pl st l = record { less = l; ends = λ x. absurd (both_ways false refl x) }

      abbrev Lower : ℕ → Place → Type 0
      Lower k x = (cost (left (own s p)) x < 49 + (8 - k)) × (is_ending x ≡ true)

      out_lower : (k : ℕ) (a : Bool) → k < 8 → Lower k (counted_out (task_of blank s.memory p) a)
      out_lower k true l = (let y = aborts 0 None in let m = most 0 in omega arith, end_abort None _)
      out_lower k false l = cond_both (eqb (process s.memory p).sizes.writes 0) _ _ (Lower k) (λ _. (omega arith, refl)) (λ _. (let y = locks 0 in let m = most 0 in omega arith, end_lock _))

      from_lower : (k : ℕ) (a : Bool) → k < (process s.memory p).sizes.reads → Lower k (count_from (task_of blank s.memory p) (k + 1) a)
      from_lower k a l = let f = few in cond_both (ltb (k + 1) (process s.memory p).sizes.reads) _ _ (Lower k) (λ t. (let y = ltb-true (k + 1) (process s.memory p).sizes.reads t in omega arith, refl)) (λ _. out_lower k a (omega arith))

      -- D2 with the count as it is says yes
      d2_says : (k m : ℕ) (a : Bool) → (process s.memory p).place ≡ D2 k m a → k < (process s.memory p).sizes.reads → (cell_at blank s.cells (item_at k)).count ≡ m → said (replied blank s.cells (cond (eqb m 0) nothing (swap_count (item_at k) m (m - 1)))) ≡ true
      d2_says k m a e l c =
          let f = few in
          let j : ℕ = item_at k in
          let it : (get_or (reads_in (own s p)) k (blank_entry blank)).item ≡ j = ap item_of (get_or-take (process s.memory p).sizes.reads (part s p Reads) k (blank_entry blank) l ∙ sym (entry_is blank s p Reads k (omega arith))) in
          let c1 : counted (own s p) j ≡ times j (drop k (reads_in (own s p))) = rw e refl in
          let c2 = times_rest j (reads_in (own s p)) k (blank_entry blank) (let u = reads_long in omega arith) in
          let c3 : one (eqb (get_or (reads_in (own s p)) k (blank_entry blank)).item j) ≡ 1 = rw it (rw (eq-eqb j j refl) refl) in
          let c4 = total_part (λ q. counted (own s q) j) s.memory.number p h.low h.high in
          let c5 = v.counts.count j in
          let high = count_few blank s v.counts j in
          let z : eqb m 0 ≡ false = ne_eqb m 0 (λ x. omega arith) in
          rw z (and_from (has s.cells j && storable_count (m - 1)) (eqb (cell_at blank s.cells j).count m) (and_from (has s.cells j) (storable_count (m - 1)) (counted_there s.cells j (omega arith)) (le-leb (m - 1) 16 (omega arith))) (eq-eqb _ m c))

      on_d2 : (k m : ℕ) (a b : Bool) (t : Touch V) → k < (process s.memory p).sizes.reads → ((cell_at blank s.cells (item_at k)).count ≡ m → b ≡ true) → Advances (D2 k m a) (with_touch (cond b (go (process s.memory p) (count_from (task_of blank s.memory p) (k + 1) a)) (wait (process s.memory p) (D1 k a))) (if_said b t))
      on_d2 k m a true t l y = let c = from_lower k a l in inl (down (D2 k m a) (count_from (task_of blank s.memory p) (k + 1) a) c.0 c.1)
      on_d2 k m a false t l y = inr (record { to = D1 k a; becomes = refl; note = refl; touch = refl; like = refl; equal = refl; sooner = λ _. rw (ne_eqb (cell_at blank s.cells (item_at k)).count m (λ c. both_ways false refl (y c))) (omega arith) })

      compared_is : (i n : ℕ) (x : Option (Entry V)) → (compared_with (task_of blank s.memory p) i n x ≡ L4 i n) ⊎ (compared_with (task_of blank s.memory p) i n x ≡ abort_to (Some i) (next_item (task_of blank s.memory p) 0))
      compared_is i n None = inl refl
      compared_is i n (Some e) = cond_both (eqb e.sequence n) _ _ (λ x. (x ≡ L4 i n) ⊎ (x ≡ abort_to (Some i) (next_item (task_of blank s.memory p) 0))) (λ _. inl refl) (λ _. inr refl)

      -- a comparison decides to abort, or goes to L4
      on_compared : (pl : Place) (i n : ℕ) (x : Option (Entry V)) → cost left_now pl ≡ 34 + left_now (i + 1) → need pl ≡ lock i → patience s.cells item_at (L4 i n) < patience s.cells item_at pl → Advances pl (with_touch (go (process s.memory p) (compared_with (task_of blank s.memory p) i n x)) still)
      on_compared pl i n x c k w = elim (compared_is i n x) [
        | inl e ↦ inr (record { to = L4 i n; becomes = ap (placed (process s.memory p)) e; note = refl; touch = refl; like = sym k; equal = sym c; sooner = λ _. w })
        | inr e ↦ inl (subst (λ y. Falls pl (placed (process s.memory p) y) keep) (sym e) (down pl (abort_to (Some i) (next_item (task_of blank s.memory p) 0)) (let y = aborts 0 (Some i) in let m = most 0 in omega arith) (end_abort (Some i) _)))
      ]

      on_l2 : (i : ℕ) (l : Lock) (b : Bool) → eqb l.owner 0 ≡ b → Advances (L2 i l) (with_touch (go (process s.memory p) (cond b (compared_with (task_of blank s.memory p) i l.sequence (in_reads (task_of blank s.memory p) i)) (L3 i l))) still)
      on_l2 i l true e = on_compared (L2 i l) i l.sequence (in_reads (task_of blank s.memory p) i) refl refl (rw e (one_sooner (eqb (cell_at blank s.cells i).lock.sequence l.sequence)))
      on_l2 i l false e = inr (record { to = L3 i l; becomes = refl; note = refl; touch = refl; like = refl; equal = refl; sooner = λ _. rw e (omega arith) })

      abbrev LeftBy : Note V → ℕ → ℕ
      LeftBy u = left (record { process = process s.memory p; part = after_note (part s p) u })

      -- an entry of the write set that takes a number keeps its item
      numbered_left : (i n x : ℕ) → LeftBy (numbered (process s.memory p) (task_of blank s.memory p) i n) x ≡ left_now x
      numbered_left i n x =
          cond_both (ltb (write_slot (task_of blank s.memory p) i) (process s.memory p).sizes.writes) _ _ (λ u. LeftBy u x ≡ left_now x)
          (λ e. kept (ltb-true _ _ e)) (λ _. refl)
        where
          ws : List (Entry V)
          ws = writes_in (own s p)

          same : (task_of blank s.memory p).writes ≡ ws
          same = writes_are blank s p (process s.memory p).sizes.writes fit

          kept : write_slot (task_of blank s.memory p) i < (process s.memory p).sizes.writes
              → from_on x (reads_in (own s p)) + from_on x (take (process s.memory p).sizes.writes (set (part s p Writes) (write_slot (task_of blank s.memory p) i) (record { item = i; sequence = n; value = ((task_of blank s.memory p).entry Writes (write_slot (task_of blank s.memory p) i)).value }))) ≡ left_now x
          kept h =
              let at : slot i (task_of blank s.memory p).writes ≡ slot i ws = ap (slot i) same in
              let it : (get_or ws (slot i (task_of blank s.memory p).writes) (blank_entry blank)).item ≡ i = rw at (slot_item i ws (blank_entry blank) (let l = writes_in_long in omega arith)) in
              ap (λ a. from_on x (reads_in (own s p)) + a) (ap (from_on x) (take_set (process s.memory p).sizes.writes (part s p Writes) (write_slot (task_of blank s.memory p) i) _) ∙ from_like x ws (write_slot (task_of blank s.memory p) i) _ (blank_entry blank) (sym it))

      cost_like : (f g : ℕ → ℕ) (x : Option ℕ) → ((i : ℕ) → f i ≡ g i) → cost f (lock_to x) ≡ cost g (lock_to x)
      cost_like f g None e = refl
      cost_like f g (Some j) e = ap (λ n. 34 + n) (e (j + 1))

      on_l4 : (i n : ℕ) (b : Bool) (t : Touch V) → ((cell_at blank s.cells i).lock.owner ≡ 0 → (cell_at blank s.cells i).lock.sequence ≡ n → b ≡ true) → Advances (L4 i n) (with_touch (cond b (locked (process s.memory p) (task_of blank s.memory p) i n) (wait (process s.memory p) (L1 i))) (if_said b t))
      on_l4 i n true t y =
          let c = locks (i + 1) in
          let e = cost_like (LeftBy (numbered (process s.memory p) (task_of blank s.memory p) i (n + 1))) left_now (next_item (task_of blank s.memory p) (i + 1)) (numbered_left i (n + 1)) in
          inl (record { less = omega arith; ends = λ _. end_lock _ })
      on_l4 i n false t y = inr (record { to = L1 i; becomes = refl; note = refl; touch = refl; like = refl; equal = refl; sooner = λ can. rw (ne_eqb (cell_at blank s.cells i).lock.sequence n (λ c. both_ways false refl (y can c))) (omega arith) })

      lock_yes : (i n : ℕ) → has s.cells i ≡ true → n ≤ 2 ^ 56 - 1 → (cell_at blank s.cells i).lock.owner ≡ 0 → (cell_at blank s.cells i).lock.sequence ≡ n → swaps_lock blank s.cells i (made_lock 0 n) (made_lock p n) ≡ true
      lock_yes i n t l a b = and_from (has s.cells i && storable (made_lock p n)) (same_lock (cell_at blank s.cells i).lock (made_lock 0 n)) (and_from (has s.cells i) (storable (made_lock p n)) t (and_from (leb p 16) (leb n (2 ^ 56 - 1)) (le-leb p 16 (let x = h.high in let y = v.counts.formed.few in omega arith)) (le-leb n (2 ^ 56 - 1) l))) (and_from (eqb (cell_at blank s.cells i).lock.owner 0) (eqb (cell_at blank s.cells i).lock.sequence n) (eq-eqb _ 0 a) (eq-eqb _ n b))

      unlocks : (pl : Place) (from : ℕ) (x : Option ℕ) → Lowest (data_set (own s p)) from x → left_now from < cost left_now pl → Falls pl (unlock_to {V = V} (process s.memory p) x).process (unlock_to {V = V} (process s.memory p) x).note
      unlocks pl from None l c = shut pl Committed (omega arith)
      unlocks pl from (Some j) l c = down pl (U j) (let y = unlock_cost (own s p) from j l in omega arith) refl

      on_w : (k : ℕ) (t : Touch V) (b : Bool) → ltb (k + 1) (process s.memory p).sizes.writes ≡ b → Advances (W k) (with_touch (cond b (go (process s.memory p) (W (k + 1))) (unlock_to (process s.memory p) (next_item (task_of blank s.memory p) 0))) t)
      on_w k t true e = inl (down (W k) (W (k + 1)) (let y = ltb-true (k + 1) (process s.memory p).sizes.writes e in let f = fit in omega arith) refl)
      on_w k t false e = inl (unlocks (W k) 0 _ (next 0) (let m = most 0 in omega arith))

      on_a1 : (i : ℕ) (l : Lock) (z : Option ℕ) → Falls (A1 i z) (placed (process s.memory p) (released (task_of blank s.memory p) i l z)) keep
      on_a1 i l z = cond_both (eqb l.owner p) _ _ (λ x. Falls (A1 i z) (placed (process s.memory p) x) keep) (λ _. down (A1 i z) (A2 i l.sequence z) (omega arith) refl) (λ _. down (A1 i z) (abort_to z (next_item (task_of blank s.memory p) (i + 1))) (let y = aborts (i + 1) z in omega arith) (end_abort z _))

      on_k : (b : Bool) → (((i : ℕ) → (cell_at blank s.cells i).count ≡ 0) → b ≡ true) → Advances K (with_touch (cond b (record { tells = going; process = decided (process s.memory p) Committed (W 0); note = keep }) (wait (process s.memory p) K)) (if_said b still))
      on_k true y = inl (record { less = omega arith; ends = λ _. refl })
      on_k false y = inr (record { to = K; becomes = refl; note = refl; touch = refl; like = refl; equal = refl; sooner = λ can. absurd (both_ways false refl (y can)) })

      -- every row: a real advance, or only the place changes, nearer to one if the process can advance
      pub row_advances : (pl : Place) → (process s.memory p).place ≡ pl → is_ending pl ≡ true → Celled (length s.cells) (own s p) → Advances pl (row_at blank s p pl)
      row_advances Closed e c there = absurd (both_ways false refl c)
      row_advances Idle e c there = absurd (both_ways false refl c)
      row_advances (R1 i) e c there = absurd (both_ways false refl c)
      row_advances (R2 i m) e c there = absurd (both_ways false refl c)
      row_advances (R3 i) e c there = absurd (both_ways false refl c)
      row_advances (R4 i l) e c there = absurd (both_ways false refl c)
      row_advances (R5 i l) e c there = absurd (both_ways false refl c)
      row_advances (D1 k a) e c there = inr (record { to = D2 k (cell_at blank s.cells (item_at k)).count a; becomes = refl; note = refl; touch = refl; like = refl; equal = refl; sooner = λ _. rw (eq-eqb (cell_at blank s.cells (item_at k)).count (cell_at blank s.cells (item_at k)).count refl) (omega arith) })
      row_advances (D2 k m a) e c there = let l : k < (process s.memory p).sizes.reads = rw e at (v.counts.sane p h).at in on_d2 k m a _ _ l (d2_says k m a e l)
      row_advances C e c there = inl (shut C Committed (omega arith))
      row_advances (L1 i) e c there = inr (record { to = L2 i (cell_at blank s.cells i).lock; becomes = refl; note = refl; touch = refl; like = refl; equal = refl; sooner = λ can. rw (eq-eqb (cell_at blank s.cells i).lock.owner 0 can, eq-eqb (cell_at blank s.cells i).lock.sequence (cell_at blank s.cells i).lock.sequence refl) (omega arith) })
      row_advances (L2 i l) e c there = on_l2 i l (eqb l.owner 0) refl
      row_advances (L3 i l) e c there = on_compared (L3 i l) i (sequence_or l.sequence (owned blank s.memory l.owner i)) (in_reads (task_of blank s.memory p) i) refl refl (below_four (eqb (cell_at blank s.cells i).lock.sequence (sequence_or l.sequence (owned blank s.memory l.owner i))))
      row_advances (L4 i n) e c there =
          let a : 0 < data_set (own s p) i = subst (HeldAt (data_set (own s p))) e (v.owner.held p h) in
          let b : n ≤ v.commits = rw e at (v.numbers.each p h).place in
          on_l4 i n _ _ (lock_yes i n (lt-ltb i (length s.cells) (there.sets i a)) (let d = v.numbers.life in omega arith))
      row_advances K e c there = on_k _ (all_zeros s.cells (map item_of (task_of blank s.memory p).writes) 8)
      row_advances (W k) e c there = on_w k _ (ltb (k + 1) (process s.memory p).sizes.writes) refl
      row_advances (U i) e c there = inl (unlocks (U i) (i + 1) _ (next (i + 1)) (omega arith))
      row_advances (A1 i z) e c there = inl (on_a1 i _ z)
      row_advances (A2 i n z) e c there = inl (down (A2 i n z) (abort_to z (next_item (task_of blank s.memory p) (i + 1))) (let y = aborts (i + 1) z in omega arith) (end_abort z _))
      row_advances (A3 z) e c there = inl (shut (A3 z) Aborted (omega arith))
