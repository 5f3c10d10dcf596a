-- A row changes the count of an item as it changes who is counted in on it.
use Rattle.std.proofs.Common.{◌≡◌, ℕ, ◌+◌, ◌-◌, ◌<◌, ◌≤◌, Bool, true, false, cond, ◌&&◌, eqb, ltb, List, [], length, get_or, take, drop, Some, None, Option, sym, refl, ap, ◌∙◌, subst, inl, inr, arith, get_or-set_same}
use Rattle.std.proofs.lemmas.Bool.{and_parts, both_ways, cases_eq, cond_both, eqb-true, eqb-false, eq-eqb, ne_eqb, leb-true, ltb-true, ltb-false}
use Rattle.std.proofs.lemmas.List.{length-take-le, get_or-take, drop_all, take-set-le}
use Rattle.bank.specs.Cells.{cell_at, has, storable_count, swaps_count}
use Rattle.bank.specs.declared.lock.Lock.{Lock}
use Rattle.bank.specs.declared.record.Record.{Record}
use Rattle.table.specs.Sets.{blank_entry, item_of}
use Rattle.table.specs.Tasks.{Task, task, in_reads, in_writes, write_slot, next_item, sequence_or}
use Rattle.table.specs.declared.entry.Entry.{Entry}
use Rattle.table.specs.declared.entry.Part.TheVariants.{Reads}
use Rattle.rows.specs.Places.{asked, lock_to, abort_to, counted_out, count_from, compared_with, seen_to, released}
use Rattle.rows.specs.Primitives.{nothing, swap_count, Touch, still, relock, revalue, recount, replied, said, touching, if_said}
use Rattle.rows.specs.declared.place.Place.{Place}
use Rattle.rows.specs.declared.place.Place.TheVariants.{Closed, Idle, R1, R2, R3, R4, R5, D1, D2, C, L1, L2, L3, L4, K, W, U, A1, A2, A3}
use Rattle.process.specs.Moves.{Note, keep, put, Move}
use Rattle.process.specs.Rows.{Turn, placed, decided, go, wait, read_ends, unlock_to, settled, numbered, locked, next_at, is_committed}
use Rattle.process.specs.Tells.{Told, going, waiting, committed, aborted}
use Rattle.process.specs.Traits.{traits}
use Rattle.process.specs.declared.record.Status.{Status}
use Rattle.process.specs.declared.record.Status.TheVariants.{Committed, Aborted}
use Rattle.store.specs.Model.{Memory, State, process, task_of, moved}
use Rattle.store.specs.Rows.{owner_of, owned, recalled, row}
use Rattle.history.specs.Invariants.{Formed, Here, part, own, reads_in, total, one, times, past, phase, counting, SaneAt, counted, Sane, Once, count_of, Count}
use Rattle.history.proofs.Views.{after_count, after_note, after_own, RealTouch, RealNote, counts_after, mine_after, others_after, part_long, entry_is}
use Rattle.history.proofs.Sums.{total_one, up, down, times_more, times_put, times_rest, find_item}

module _ {V : Type 0} (blank : V) where
  -- of the sums over the processes one summand changes
  pub count_move : (s : State V) (p : ℕ) (m : Move V) → Formed s → Here s p → RealTouch s.cells m.touch → RealNote m.note
      → ((i : ℕ) → after_count (count_of blank s) m.touch i + counted (own s p) i ≡ count_of blank s i + counted (after_own (own s p) m) i)
      → Count blank s → Count blank (moved blank s p m)
  count_move s p m f h rt rn k n i =
      let was : ℕ → ℕ = λ q. counted (own s q) i in
      let new : ℕ → ℕ = λ q. counted (own (moved blank s p m) q) i in
      let a : total new s.memory.number + was p ≡ total was s.memory.number + new p = total_one was new p s.memory.number h.low h.high (λ q l d. ap (λ o. counted o i) (sym (others_after blank s p q m h l d rn))) in
      let b : new p ≡ counted (after_own (own s p) m) i = ap (λ o. counted o i) (mine_after blank s p m f h rn) in
      let c : count_of blank (moved blank s p m) i ≡ after_count (count_of blank s) m.touch i = counts_after blank s.cells m.touch rt i in
      let d = k i in
      let e = n i in
      omega arith

-- the places after the reads are counted out
pub lock_past : (o : Option ℕ) → phase (lock_to o) ≡ past
lock_past None = refl
lock_past (Some i) = refl

pub abort_past : (z o : Option ℕ) → phase (abort_to z o) ≡ past
abort_past z None = refl
abort_past z (Some i) = refl

module _ {V : Type 0} (t : Task V) where
  pub out_past : (a : Bool) → phase (counted_out t a) ≡ past
  out_past true = abort_past None (next_item t 0)
  out_past false = cond_both (eqb t.sizes.writes 0) C (lock_to (next_item t 0)) (λ x. phase x ≡ past) (λ _. refl) (λ _. lock_past (next_item t 0))

  pub compared_past : (i n : ℕ) (e : Option (Entry V)) → phase (compared_with t i n e) ≡ past
  compared_past i n None = refl
  compared_past i n (Some e) = cond_both (eqb e.sequence n) _ _ (λ x. phase x ≡ past) (λ _. refl) (λ _. abort_past (Some i) (next_item t 0))

  pub seen_past : (i : ℕ) (l : Lock) → phase (seen_to t i l) ≡ past
  seen_past i l = cond_both (eqb l.owner 0) _ _ (λ x. phase x ≡ past) (λ _. compared_past i l.sequence (in_reads t i)) (λ _. refl)

  pub released_past : (i : ℕ) (l : Lock) (z : Option ℕ) → phase (released t i l z) ≡ past
  released_past i l z = cond_both (eqb l.owner t.me) _ _ (λ x. phase x ≡ past) (λ _. refl) (λ _. abort_past z (next_item t (i + 1)))

-- a turn with a touch is a move
abbrev pub with_touch : {V : Type 0} → Turn V → Touch V → Move V
with_touch u t = record { tells = u.tells; process = u.process; touch = t; note = u.note }

module _ {V : Type 0} (blank : V) where
  -- the row at a place
  abbrev pub row_at : State V → ℕ → Place → Move V
  row_at s p pl =
      with_touch (next_at (process s.memory p) (task_of blank s.memory p) blank pl (recalled blank s.memory pl) (replied blank s.cells (asked (task_of blank s.memory p) pl)))
      (if_said (said (replied blank s.cells (asked (task_of blank s.memory p) pl))) (touching (asked (task_of blank s.memory p) pl)))

  pub row_is : (s : State V) (p : ℕ) → row blank s p ≡ row_at s p (process s.memory p).place
  row_is s p = refl

  -- the remembered owner's entry has the item that was asked for
  pub owned_item : (s : Memory V) (o i : ℕ) (e : Entry V) → owned blank s o i ≡ Some e → e.item ≡ i
  owned_item s o i e = go (is_committed (owner_of blank s o).status)
    where
      go : (b : Bool) → cond b (in_writes (task blank s.entries o (owner_of blank s o).sizes) i) None ≡ Some e → e.item ≡ i
      go true h = find_item i _ e h
      go false h = let z : ◌≡◌ {A = ℕ} 0 1 = cc in absurd (omega arith)

  pub swap_says : (cs : List (Record V)) (i m n : ℕ) → swaps_count blank cs i m n ≡ true → ((cell_at blank cs i).count ≡ m) × (n ≤ 16)
  swap_says cs i m n h = let a = and_parts (has cs i && storable_count n) (eqb (cell_at blank cs i).count m) h in let b = and_parts (has cs i) (storable_count n) a.0 in (eqb-true _ m a.1, leb-true n 16 b.1)

  -- a touch that changes no count
  abbrev pub CalmTouch : Touch V → Type 0
  CalmTouch still = Unit {0}
  CalmTouch (recount i n) = ⊥
  CalmTouch (relock i l) = Unit {0}
  CalmTouch (revalue i v) = Unit {0}

  calm_said : (c : ℕ → ℕ) (b : Bool) (t : Touch V) → CalmTouch t → (i : ℕ) → after_count c (if_said b t) i ≡ c i
  calm_said c false t h i = refl
  calm_said c true still h i = refl
  calm_said c true (recount j n) h i = absurd h
  calm_said c true (relock j l) h i = refl
  calm_said c true (revalue j v) h i = refl

module _ {V : Type 0} (blank : V) (s : State V) (p : ℕ) where
  abbrev pub size : ℕ
  size = (process s.memory p).sizes.reads

  abbrev pub set_now : List (Entry V)
  set_now = reads_in (own s p)

  -- a move that leaves the sizes
  abbrev pub mv : Told V → Status → Place → Touch V → Note V → Move V
  mv w st pl t n = record { tells = w; process = record { status = st; sizes = (process s.memory p).sizes; place = pl }; touch = t; note = n }

  -- what a row must show of its process
  pub record Good (pl : Place) (m : Move V) : Type 0 where
    pub note : RealNote m.note
    pub counts : (i : ℕ) → after_count (count_of blank s) m.touch i + counting (reads_in (own s p)) (phase pl) i ≡ count_of blank s i + counted (after_own (own s p) m) i
    pub sane : Sane (after_own (own s p) m)
    pub once : ((i : ℕ) → counting (reads_in (own s p)) (phase pl) i ≤ 1) → Once (after_own (own s p) m)

  -- where no count changes, the process is counted in as it was
  good : (pl : Place) (m : Move V) → RealNote m.note → ((i : ℕ) → after_count (count_of blank s) m.touch i ≡ count_of blank s i) → ((i : ℕ) → counted (after_own (own s p) m) i ≡ counting (reads_in (own s p)) (phase pl) i) → Sane (after_own (own s p) m) → Good pl m
  good pl m n c k sn = record { note = n; counts = λ i. rw (c i, k i); sane = sn; once = λ h i. rw (k i) (h i) }

  module _ (f : Formed s) (here : Here s p) (few : (process s.memory p).sizes.reads ≤ 8) (fit : (process s.memory p).sizes.writes ≤ 8) where
    -- the place alone changes, within a phase
    same : (pl pl' : Place) (w : Told V) → phase pl' ≡ phase pl → SaneAt (part s p Reads) size (phase pl) → Good pl (mv w (process s.memory p).status pl' still keep)
    same pl pl' w e h = good pl (mv w (process s.memory p).status pl' still keep) tt (λ _. refl) (λ i. rw e) (record { reads = few; writes = fit; at = subst (SaneAt (part s p Reads) size) (sym e) h })

    -- the reads are counted out before and after
    along : (pl pl' : Place) (w : Told V) (st : Status) (t : Touch V) (n : Note V) → phase pl ≡ past → phase pl' ≡ past → ((i : ℕ) → after_count (count_of blank s) t i ≡ count_of blank s i) → RealNote n → Good pl (mv w st pl' t n)
    along pl pl' w st t n e e' c r = good pl (mv w st pl' t n) r c (λ i. rw (e, e')) (record { reads = few; writes = fit; at = subst (SaneAt (after_note (part s p) n Reads) size) (sym e') tt })

    size_is : length set_now ≡ size
    size_is = length-take-le size (part s p Reads) (let l = part_long blank s p f here Reads in omega arith)

    -- R2: the process comes in
    at_r2 : (i m : ℕ) (b : Bool) → swaps_count blank s.cells i m (m + 1) ≡ b → (size < 8) × (times i set_now ≡ 0) → Good (R2 i m) (with_touch (cond b (go (process s.memory p) (R3 i)) (wait (process s.memory p) (R1 i))) (if_said b (recount i (m + 1))))
    at_r2 i m false h r = same (R2 i m) (R1 i) waiting refl r
    at_r2 i m true h r =
        let c = swap_says blank s.cells i m (m + 1) h in
        record {
          note = tt;
          counts = λ j. let u = up (count_of blank s) i (m + 1) j (ap (λ x. x + 1) (sym c.0)) in omega arith;
          sane = record { reads = few; writes = fit; at = r.0 };
          once = λ h j. elim (cases_eq i j) [ inl e ↦ rw (← e) (let x = r.1 in rw (eq-eqb i i refl) (omega arith)) | inr d ↦ rw (ne_eqb i j d) (let w = h j in omega arith) ];
        }

    -- the end of a read of item j, with the entry x behind the read set
    read_end : (pl : Place) (j : ℕ) (v : V) (n : Note V) → ((i : ℕ) → counting set_now (phase pl) i ≡ one (eqb j i) + times i set_now) → RealNote n → size < 8 → ((i : ℕ) → times i (take (size + 1) (after_note (part s p) n Reads)) ≡ times i set_now + one (eqb j i)) → Good pl (with_touch (read_ends (process s.memory p) v n) still)
    read_end pl j v n e rn r k = good pl (with_touch (read_ends (process s.memory p) v n) still) rn (λ _. refl) (λ i. let a = e i in let b = k i in omega arith) (record { reads = omega arith; writes = fit; at = tt })

    -- R4
    at_r4 : (i : ℕ) (l : Lock) (v : V) (b : Bool) → size < 8
        → Good (R4 i l) (with_touch (cond b (read_ends (process s.memory p) v (put Reads size (record { item = i; sequence = l.sequence; value = v }))) (record { tells = going; process = placed (process s.memory p) (R5 i l); note = put Reads size (record { item = i; sequence = l.sequence; value = v }) })) still)
    at_r4 i l v true r =
        let x : Entry V = record { item = i; sequence = l.sequence; value = v } in
        read_end (R4 i l) i v (put Reads size x) (λ _. refl) r r (λ j. times_put j (part s p Reads) size x (let w = part_long blank s p f here Reads in omega arith))
    at_r4 i l v false r =
        let x : Entry V = record { item = i; sequence = l.sequence; value = v } in
        good (R4 i l) (mv going (process s.memory p).status (R5 i l) still (put Reads size x)) r (λ _. refl) (λ j. ap (λ es. one (eqb i j) + times j es) (take-set-le size (part s p Reads) size x (omega arith)))
        (record { reads = few; writes = fit; at = (r, λ d. ap item_of (get_or-set_same (part s p Reads) size x d (let w = part_long blank s p f here Reads in omega arith))) })

    -- R5
    at_r5 : (i : ℕ) (l : Lock) (e : Option (Entry V)) → ((x : Entry V) → e ≡ Some x → x.item ≡ i) → (size < 8) × ((d : Entry V) → (get_or (part s p Reads) size d).item ≡ i)
        → Good (R5 i l) (with_touch (settled (process s.memory p) (task_of blank s.memory p) e) still)
    at_r5 i l None h r = read_end (R5 i l) i _ keep (λ _. refl) tt r.0 (λ j. times_more j (part s p Reads) size (blank_entry blank) (let w = part_long blank s p f here Reads in let u = r.0 in omega arith) ∙ ap (λ a. times j set_now + one (eqb a j)) (r.1 (blank_entry blank)))
    at_r5 i l (Some x) h r = read_end (R5 i l) i x.value (put Reads size x) (λ _. refl) r.0 r.0 (λ j. times_put j (part s p Reads) size x (let w = part_long blank s p f here Reads in let u = r.0 in omega arith) ∙ ap (λ a. times j set_now + one (eqb a j)) (h x refl))

    -- the rest of the read set is counted out next
    pub from_counts : (k : ℕ) (a : Bool) (i : ℕ) → counting set_now (phase (count_from (task_of blank s.memory p) k a)) i ≡ times i (drop k set_now)
    from_counts k a i = cond_both (ltb k size) (D1 k a) _ (λ x. counting set_now (phase x) i ≡ times i (drop k set_now)) (λ _. refl) (λ h. let z : drop k set_now ≡ [] = drop_all k set_now (let w = ltb-false k size h in let u = size_is in omega arith) in rw (out_past (task_of blank s.memory p) a, z))

    pub from_sane : (k : ℕ) (a : Bool) → SaneAt (part s p Reads) size (phase (count_from (task_of blank s.memory p) k a))
    from_sane k a = cond_both (ltb k size) (D1 k a) _ (λ x. SaneAt (part s p Reads) size (phase x)) (λ h. ltb-true k size h) (λ _. subst (SaneAt (part s p Reads) size) (sym (out_past (task_of blank s.memory p) a)) tt)

    -- D2: the process goes out
    at_d2 : (k m : ℕ) (a : Bool) (j : ℕ) → j ≡ ((task_of blank s.memory p).entry Reads k).item → k < size → (b : Bool) → eqb m 0 ≡ false → swaps_count blank s.cells j m (m - 1) ≡ b
        → Good (D2 k m a) (with_touch (cond b (go (process s.memory p) (count_from (task_of blank s.memory p) (k + 1) a)) (wait (process s.memory p) (D1 k a))) (if_said b (recount j (m - 1))))
    at_d2 k m a j it r false nz h = same (D2 k m a) (D1 k a) waiting refl r
    at_d2 k m a j it r true nz h =
        let c = swap_says blank s.cells j m (m - 1) h in
        let one_less : count_of blank s j ≡ m - 1 + 1 = (let x = c.0 in let y = eqb-false m 0 nz in omega arith) in
        let entry : (get_or set_now k (blank_entry blank)).item ≡ j = ap item_of (get_or-take size (part s p Reads) k (blank_entry blank) r ∙ sym (entry_is blank s p Reads k (omega arith))) ∙ sym it in
        let rest : (i : ℕ) → times i (drop k set_now) ≡ one (eqb j i) + times i (drop (k + 1) set_now) = λ i. times_rest i set_now k (blank_entry blank) (let u = size_is in omega arith) ∙ ap (λ x. one (eqb x i) + times i (drop (k + 1) set_now)) entry in
        record {
          note = tt;
          counts = λ i. rw (from_counts (k + 1) a i) (let u = down (count_of blank s) j (m - 1) i one_less in let w = rest i in omega arith);
          sane = record { reads = few; writes = fit; at = from_sane (k + 1) a };
          once = λ g i. rw (from_counts (k + 1) a i) (let w = rest i in let x = g i in omega arith);
        }

    in_d2 : (k m : ℕ) (a : Bool) → k < size → (z : Bool) → eqb m 0 ≡ z
        → Good (D2 k m a) (with_touch (cond (said (replied blank s.cells (cond z nothing (swap_count ((task_of blank s.memory p).entry Reads k).item m (m - 1))))) (go (process s.memory p) (count_from (task_of blank s.memory p) (k + 1) a)) (wait (process s.memory p) (D1 k a))) (if_said (said (replied blank s.cells (cond z nothing (swap_count ((task_of blank s.memory p).entry Reads k).item m (m - 1))))) (touching (cond z nothing (swap_count ((task_of blank s.memory p).entry Reads k).item m (m - 1))))))
    in_d2 k m a r true e = same (D2 k m a) (D1 k a) waiting refl r
    in_d2 k m a r false e = at_d2 k m a ((task_of blank s.memory p).entry Reads k).item refl r _ e refl

    numbered_real : (i n : ℕ) → RealNote (numbered (process s.memory p) (task_of blank s.memory p) i n)
    numbered_real i n = cond_both (ltb (write_slot (task_of blank s.memory p) i) (process s.memory p).sizes.writes) _ keep RealNote (λ h. let a = ltb-true _ _ h in omega arith) (λ _. tt)

    at_l4 : (i n : ℕ) (b : Bool) → Good (L4 i n) (with_touch (cond b (locked (process s.memory p) (task_of blank s.memory p) i n) (wait (process s.memory p) (L1 i))) (if_said b (relock i (record { owner = p; sequence = n }))))
    at_l4 i n true = along (L4 i n) (lock_to (next_item (task_of blank s.memory p) (i + 1))) going (process s.memory p).status _ _ refl (lock_past _) (λ _. refl) (numbered_real i (n + 1))
    at_l4 i n false = same (L4 i n) (L1 i) waiting refl tt

    at_k : (b : Bool) → Good K (with_touch (cond b (record { tells = going; process = decided (process s.memory p) Committed (W 0); note = keep }) (wait (process s.memory p) K)) (if_said b still))
    at_k true = along K (W 0) going Committed still keep refl refl (λ _. refl) tt
    at_k false = same K K waiting refl tt

    at_u : (pl : Place) (t : Touch V) (o : Option ℕ) → phase pl ≡ past → ((i : ℕ) → after_count (count_of blank s) t i ≡ count_of blank s i) → Good pl (with_touch (unlock_to (process s.memory p) o) t)
    at_u pl t None e c = along pl Closed committed Committed t keep e refl c tt
    at_u pl t (Some i) e c = along pl (U i) going (process s.memory p).status t keep e refl c tt

    at_w : (k : ℕ) (t : Touch V) (b : Bool) → ((i : ℕ) → after_count (count_of blank s) t i ≡ count_of blank s i) → Good (W k) (with_touch (cond b (go (process s.memory p) (W (k + 1))) (unlock_to (process s.memory p) (next_item (task_of blank s.memory p) 0))) t)
    at_w k t true c = along (W k) (W (k + 1)) going (process s.memory p).status t keep refl refl c tt
    at_w k t false c = at_u (W k) t _ refl c

    pub row_good : (pl : Place) → (traits pl).under_way ≡ true → SaneAt (part s p Reads) size (phase pl) → Good pl (row_at blank s p pl)
    row_good Closed d h = absurd (both_ways false refl d)
    row_good Idle d h = absurd (both_ways false refl d)
    row_good (R1 i) d h = same (R1 i) (R2 i _) going refl h
    row_good (R2 i m) d h = at_r2 i m (swaps_count blank s.cells i m (m + 1)) refl h
    row_good (R3 i) d h = same (R3 i) (R4 i _) going refl h
    row_good (R4 i l) d h = at_r4 i l _ (eqb l.owner 0) h
    row_good (R5 i l) d h = at_r5 i l (owned blank s.memory l.owner i) (λ x e. owned_item blank s.memory l.owner i x e) h
    row_good (D1 k a) d h = same (D1 k a) (D2 k _ a) going refl h
    row_good (D2 k m a) d h = in_d2 k m a h (eqb m 0) refl
    row_good C d h = along C Closed committed Committed still keep refl refl (λ _. refl) tt
    row_good (L1 i) d h = same (L1 i) (L2 i _) going refl h
    row_good (L2 i l) d h = same (L2 i l) _ going (seen_past (task_of blank s.memory p) i l) tt
    row_good (L3 i l) d h = same (L3 i l) _ going (compared_past (task_of blank s.memory p) i (sequence_or l.sequence (owned blank s.memory l.owner i)) (in_reads (task_of blank s.memory p) i)) tt
    row_good (L4 i n) d h = at_l4 i n _
    row_good K d h = at_k _
    row_good (W k) d h = at_w k _ (ltb (k + 1) (process s.memory p).sizes.writes) (calm_said blank (count_of blank s) _ (revalue _ _) tt)
    row_good (U i) d h = at_u (U i) _ _ refl (calm_said blank (count_of blank s) _ (relock i _) tt)
    row_good (A1 i z) d h = same (A1 i z) _ going (released_past (task_of blank s.memory p) i _ z) tt
    row_good (A2 i n z) d h = along (A2 i n z) _ going (process s.memory p).status _ keep refl (abort_past z _) (calm_said blank (count_of blank s) _ (relock i _) tt) tt
    row_good (A3 z) d h = along (A3 z) Closed (aborted z) Aborted still keep refl refl (λ _. refl) tt
