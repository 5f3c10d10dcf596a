-- The sort of each row.
use Rattle.std.proofs.Common.{◌≡◌, ℕ, ◌+◌, ◌-◌, ◌<◌, ◌≤◌, Bool, true, false, cond, ◌&&◌, eqb, ltb, List, map, get_or, take, Some, None, Option, sym, refl, ap, ◌∙◌, arith}
use Rattle.std.proofs.lemmas.Bool.{and_parts, both_ways, eqb-true}
use Rattle.std.proofs.lemmas.Bool.Decides.{nat_tests}
use Rattle.std.proofs.lemmas.List.{get_or-take}
use Rattle.bank.specs.Cells.{cell_at, has, storable, same_lock, swaps_lock, all_zero}
use Rattle.bank.specs.declared.lock.Lock.{Lock}
use Rattle.bank.specs.declared.record.Record.{Record}
use Rattle.table.specs.Sets.{blank_entry, find, item_of}
use Rattle.table.specs.Tasks.{in_reads, in_writes, next_item, sequence_or, unlock_sequence}
use Rattle.table.specs.declared.entry.Entry.{Entry}
use Rattle.table.specs.declared.entry.Part.TheVariants.{Reads, Writes}
use Rattle.rows.specs.Places.{lock_of as made_lock, abort_to, count_from}
use Rattle.rows.specs.Primitives.{nothing, swap_count, Touch, still, relock, revalue, recount, replied, said, touching, if_said}
use Rattle.rows.specs.declared.place.Place.{Place}
use Rattle.rows.specs.declared.place.Place.TheVariants.{Closed, Idle, R1, R2, R3, R4, R5, D1, D2, C, L1, L2, L3, L4, K, W, U, A1, A2, A3}
use Rattle.process.specs.Moves.{keep, put}
use Rattle.process.specs.Rows.{placed, decided, go, wait, read_ends, unlock_to, settled, locked, is_committed}
use Rattle.process.specs.Tells.{Told, going, committed, aborted}
use Rattle.process.specs.Traits.{traits}
use Rattle.process.specs.declared.record.Status.{Status}
use Rattle.process.specs.declared.record.Status.TheVariants.{Committed, Aborted}
use Rattle.store.specs.Model.{State, process, task_of}
use Rattle.history.specs.Invariants.{Here, part, own, reads_in, writes_in, Counts, whole, grip, HeldAt, Owns, data_set, Numbered, stage, lock_of, value_of, Tied, shown, committed_in}
use Rattle.history.proofs.Views.{writes_are, entry_is}
use Rattle.history.proofs.Sums.{find_none}
use Rattle.history.proofs.Finding.{times_some, find_at, find_index}
use Rattle.history.proofs.Counting.{with_touch, row_at, mv}
use Rattle.history.proofs.Tying.{read_found, own_long, writes_own}
use Rattle.history.proofs.Sorts.{Sort, plain, grabs, decides, puts, frees, Same}

module _ {V : Type 0} (blank : V) where
  -- the lock that was taken was the one that was compared
  took_lock : (cs : List (Record V)) (i n : ℕ) (l : Lock) → swaps_lock blank cs i (made_lock 0 n) l ≡ true → (cell_at blank cs i).lock ≡ made_lock 0 n
  took_lock cs i n l h =
      let a = and_parts _ _ (and_parts (has cs i && storable l) (same_lock (cell_at blank cs i).lock (made_lock 0 n)) h).1 in
      let x = eqb-true (cell_at blank cs i).lock.owner 0 a.0 in
      let y = eqb-true (cell_at blank cs i).lock.sequence n a.1 in
      λ j. record { owner = x j; sequence = y j }

module _ {V : Type 0} (blank : V) (s : State V) (p c : ℕ) (v : Counts blank s) (here : Here s p) (t : Tied (lock_of blank s) (value_of blank s) p (own s p)) (n : Numbered c (own s p)) (up : (traits (process s.memory p).place).is_open ≡ true) where
  -- the place alone changes
  pub sort_go : (w : Told V) (pl : Place) → Sort blank s p (mv blank s p w (process s.memory p).status pl still keep)
  sort_go w pl = plain (λ _. refl, λ _. refl) (λ _. refl)

  sort_r2 : (i m : ℕ) (b : Bool) → Sort blank s p (with_touch (cond b (go (process s.memory p) (R3 i)) (wait (process s.memory p) (R1 i))) (if_said b (recount i (m + 1))))
  sort_r2 i m true = plain (λ _. refl, λ _. refl) (λ _. refl)
  sort_r2 i m false = plain (λ _. refl, λ _. refl) (λ _. refl)

  sort_d2 : (k m : ℕ) (a : Bool) (j : ℕ) (z : Bool)
      → Sort blank s p (with_touch (cond (said (replied blank s.cells (cond z nothing (swap_count j m (m - 1))))) (go (process s.memory p) (count_from (task_of blank s.memory p) (k + 1) a)) (wait (process s.memory p) (D1 k a))) (if_said (said (replied blank s.cells (cond z nothing (swap_count j m (m - 1))))) (touching (cond z nothing (swap_count j m (m - 1))))))
  sort_d2 k m a j true = plain (λ _. refl, λ _. refl) (λ _. refl)
  sort_d2 k m a j false = go' _
    where
      go' : (b : Bool) → Sort blank s p (with_touch (cond b (go (process s.memory p) (count_from (task_of blank s.memory p) (k + 1) a)) (wait (process s.memory p) (D1 k a))) (if_said b (recount j (m - 1))))
      go' true = plain (λ _. refl, λ _. refl) (λ _. refl)
      go' false = plain (λ _. refl, λ _. refl) (λ _. refl)

  sort_r4 : (i : ℕ) (l : Lock) (x : V) (b : Bool) (k : ℕ) (e : Entry V) → Sort blank s p (with_touch (cond b (read_ends (process s.memory p) x (put Reads k e)) (record { tells = going; process = placed (process s.memory p) (R5 i l); note = put Reads k e })) still)
  sort_r4 i l x true k e = plain (λ _. refl, λ _. refl) (λ _. refl)
  sort_r4 i l x false k e = plain (λ _. refl, λ _. refl) (λ _. refl)

  sort_r5 : (e : Option (Entry V)) → Sort blank s p (with_touch (settled (process s.memory p) (task_of blank s.memory p) e) still)
  sort_r5 None = plain (λ _. refl, λ _. refl) (λ _. refl)
  sort_r5 (Some x) = plain (λ _. refl, λ _. refl) (λ _. refl)

  sort_l4 : (i m : ℕ) (b : Bool) → swaps_lock blank s.cells i (made_lock 0 m) (made_lock p m) ≡ b → (stage (process s.memory p).place).late ≡ false
      → Sort blank s p (with_touch (cond b (locked (process s.memory p) (task_of blank s.memory p) i m) (wait (process s.memory p) (L1 i))) (if_said b (relock i (made_lock p m))))
  sort_l4 i m true e l = grabs i m refl (took_lock blank s.cells i m (made_lock p m) e) (n.before l up) (n.before l up)
  sort_l4 i m false e l = plain (λ _. refl, λ _. refl) (λ _. refl)

  sort_k : (b : Bool) → all_zero blank s.cells (take 8 (map item_of (task_of blank s.memory p).writes)) ≡ b → (process s.memory p).place ≡ K → Owns (lock_of blank s) (data_set (own s p)) whole p
      → Sort blank s p (with_touch (cond b (record { tells = going; process = decided (process s.memory p) Committed (W 0); note = keep }) (wait (process s.memory p) K)) (if_said b still))
  sort_k true z e o = decides e refl (n.before (ap (λ x. (stage x).late) e) up) z (λ i x f.
      let a = find_index i (writes_in (own s p)) x (blank_entry blank) f in
      let b = times_some i (writes_in (own s p)) a.0 (blank_entry blank) a.1 (ap item_of a.2 ∙ a.3) in
      let mine : (lock_of blank s i).owner ≡ p = o.owned i (omega arith) in
      (mine, t.next i x mine f))
  sort_k false z e o = plain (λ _. refl, λ _. refl) (λ _. refl)

  -- after K's yes the transaction stays committed
  same_unlock : (u : Touch V) (o : Option ℕ) → (stage (process s.memory p).place).late ≡ true → Same blank s p (with_touch (unlock_to (process s.memory p) o) u)
  same_unlock u None l i = rw (n.after l) refl
  same_unlock u (Some j) l i = refl

  same_write : (k : ℕ) (u : Touch V) (b : Bool) → (stage (process s.memory p).place).late ≡ true → Same blank s p (with_touch (cond b (go (process s.memory p) (W (k + 1))) (unlock_to (process s.memory p) (next_item (task_of blank s.memory p) 0))) u)
  same_write k u true l i = refl
  same_write k u false l i = same_unlock u (next_item (task_of blank s.memory p) 0) l i

  committed_found : (i : ℕ) → (stage (process s.memory p).place).late ≡ true → committed_in (own s p) i ≡ find i (writes_in (own s p))
  committed_found i l = rw (n.after l) refl

  sort_w : (k : ℕ) (d : Bool) → d ≡ true → (process s.memory p).place ≡ W k → Owns (lock_of blank s) (data_set (own s p)) whole p
      → Sort blank s p (with_touch (cond (ltb (k + 1) (process s.memory p).sizes.writes) (go (process s.memory p) (W (k + 1))) (unlock_to (process s.memory p) (next_item (task_of blank s.memory p) 0))) (if_said d (revalue ((task_of blank s.memory p).entry Writes k).item ((task_of blank s.memory p).entry Writes k).value)))
  sort_w k d told e o =
      let x : Entry V = (task_of blank s.memory p).entry Writes k in
      let en : k + 1 ≤ (process s.memory p).sizes.writes = rw e at t.enough in
      let fit = (v.sane p here).writes in
      let there : get_or (writes_in (own s p)) k (blank_entry blank) ≡ x = get_or-take (process s.memory p).sizes.writes (part s p Writes) k (blank_entry blank) (omega arith) ∙ sym (entry_is blank s p Writes k (omega arith)) in
      let found : find x.item (writes_in (own s p)) ≡ Some x = find_at x.item (writes_in (own s p)) k (blank_entry blank) (t.writes_once x.item) (let l = own_long blank s p v here in omega arith) (ap item_of there) ∙ ap Some there in
      rw told (puts x.item x refl (writes_own blank s p v here t k en o).0 (committed_found x.item (ap (λ y. (stage y).late) e) ∙ found) (same_write k (revalue x.item x.value) (ltb (k + 1) (process s.memory p).sizes.writes) (ap (λ y. (stage y).late) e)))

  write_found : (i : ℕ) → find i (writes_in (own s p)) ≡ in_writes (task_of blank s.memory p) i
  write_found i = ap (find i) (sym (writes_are blank s p (process s.memory p).sizes.writes (v.sane p here).writes))

  -- the number with which the item is unlocked is the current one, and so is the bank's value
  unlock_shown : (i j : ℕ) (a b : Option (Entry V)) → find i (writes_in (own s p)) ≡ a → find i (reads_in (own s p)) ≡ b → (process s.memory p).place ≡ U j → (lock_of blank s i).owner ≡ p → 0 < data_set (own s p) i
      → shown a (value_of blank s i) (lock_of blank s i).sequence ≡ record { value = value_of blank s i; number = sequence_or (sequence_or 0 b) a }
  unlock_shown i j (Some x) b ea eb g o d = ap (λ w. record { value = w; number = x.sequence }) (sym (t.kept i x o (rw g ea)))
  unlock_shown i j None (Some y) ea eb g o d = ap (λ k. record { value = value_of blank s i; number = k }) (sym (t.same i y o eb))
  unlock_shown i j None None ea eb g o d = absurd (let x = find_none i (writes_in (own s p)) ea in let y = find_none i (reads_in (own s p)) eb in omega arith)

  sort_u : (i : ℕ) (b : Bool) → (process s.memory p).place ≡ U i → (lock_of blank s i).owner ≡ p → 0 < data_set (own s p) i
      → Sort blank s p (with_touch (unlock_to (process s.memory p) (next_item (task_of blank s.memory p) (i + 1))) (if_said b (relock i (made_lock 0 (unlock_sequence (task_of blank s.memory p) i)))))
  sort_u i false e o d = plain (λ _. refl, λ _. refl) (same_unlock still (next_item (task_of blank s.memory p) (i + 1)) (ap (λ x. (stage x).late) e))
  sort_u i true e o d =
      frees i (unlock_sequence (task_of blank s.memory p) i) refl o
      (ap (λ a. shown a (value_of blank s i) (lock_of blank s i).sequence) (committed_found i (ap (λ x. (stage x).late) e) ∙ write_found i)
      ∙ unlock_shown i i (in_writes (task_of blank s.memory p) i) (in_reads (task_of blank s.memory p) i) (write_found i) (read_found blank s p v here i) e o d)
      (same_unlock (relock i (made_lock 0 (unlock_sequence (task_of blank s.memory p) i))) (next_item (task_of blank s.memory p) (i + 1)) (ap (λ x. (stage x).late) e))

  uncommitted : (i : ℕ) → (stage (process s.memory p).place).late ≡ false → committed_in (own s p) i ≡ None
  uncommitted i l = rw (n.before l up) refl

  sort_a2 : (i m : ℕ) (z : Option ℕ) (b : Bool) → (process s.memory p).place ≡ A2 i m z → (lock_of blank s i).owner ≡ p
      → Sort blank s p (mv blank s p going (process s.memory p).status (abort_to z (next_item (task_of blank s.memory p) (i + 1))) (if_said b (relock i (made_lock 0 m))) keep)
  sort_a2 i m z false e o = plain (λ _. refl, λ _. refl) (λ _. refl)
  sort_a2 i m z true e o =
      let told : (lock_of blank s i).owner ≡ p → m ≡ (lock_of blank s i).sequence = rw e at t.told in
      frees i m refl o (ap (λ a. shown a (value_of blank s i) (lock_of blank s i).sequence) (uncommitted i (ap (λ x. (stage x).late) e)) ∙ ap (λ k. record { value = value_of blank s i; number = k }) (sym (told o))) (λ _. refl)

  sort_end : (w : Told V) (st : Status) → (stage (process s.memory p).place).late ≡ false → (is_committed st ≡ true → (process s.memory p).sizes.writes ≡ 0) → Sort blank s p (mv blank s p w st Closed still keep)
  sort_end w st l z = plain (λ _. refl, λ _. refl) (λ i. ending (is_committed st) z i ∙ sym (uncommitted i l))
    where
      ending : (b : Bool) → (b ≡ true → (process s.memory p).sizes.writes ≡ 0) → (i : ℕ) → cond b (find i (take (process s.memory p).sizes.writes (part s p Writes))) None ≡ None
      ending true z i = ap (λ k. find i (take k (part s p Writes))) (z refl)
      ending false z i = refl

  pub row_sort : (pl : Place) → (process s.memory p).place ≡ pl → (traits pl).under_way ≡ true → Owns (lock_of blank s) (data_set (own s p)) (grip pl) p → HeldAt (data_set (own s p)) pl → Sort blank s p (row_at blank s p pl)
  row_sort Closed e d o k = absurd (both_ways true (sym d) refl)
  row_sort Idle e d o k = absurd (both_ways true (sym d) refl)
  row_sort (R1 i) e d o k = sort_go going (R2 i _)
  row_sort (R2 i m) e d o k = sort_r2 i m _
  row_sort (R3 i) e d o k = sort_go going (R4 i _)
  row_sort (R4 i l) e d o k = sort_r4 i l _ (eqb l.owner 0) _ _
  row_sort (R5 i l) e d o k = sort_r5 _
  row_sort (D1 j a) e d o k = sort_go going (D2 j _ a)
  row_sort (D2 j m a) e d o k = sort_d2 j m a _ (eqb m 0)
  row_sort C e d o k = sort_end committed Committed (ap (λ x. (stage x).late) e) (λ _. n.only (ap (λ x. (stage x).only) e))
  row_sort (L1 i) e d o k = sort_go going (L2 i _)
  row_sort (L2 i l) e d o k = sort_go going _
  row_sort (L3 i l) e d o k = sort_go going _
  row_sort (L4 i m) e d o k = sort_l4 i m _ refl (ap (λ x. (stage x).late) e)
  row_sort K e d o k = sort_k _ refl e o
  row_sort (W j) e d o k = sort_w j _ (writes_own blank s p v here t j (rw e at t.enough) o).1 e o
  row_sort (U i) e d o k = sort_u i _ e (o.owned i (grind (arith, nat_tests))) k
  row_sort (A1 i z) e d o k = sort_go going _
  row_sort (A2 i m z) e d o k = sort_a2 i m z _ e (o.owned i k)
  row_sort (A3 z) e d o k = sort_end (aborted z) Aborted (ap (λ x. (stage x).late) e) (λ q. absurd (both_ways true (sym q) refl))
