-- Each row leaves fresh what its process has read.
use Rattle.std.proofs.Common.{◌≡◌, ℕ, ◌+◌, ◌-◌, ◌<◌, ◌≤◌, Bool, true, false, cond, eqb, ltb, ◌⊎◌, List, [], ◌∷◌, ◌++◌, length, get_or, take, drop, set, Some, None, Option, sym, refl, ap, ◌∙◌, subst, inl, inr, arith, get_or-set_same}
use Rattle.std.proofs.lemmas.Bool.{both_ways, cond_both, eqb-true, eqb-false, eq-eqb}
use Rattle.std.proofs.lemmas.List.{take_more, take_more_set, take-set-le, drop-drop}
use Rattle.bank.specs.declared.lock.Lock.{Lock}
use Rattle.table.specs.Sets.{blank_entry}
use Rattle.table.specs.Tasks.{in_reads, next_item}
use Rattle.table.specs.declared.entry.Entry.{Entry}
use Rattle.table.specs.declared.entry.Part.TheVariants.{Reads}
use Rattle.rows.specs.Places.{count_from}
use Rattle.rows.specs.Primitives.{nothing, swap_count, Touch, still, relock, recount, replied, said, touching, if_said}
use Rattle.rows.specs.declared.place.Place.{Place}
use Rattle.rows.specs.declared.place.Place.TheVariants.{Closed, Idle, R1, R2, R3, R4, R5, D1, D2, C, L1, L2, L3, L4, K, W, U, A1, A2, A3}
use Rattle.process.specs.Moves.{Note, keep, put, Move}
use Rattle.process.specs.Rows.{placed, decided, go, wait, read_ends, unlock_to, settled, locked}
use Rattle.process.specs.Tells.{Told, going, waiting}
use Rattle.process.specs.Traits.{traits}
use Rattle.process.specs.declared.record.Status.TheVariants.{Committed}
use Rattle.store.specs.Model.{State, process, task_of}
use Rattle.store.specs.Rows.{owned}
use Rattle.history.specs.Invariants.{Here, part, own, reads_in, one, times, Phase, resting, asking, inside, settling, leaving, past, phase, counted, SaneAt, Counts, Owner, grip, hold, away, fetching, weighing, stage, lock_of, value_of, Shown, shown, current, as_shown, counted_entries, AllCurrent, Remembers, Mid, Fresh}
use Rattle.history.proofs.Views.{after_own, part_long}
use Rattle.history.proofs.Sums.{times_append}
use Rattle.history.proofs.Counting.{with_touch, row_at, mv, owned_item, out_past, lock_past, abort_past, compared_past, seen_past, released_past}
use Rattle.history.proofs.Freshness.{LooksAt, entries_counted}

abbrev pub is_past : Phase → ℕ
is_past resting = 0
is_past (asking j) = 0
is_past (inside j) = 0
is_past (settling j) = 0
is_past (leaving k) = 0
is_past past = 1

pub not_past : {A : Type 0} (f : Phase) → is_past f ≡ 0 → f ≡ past → A
not_past f z e = absurd (let x : is_past f ≡ 1 = ap is_past e in omega arith)

pub past_looks : (pl : Place) → phase pl ≡ past → (stage pl).look ≡ away
past_looks Closed e = refl
past_looks Idle e = refl
past_looks (R1 i) e = refl
past_looks (R2 i m) e = refl
past_looks (R3 i) e = refl
past_looks (R4 i l) e = not_past (inside i) refl e
past_looks (R5 i l) e = not_past (settling i) refl e
past_looks (D1 k a) e = refl
past_looks (D2 k m a) e = refl
past_looks C e = refl
past_looks (L1 i) e = refl
past_looks (L2 i l) e = refl
past_looks (L3 i l) e = refl
past_looks (L4 i n) e = refl
past_looks K e = refl
past_looks (W k) e = refl
past_looks (U i) e = refl
past_looks (A1 i z) e = refl
past_looks (A2 i n z) e = refl
past_looks (A3 z) e = refl

-- who has locked something is past its reads
pub hold_past : (pl : Place) (h i : ℕ) → 0 < hold (grip pl) h i → phase pl ≡ past
hold_past Closed h i x = refl
hold_past Idle h i x = absurd (omega arith)
hold_past (R1 j) h i x = absurd (omega arith)
hold_past (R2 j m) h i x = absurd (omega arith)
hold_past (R3 j) h i x = absurd (omega arith)
hold_past (R4 j l) h i x = absurd (omega arith)
hold_past (R5 j l) h i x = absurd (omega arith)
hold_past (D1 k a) h i x = absurd (omega arith)
hold_past (D2 k m a) h i x = absurd (omega arith)
hold_past C h i x = refl
hold_past (L1 j) h i x = refl
hold_past (L2 j l) h i x = refl
hold_past (L3 j l) h i x = refl
hold_past (L4 j n) h i x = refl
hold_past K h i x = refl
hold_past (W k) h i x = refl
hold_past (U j) h i x = refl
hold_past (A1 j z) h i x = refl
hold_past (A2 j n z) h i x = refl
hold_past (A3 z) h i x = refl

module _ {V : Type 0} (blank : V) (s : State V) where
  all_push : (es : List (Entry V)) (x : Entry V) → AllCurrent blank s es → as_shown x ≡ current blank s x.item → AllCurrent blank s (es ++ x ∷ [])
  all_push [] x a b = (b, tt)
  all_push (e ∷ es) x a b = (a.0, all_push es x a.1 b)

  all_rest : (es : List (Entry V)) → AllCurrent blank s es → AllCurrent blank s (drop 1 es)
  all_rest [] a = tt
  all_rest (e ∷ es) a = a.1

times_less : {V : Type 0} (i : ℕ) (es : List (Entry V)) → times i (drop 1 es) ≤ times i es
times_less i [] = omega arith
times_less i (e ∷ es) = omega arith

module _ {V : Type 0} (blank : V) (s : State V) (p : ℕ) (v : Counts blank s) (here : Here s p) (F : Fresh blank s (own s p)) where
  abbrev pub set_of_reads : List (Entry V)
  set_of_reads = reads_in (own s p)

  -- what a move leaves of the process's own reads, as the state was before
  pub record OwnFresh (m : Move V) : Type 0 where
    pub fresh : Fresh blank s (after_own (own s p) m)
    pub items : (i : ℕ) → 0 < times i (counted_entries (reads_in (after_own (own s p) m)) (phase m.process.place)) → 0 < counted (own s p) i
    pub look : LooksAt (stage m.process.place).look (λ i o. (0 < counted (own s p) i) × (o ≡ p → ⊥))

  pub own_past : (m : Move V) → phase m.process.place ≡ past → OwnFresh m
  own_past m e =
      record {
        fresh = record { entries = rw e tt; mid = rw (past_looks m.process.place e) tt };
        items = λ i l. absurd (let x = rw e at l in omega arith);
        look = rw (past_looks m.process.place e) tt;
      }

  -- the counted entries stay
  pub own_go : (w : Told V) (pl : Place) (t : Touch V) → counted_entries set_of_reads (phase pl) ≡ counted_entries set_of_reads (phase (process s.memory p).place) → Mid blank s (part s p Reads) (process s.memory p).sizes.reads (stage pl).look
      → LooksAt (stage pl).look (λ i o. (0 < counted (own s p) i) × (o ≡ p → ⊥)) → OwnFresh (mv blank s p w (process s.memory p).status pl t keep)
  own_go w pl t e mid look =
      record {
        fresh = record { entries = subst (AllCurrent blank s) (sym e) F.entries; mid = mid };
        items = λ i l. let a = entries_counted set_of_reads (phase (process s.memory p).place) i in let b = rw e at l in omega arith;
        look = look;
      }

  from_looks : (k : ℕ) (a : Bool) → (stage (count_from (task_of blank s.memory p) k a)).look ≡ away
  from_looks k a = cond_both (ltb k (process s.memory p).sizes.reads) _ _ (λ x. (stage x).look ≡ away) (λ _. refl) (λ _. past_looks _ (out_past (task_of blank s.memory p) a))

  -- what is left to count out
  pub own_from : (w : Told V) (k : ℕ) (a : Bool) (t : Touch V) → AllCurrent blank s (drop k set_of_reads) → ((i : ℕ) → 0 < times i (drop k set_of_reads) → 0 < counted (own s p) i) → OwnFresh (mv blank s p w (process s.memory p).status (count_from (task_of blank s.memory p) k a) t keep)
  own_from w k a t all cnt =
      record {
        fresh = record {
          entries = cond_both (ltb k (process s.memory p).sizes.reads) (D1 k a) _ (λ x. AllCurrent blank s (counted_entries set_of_reads (phase x))) (λ _. all) (λ _. rw (out_past (task_of blank s.memory p) a) tt);
          mid = rw (from_looks k a) tt;
        };
        items = λ i. cond_both (ltb k (process s.memory p).sizes.reads) (D1 k a) _ (λ x. 0 < times i (counted_entries set_of_reads (phase x)) → 0 < counted (own s p) i) (λ _ l. cnt i l) (λ _ l. absurd (let y = rw (out_past (task_of blank s.memory p) a) at l in omega arith));
        look = rw (from_looks k a) tt;
      }

  -- the counted entries of a process that reads are its read set
  reading : Phase → Type 0
  reading f = counted_entries set_of_reads f ≡ set_of_reads

  -- a read of item i ends with the entry x behind the read set, which is current
  own_end : (w : Told V) (i : ℕ) (x : Entry V) (n : Note V) → counted_entries set_of_reads (phase (process s.memory p).place) ≡ set_of_reads → ((j : ℕ) → counted (own s p) j ≡ one (eqb i j) + times j set_of_reads)
      → take ((process s.memory p).sizes.reads + 1) ((after_own (own s p) (record { tells = w; process = process s.memory p; touch = still; note = n })).part Reads) ≡ set_of_reads ++ x ∷ [] → x.item ≡ i → as_shown x ≡ current blank s i
      → (y : V) → OwnFresh (with_touch (read_ends (process s.memory p) y n) still)
  own_end w i x n z cnt new it cur y =
      record {
        fresh = record { entries = subst (AllCurrent blank s) (sym new) (all_push blank s set_of_reads x (subst (AllCurrent blank s) z F.entries) (cur ∙ ap (current blank s) (sym it))); mid = tt };
        items = λ j l.
            let a : times j (take ((process s.memory p).sizes.reads + 1) ((after_own (own s p) (record { tells = w; process = process s.memory p; touch = still; note = n })).part Reads)) ≡ times j set_of_reads + times j (x ∷ []) = ap (times j) new ∙ times_append j set_of_reads (x ∷ []) in
            let b : one (eqb x.item j) ≡ one (eqb i j) = ap (λ q. one (eqb q j)) it in
            let d = cnt j in
            omega arith;
        look = tt;
      }

  -- the bank's value and the number that was read are the current ones
  pub bank_shown : (i : ℕ) (l : Lock) → (owned blank s.memory (lock_of blank s i).owner i ≡ None) × ((current blank s i).number ≡ l.sequence) → record { value = value_of blank s i; number = l.sequence } ≡ current blank s i
  bank_shown i l b =
      let c : current blank s i ≡ record { value = value_of blank s i; number = (lock_of blank s i).sequence } = ap (λ (o : Option (Entry V)). shown o (value_of blank s i) (lock_of blank s i).sequence) b.0 in
      let d : l.sequence ≡ (lock_of blank s i).sequence = sym b.1 ∙ ap (λ (y : Shown V). y.number) c in
      ap (λ n. record { value = value_of blank s i; number = n }) d ∙ sym c

  not_self : (i o : ℕ) → is_past (phase (process s.memory p).place) ≡ 0 → Remembers blank s i o → 0 < o → o ≡ p → ⊥
  not_self i o z y l e = not_past (phase (process s.memory p).place) z (ap (λ q. phase (process s.memory q).place) (sym e) ∙ y.behind l)

  inside_counted : (i : ℕ) → (phase (process s.memory p).place ≡ inside i) ⊎ (phase (process s.memory p).place ≡ settling i) → 0 < counted (own s p) i
  inside_counted i (inl e) = rw (e, eq-eqb i i refl) (omega arith)
  inside_counted i (inr e) = rw (e, eq-eqb i i refl) (omega arith)

  long : length (part s p Reads) ≡ 8
  long = part_long blank s p v.formed here Reads

  own_r4 : (i : ℕ) (l : Lock) (b : Bool) → eqb l.owner 0 ≡ b → (process s.memory p).place ≡ R4 i l → (process s.memory p).sizes.reads < 8
      → OwnFresh (with_touch (cond b (read_ends (process s.memory p) (value_of blank s i) (put Reads (process s.memory p).sizes.reads (record { item = i; sequence = l.sequence; value = value_of blank s i }))) (record { tells = going; process = placed (process s.memory p) (R5 i l); note = put Reads (process s.memory p).sizes.reads (record { item = i; sequence = l.sequence; value = value_of blank s i }) })) still)
  own_r4 i l true t e r =
      let x : Entry V = record { item = i; sequence = l.sequence; value = value_of blank s i } in
      let y : Mid blank s (part s p Reads) (process s.memory p).sizes.reads (fetching i l) = rw e at F.mid in
      let z : l.owner ≡ 0 = eqb-true l.owner 0 t in
      own_end going i x (put Reads (process s.memory p).sizes.reads x) (rw e refl) (λ j. rw e refl) (take_more_set (part s p Reads) (process s.memory p).sizes.reads x (let u = long in omega arith)) refl (bank_shown i l (y.1 (rw z refl))) (value_of blank s i)
  own_r4 i l false t e r =
      let x : Entry V = record { item = i; sequence = l.sequence; value = value_of blank s i } in
      let y : Mid blank s (part s p Reads) (process s.memory p).sizes.reads (fetching i l) = rw e at F.mid in
      let nz = eqb-false l.owner 0 t in
      let same : take (process s.memory p).sizes.reads (set (part s p Reads) (process s.memory p).sizes.reads x) ≡ set_of_reads = take-set-le (process s.memory p).sizes.reads (part s p Reads) (process s.memory p).sizes.reads x (omega arith) in
      let all : AllCurrent blank s set_of_reads = rw e at F.entries in
      record {
        fresh = record {
          entries = subst (AllCurrent blank s) (sym same) all;
          mid = (y.0, λ w d. ap as_shown (get_or-set_same (part s p Reads) (process s.memory p).sizes.reads x d (let u = long in omega arith)) ∙ bank_shown i l (y.1 w));
        };
        items = λ j k. let a = ap (times j) same in let b : counted (own s p) j ≡ one (eqb i j) + times j set_of_reads = rw e refl in omega arith;
        look = (inside_counted i (inl (ap phase e)), not_self i l.owner (rw e refl) y.0 (omega arith));
      }

  own_r5 : (i : ℕ) (l : Lock) (o : Option (Entry V)) → owned blank s.memory l.owner i ≡ o → ((x : Entry V) → o ≡ Some x → x.item ≡ i) → (process s.memory p).place ≡ R5 i l → (process s.memory p).sizes.reads < 8 → ((d : Entry V) → (get_or (part s p Reads) (process s.memory p).sizes.reads d).item ≡ i)
      → OwnFresh (with_touch (settled (process s.memory p) (task_of blank s.memory p) o) still)
  own_r5 i l None t it e r q =
      let y : Mid blank s (part s p Reads) (process s.memory p).sizes.reads (weighing i l) = rw e at F.mid in
      own_end going i (get_or (part s p Reads) (process s.memory p).sizes.reads (blank_entry blank)) keep (rw e refl) (λ j. rw e refl) (take_more (part s p Reads) (process s.memory p).sizes.reads (blank_entry blank) (let u = long in omega arith)) (q (blank_entry blank)) (y.1 t (blank_entry blank)) _
  own_r5 i l (Some x) t it e r q =
      let y : Mid blank s (part s p Reads) (process s.memory p).sizes.reads (weighing i l) = rw e at F.mid in
      own_end going i x (put Reads (process s.memory p).sizes.reads x) (rw e refl) (λ j. rw e refl) (take_more_set (part s p Reads) (process s.memory p).sizes.reads x (let u = long in omega arith)) (it x refl) (y.0.some x t) x.value

  -- R3: the lock is read
  own_r3 : (o : Owner blank s) (i : ℕ) → (process s.memory p).place ≡ R3 i → OwnFresh (mv blank s p going (process s.memory p).status (R4 i (lock_of blank s i)) still keep)
  own_r3 o i e =
      own_go going (R4 i (lock_of blank s i)) still (rw e refl)
      (remembered, λ z. (z, ap (λ (w : Option (Entry V)). (shown w (value_of blank s i) (lock_of blank s i).sequence).number) z))
      (inside_counted i (inl (ap phase e)), λ q. not_past (phase (process s.memory p).place) (rw e refl) (hold_past (process s.memory p).place _ i ((o.each p here).owner i q)))
    where
      remembered : Remembers blank s i (lock_of blank s i).owner
      remembered =
          record {
            known = o.known i;
            behind = λ l. hold_past (process s.memory (lock_of blank s i).owner).place _ i ((o.each (lock_of blank s i).owner (record { low = l; high = o.known i })).owner i refl);
            some = λ x z. sym (ap (λ (w : Option (Entry V)). shown w (value_of blank s i) (lock_of blank s i).sequence) z);
          }

  own_r2 : (i m : ℕ) (b : Bool) → (process s.memory p).place ≡ R2 i m → OwnFresh (with_touch (cond b (go (process s.memory p) (R3 i)) (wait (process s.memory p) (R1 i))) (if_said b (recount i (m + 1))))
  own_r2 i m true e = own_go going (R3 i) (recount i (m + 1)) (rw e refl) tt tt
  own_r2 i m false e = own_go waiting (R1 i) still (rw e refl) tt tt

  one_less : (k : ℕ) → drop 1 (drop k set_of_reads) ≡ drop (k + 1) set_of_reads
  one_less k = drop-drop 1 k set_of_reads

  own_d2 : (k m : ℕ) (a : Bool) (j : ℕ) (z : Bool) → (process s.memory p).place ≡ D2 k m a
      → OwnFresh (with_touch (cond (said (replied blank s.cells (cond z nothing (swap_count j m (m - 1))))) (go (process s.memory p) (count_from (task_of blank s.memory p) (k + 1) a)) (wait (process s.memory p) (D1 k a))) (if_said (said (replied blank s.cells (cond z nothing (swap_count j m (m - 1))))) (touching (cond z nothing (swap_count j m (m - 1))))))
  own_d2 k m a j true e = own_go waiting (D1 k a) still (rw e refl) tt tt
  own_d2 k m a j false e = go' _
    where
      go' : (b : Bool) → OwnFresh (with_touch (cond b (go (process s.memory p) (count_from (task_of blank s.memory p) (k + 1) a)) (wait (process s.memory p) (D1 k a))) (if_said b (recount j (m - 1))))
      go' false = own_go waiting (D1 k a) still (rw e refl) tt tt
      go' true =
          let all : AllCurrent blank s (drop k set_of_reads) = rw e at F.entries in
          own_from going (k + 1) a (recount j (m - 1)) (subst (AllCurrent blank s) (one_less k) (all_rest blank s (drop k set_of_reads) all))
          (λ i l. let c : counted (own s p) i ≡ times i (drop k set_of_reads) = rw e refl in let x = times_less i (drop k set_of_reads) in let y = ap (times i) (one_less k) in omega arith)

  past_l4 : (i n : ℕ) (b : Bool) → phase (with_touch (cond b (locked (process s.memory p) (task_of blank s.memory p) i n) (wait (process s.memory p) (L1 i))) (if_said b (relock i (record { owner = p; sequence = n })))).process.place ≡ past
  past_l4 i n true = lock_past _
  past_l4 i n false = refl

  past_k : (b : Bool) → phase (with_touch {V = V} (cond b (record { tells = going; process = decided (process s.memory p) Committed (W 0); note = keep }) (wait (process s.memory p) K)) (if_said b still)).process.place ≡ past
  past_k true = refl
  past_k false = refl

  past_u : (t : Touch V) (o : Option ℕ) → phase (with_touch (unlock_to (process s.memory p) o) t).process.place ≡ past
  past_u t None = refl
  past_u t (Some i) = refl

  past_w : (k : ℕ) (t : Touch V) (b : Bool) → phase (with_touch (cond b (go (process s.memory p) (W (k + 1))) (unlock_to (process s.memory p) (next_item (task_of blank s.memory p) 0))) t).process.place ≡ past
  past_w k t true = refl
  past_w k t false = past_u t _

  -- a process past its reads stays so
  pub past_row : (pl : Place) → phase pl ≡ past → phase (row_at blank s p pl).process.place ≡ past
  past_row Closed e = refl
  past_row Idle e = not_past resting refl e
  past_row (R1 i) e = not_past (asking i) refl e
  past_row (R2 i m) e = not_past (asking i) refl e
  past_row (R3 i) e = not_past (inside i) refl e
  past_row (R4 i l) e = not_past (inside i) refl e
  past_row (R5 i l) e = not_past (settling i) refl e
  past_row (D1 k a) e = not_past (leaving k) refl e
  past_row (D2 k m a) e = not_past (leaving k) refl e
  past_row C e = refl
  past_row (L1 i) e = refl
  past_row (L2 i l) e = seen_past (task_of blank s.memory p) i l
  past_row (L3 i l) e = compared_past (task_of blank s.memory p) i _ (in_reads (task_of blank s.memory p) i)
  past_row (L4 i n) e = past_l4 i n _
  past_row K e = past_k _
  past_row (W k) e = past_w k still (ltb (k + 1) (process s.memory p).sizes.writes)
  past_row (U i) e = past_u still (next_item (task_of blank s.memory p) (i + 1))
  past_row (A1 i z) e = released_past (task_of blank s.memory p) i (lock_of blank s i) z
  past_row (A2 i n z) e = abort_past z (next_item (task_of blank s.memory p) (i + 1))
  past_row (A3 z) e = refl

  pub row_own : (o : Owner blank s) (pl : Place) → (process s.memory p).place ≡ pl → (traits pl).under_way ≡ true → SaneAt (part s p Reads) (process s.memory p).sizes.reads (phase pl) → OwnFresh (row_at blank s p pl)
  row_own o Closed e d n = absurd (both_ways true (sym d) refl)
  row_own o Idle e d n = absurd (both_ways true (sym d) refl)
  row_own o (R1 i) e d n = own_go going (R2 i _) still (rw e refl) tt tt
  row_own o (R2 i m) e d n = own_r2 i m _ e
  row_own o (R3 i) e d n = own_r3 o i e
  row_own o (R4 i l) e d n = own_r4 i l (eqb l.owner 0) refl e n
  row_own o (R5 i l) e d n = own_r5 i l (owned blank s.memory l.owner i) refl (λ x z. owned_item blank s.memory l.owner i x z) e n.0 n.1
  row_own o (D1 k a) e d n = own_go going (D2 k _ a) still (rw e refl) tt tt
  row_own o (D2 k m a) e d n = own_d2 k m a _ (eqb m 0) e
  row_own o C e d n = own_past _ (past_row C refl)
  row_own o (L1 i) e d n = own_past _ (past_row (L1 i) refl)
  row_own o (L2 i l) e d n = own_past _ (past_row (L2 i l) refl)
  row_own o (L3 i l) e d n = own_past _ (past_row (L3 i l) refl)
  row_own o (L4 i m) e d n = own_past _ (past_row (L4 i m) refl)
  row_own o K e d n = own_past _ (past_row K refl)
  row_own o (W k) e d n = own_past _ (past_row (W k) refl)
  row_own o (U i) e d n = own_past _ (past_row (U i) refl)
  row_own o (A1 i z) e d n = own_past _ (past_row (A1 i z) refl)
  row_own o (A2 i m z) e d n = own_past _ (past_row (A2 i m z) refl)
  row_own o (A3 z) e d n = own_past _ (past_row (A3 z) refl)
