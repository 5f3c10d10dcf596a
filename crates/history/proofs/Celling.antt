-- Every item of a data set, and every item that is being read, is one of the bank's: through every call, and so always.
use Rattle.std.proofs.Common.{◌≡◌, ℕ, ◌+◌, ◌<◌, Bool, true, false, cond, eqb, ltb, length, get_or, take, set, Some, None, Option, sym, refl, ap, ◌∙◌, subst, inl, inr, arith}
use Rattle.std.proofs.lemmas.Bool.{both_ways, cases_eq, cond_both, ne_eqb}
use Rattle.std.proofs.lemmas.List.{take-set-le}
use Rattle.bank.specs.Cells.{swaps_count}
use Rattle.bank.specs.declared.lock.Lock.{Lock}
use Rattle.table.specs.Sets.{blank_entry, item_of}
use Rattle.table.specs.Tasks.{in_reads, in_writes, write_slot, next_item, sequence_or}
use Rattle.table.specs.declared.entry.Entry.{Entry}
use Rattle.table.specs.declared.entry.Part.TheVariants.{Reads, Writes}
use Rattle.rows.specs.Places.{count_from}
use Rattle.rows.specs.declared.place.Place.{Place}
use Rattle.rows.specs.declared.place.Place.TheVariants.{Closed, Idle, R1, R2, R3, R4, R5, D1, D2, C, L1, L2, L3, L4, K, W, U, A1, A2, A3}
use Rattle.process.specs.Moves.{Note, keep, put, Move}
use Rattle.process.specs.Rows.{Turn, placed, decided, go, wait, read_ends, unlock_to, settled, locked}
use Rattle.process.specs.Tells.{going}
use Rattle.process.specs.Traits.{traits}
use Rattle.process.specs.declared.record.Status.{Status}
use Rattle.process.specs.declared.record.Status.TheVariants.{Committed}
use Rattle.store.specs.Calls.{older, called}
use Rattle.store.specs.Model.{State, process, task_of, moved}
use Rattle.store.specs.Rows.{owned, row}
use Rattle.store.specs.declared.calling.Call.{Call}
use Rattle.history.specs.Invariants.{Here, part, own, reads_in, writes_in, times, one, Phase, past, phase, SaneAt, Counts}
use Rattle.history.specs.Endings.{Within, Celled, AllCelled}
use Rattle.history.proofs.Views.{take_set, writes_are, after_note, after_own, RealNote, items_after, mine_after, others_after, part_long}
use Rattle.history.proofs.Sums.{times_more, times_put, times_like, find_item, slot_found, slot_none}
use Rattle.history.proofs.Deeds.{Deeds, Ready, by_deed, begin_move, write_move, start_move}
use Rattle.history.proofs.CountCalls.{Fresh, older_counts, writes_long}
use Rattle.history.proofs.Counting.{row_at, owned_item, lock_past, abort_past, out_past, compared_past, seen_past, released_past, Good, row_good}
use Rattle.history.proofs.Locking.{numbered_has}

within_past : (n : ℕ) (f : Phase) → f ≡ past → Within n f
within_past n f e = subst (Within n) (sym e) tt

module _ {V : Type 0} (blank : V) where
  celled_move : (s : State V) (p : ℕ) (m : Move V) → Counts blank s → Here s p → RealNote m.note → Celled (length s.cells) (after_own (own s p) m) → AllCelled s → AllCelled (moved blank s p m)
  celled_move s p m v h rn c a q hq = subst (λ n. Celled n (own (moved blank s p m) q)) (sym (items_after blank s.cells m.touch)) (elim (cases_eq q p) [
    | inl e ↦ rw e (subst (Celled (length s.cells)) (sym (mine_after blank s p m v.formed h rn)) c)
    | inr d ↦ subst (Celled (length s.cells)) (sym (others_after blank s p q m h hq.low d rn)) (a q (record { low = hq.low; high = hq.high }))
  ])

  module _ (s : State V) (p : ℕ) (v : Counts blank s) (here : Here s p) (c : Celled (length s.cells) (own s p)) where
    abbrev Stays : Turn V → Type 0
    Stays u = Celled (length s.cells) (record { process = u.process; part = after_note (part s p) u.note })

    long : length (part s p Reads) ≡ 8
    long = part_long blank s p v.formed here Reads

    -- the sets stay
    stays : (st : Status) (pl : Place) → Within (length s.cells) (phase pl) → Celled (length s.cells) (record { process = decided (process s.memory p) st pl; part = part s p })
    stays st pl k = record { sets = c.sets; reading = k }

    -- the end of a read of item j
    read_stays : (j : ℕ) (x : V) (u : Note V) → j < length s.cells
        → ((i : ℕ) → times i (take ((process s.memory p).sizes.reads + 1) (after_note (part s p) u Reads)) ≡ times i (reads_in (own s p)) + one (eqb j i))
        → ((i : ℕ) → times i (take (process s.memory p).sizes.writes (after_note (part s p) u Writes)) ≡ times i (writes_in (own s p))) → Stays (read_ends (process s.memory p) x u)
    read_stays j x u h e f =
        record {
          sets = λ i y. elim (cases_eq j i) [ inl q ↦ rw (← q) h | inr d ↦ c.sets i (let a = e i in let b = f i in let z : one (eqb j i) ≡ 0 = rw (ne_eqb j i d) in omega arith) ];
          reading = tt;
        }

    at_r2 : (i m : ℕ) (b : Bool) → i < length s.cells → Stays (cond b (go (process s.memory p) (R3 i)) (wait (process s.memory p) (R1 i)))
    at_r2 i m true h = stays _ (R3 i) h
    at_r2 i m false h = stays _ (R1 i) h

    at_r4 : (i : ℕ) (l : Lock) (x : V) (b : Bool) → (process s.memory p).sizes.reads < 8 → i < length s.cells
        → Stays (cond b (read_ends (process s.memory p) x (put Reads (process s.memory p).sizes.reads (record { item = i; sequence = l.sequence; value = x }))) (record { tells = going; process = placed (process s.memory p) (R5 i l); note = put Reads (process s.memory p).sizes.reads (record { item = i; sequence = l.sequence; value = x }) }))
    at_r4 i l x true r h = let e : Entry V = record { item = i; sequence = l.sequence; value = x } in read_stays i x (put Reads (process s.memory p).sizes.reads e) h (λ j. times_put j (part s p Reads) (process s.memory p).sizes.reads e (let w = long in omega arith)) (λ j. refl)
    at_r4 i l x false r h =
        record {
          sets = λ j y. c.sets j (let a = ap (times j) (take-set-le (process s.memory p).sizes.reads (part s p Reads) (process s.memory p).sizes.reads (record { item = i; sequence = l.sequence; value = x }) (omega arith)) in omega arith);
          reading = h;
        }

    at_r5 : (i : ℕ) (e : Option (Entry V)) → ((x : Entry V) → e ≡ Some x → x.item ≡ i) → (process s.memory p).sizes.reads < 8 → ((d : Entry V) → (get_or (part s p Reads) (process s.memory p).sizes.reads d).item ≡ i) → i < length s.cells
        → Stays (settled (process s.memory p) (task_of blank s.memory p) e)
    at_r5 i None f r k h = read_stays i ((task_of blank s.memory p).entry Reads (process s.memory p).sizes.reads).value keep h (λ j. times_more j (part s p Reads) (process s.memory p).sizes.reads (blank_entry blank) (let w = long in omega arith) ∙ ap (λ a. times j (reads_in (own s p)) + one (eqb a j)) (k (blank_entry blank))) (λ j. refl)
    at_r5 i (Some x) f r k h = read_stays i x.value (put Reads (process s.memory p).sizes.reads x) h (λ j. times_put j (part s p Reads) (process s.memory p).sizes.reads x (let w = long in omega arith) ∙ ap (λ a. times j (reads_in (own s p)) + one (eqb a j)) (f x refl)) (λ j. refl)

    pub from_within : (k : ℕ) (a : Bool) → Within (length s.cells) (phase (count_from (task_of blank s.memory p) k a))
    from_within k a = cond_both (ltb k (process s.memory p).sizes.reads) _ _ (λ x. Within (length s.cells) (phase x)) (λ _. tt) (λ _. within_past _ _ (out_past (task_of blank s.memory p) a))

    at_d2 : (k : ℕ) (a b : Bool) → Stays (cond b (go (process s.memory p) (count_from (task_of blank s.memory p) (k + 1) a)) (wait (process s.memory p) (D1 k a)))
    at_d2 k a true = stays _ _ (from_within (k + 1) a)
    at_d2 k a false = stays _ _ tt

    at_l4 : (i m : ℕ) (b : Bool) → Stays (cond b (locked (process s.memory p) (task_of blank s.memory p) i m) (wait (process s.memory p) (L1 i)))
    at_l4 i m true = record { sets = λ j y. c.sets j (let a = numbered_has blank s p v here i (m + 1) j in omega arith); reading = within_past _ _ (lock_past (next_item (task_of blank s.memory p) (i + 1))) }
    at_l4 i m false = stays _ _ tt

    at_k : (b : Bool) → Stays (cond b (record { tells = going; process = decided (process s.memory p) Committed (W 0); note = keep }) (wait (process s.memory p) K))
    at_k true = stays _ _ tt
    at_k false = stays _ _ tt

    at_u : (o : Option ℕ) → Stays (unlock_to (process s.memory p) o)
    at_u None = record { sets = c.sets; reading = tt }
    at_u (Some i) = stays _ _ tt

    at_w : (k : ℕ) (b : Bool) → Stays (cond b (go (process s.memory p) (W (k + 1))) (unlock_to (process s.memory p) (next_item (task_of blank s.memory p) 0)))
    at_w k true = stays _ _ tt
    at_w k false = at_u (next_item (task_of blank s.memory p) 0)

    pub row_stays : (pl : Place) → (traits pl).under_way ≡ true → SaneAt (part s p Reads) (process s.memory p).sizes.reads (phase pl) → Within (length s.cells) (phase pl) → Celled (length s.cells) (after_own (own s p) (row_at blank s p pl))
    row_stays Closed d h w = absurd (both_ways false refl d)
    row_stays Idle d h w = absurd (both_ways false refl d)
    row_stays (R1 i) d h w = stays _ _ w
    row_stays (R2 i m) d h w = at_r2 i m (swaps_count blank s.cells i m (m + 1)) w
    row_stays (R3 i) d h w = stays _ _ w
    row_stays (R4 i l) d h w = at_r4 i l _ (eqb l.owner 0) h w
    row_stays (R5 i l) d h w = at_r5 i (owned blank s.memory l.owner i) (λ x e. owned_item blank s.memory l.owner i x e) h.0 h.1 w
    row_stays (D1 k a) d h w = stays _ _ tt
    row_stays (D2 k m a) d h w = at_d2 k a _
    row_stays C d h w = record { sets = c.sets; reading = tt }
    row_stays (L1 i) d h w = stays _ _ tt
    row_stays (L2 i l) d h w = stays _ _ (within_past _ _ (seen_past (task_of blank s.memory p) i l))
    row_stays (L3 i l) d h w = stays _ _ (within_past _ _ (compared_past (task_of blank s.memory p) i (sequence_or l.sequence (owned blank s.memory l.owner i)) (in_reads (task_of blank s.memory p) i)))
    row_stays (L4 i m) d h w = at_l4 i m _
    row_stays K d h w = at_k _
    row_stays (W k) d h w = at_w k (ltb (k + 1) (process s.memory p).sizes.writes)
    row_stays (U i) d h w = at_u _
    row_stays (A1 i z) d h w = stays _ _ (within_past _ _ (released_past (task_of blank s.memory p) i _ z))
    row_stays (A2 i m z) d h w = stays _ _ (within_past _ _ (abort_past z (next_item (task_of blank s.memory p) (i + 1))))
    row_stays (A3 z) d h w = record { sets = c.sets; reading = tt }

  celled_step : (s : State V) (p : ℕ) → Counts blank s → AllCelled s → Here s p → (traits (process s.memory p).place).under_way ≡ true → AllCelled (moved blank s p (row blank s p))
  celled_step s p v a h u =
      let sn = v.sane p h in
      let g : Good blank s p (process s.memory p).place (row blank s p) = row_good blank s p v.formed h sn.reads sn.writes (process s.memory p).place u sn.at in
      celled_move s p (row blank s p) v h g.note (row_stays s p v h (a p h) (process s.memory p).place u sn.at (a p h).reading) a

  module _ (s : State V) (v : Counts blank s) (a : AllCelled s) where
    starts : (p : ℕ) (pl : Place) → Ready s p → Within (length s.cells) (phase pl) → AllCelled (moved blank s p (start_move (process s.memory p) pl))
    starts p pl r w = celled_move s p (start_move (process s.memory p) pl) v r.at tt (record { sets = (a p r.at).sets; reading = w }) a

    -- a write of an item that is in the write set
    again : (p i : ℕ) (x : V) (e : Entry V) → Ready s p → in_writes (task_of blank s.memory p) i ≡ Some e → AllCelled (moved blank s p (write_move (process s.memory p) (task_of blank s.memory p) i x (process s.memory p).sizes.writes))
    again p i x e r w =
        let m : Move V = write_move (process s.memory p) (task_of blank s.memory p) i x (process s.memory p).sizes.writes in
        let f = writes_long blank s v p r.at in
        let fit = (v.sane p r.at).writes in
        let same = writes_are blank s p (process s.memory p).sizes.writes fit in
        let k = slot_found i (task_of blank s.memory p).writes e (blank_entry blank) w in
        let it : (get_or (writes_in (own s p)) (write_slot (task_of blank s.memory p) i) (blank_entry blank)).item ≡ i = ap (λ es. (get_or es (write_slot (task_of blank s.memory p) i) (blank_entry blank)).item) (sym same) ∙ ap item_of k.1 ∙ find_item i (task_of blank s.memory p).writes e w in
        let t : (j : ℕ) → times j (take (process s.memory p).sizes.writes (set (part s p Writes) (write_slot (task_of blank s.memory p) i) (record { item = i; sequence = 0; value = x }))) ≡ times j (writes_in (own s p)) = λ j. ap (times j) (take_set (process s.memory p).sizes.writes (part s p Writes) (write_slot (task_of blank s.memory p) i) _) ∙ times_like j (writes_in (own s p)) (write_slot (task_of blank s.memory p) i) _ (blank_entry blank) (sym it) in
        celled_move s p m v r.at (let b = k.0 in omega arith) (record { sets = λ j y. (a p r.at).sets j (let b = t j in omega arith); reading = (a p r.at).reading }) a

    -- of one that is not
    anew : (p i : ℕ) (x : V) → Ready s p → i < length s.cells → in_writes (task_of blank s.memory p) i ≡ None → (process s.memory p).sizes.writes < 8 → AllCelled (moved blank s p (write_move (process s.memory p) (task_of blank s.memory p) i x ((process s.memory p).sizes.writes + 1)))
    anew p i x r h w l =
        let m : Move V = write_move (process s.memory p) (task_of blank s.memory p) i x ((process s.memory p).sizes.writes + 1) in
        let e : Entry V = record { item = i; sequence = 0; value = x } in
        let b : write_slot (task_of blank s.memory p) i ≡ (process s.memory p).sizes.writes = slot_none i (task_of blank s.memory p).writes w ∙ writes_long blank s v p r.at in
        let t : (j : ℕ) → times j (take ((process s.memory p).sizes.writes + 1) (set (part s p Writes) (write_slot (task_of blank s.memory p) i) e)) ≡ times j (writes_in (own s p)) + one (eqb i j) = λ j. ap (λ k. times j (take ((process s.memory p).sizes.writes + 1) (set (part s p Writes) k e))) b ∙ times_put j (part s p Writes) (process s.memory p).sizes.writes e (let u = part_long blank s p v.formed r.at Writes in omega arith) in
        celled_move s p m v r.at (omega arith) (record { sets = λ j y. elim (cases_eq i j) [ inl q ↦ rw (← q) h | inr d ↦ (a p r.at).sets j (let u = t j in let z : one (eqb i j) ≡ 0 = rw (ne_eqb i j d) in omega arith) ]; reading = (a p r.at).reading }) a

    celled_deeds : Deeds blank s (λ c o. AllCelled o.after)
    celled_deeds =
        record {
          refuses = λ c n. a;
          begins = λ p h e m l. celled_move (older blank s) p begin_move (older_counts blank s v) (record { low = h.low; high = h.high }) tt (record { sets = λ i y. absurd (omega arith); reading = tt }) (λ q hq. a q (record { low = hq.low; high = hq.high }));
          finds_write = λ p i e r b c w. a;
          finds_read = λ p i e r b c w f. a;
          reads = λ p i r b c w f k. starts p (R1 i) r b;
          rewrites = λ p i x e r b c w. again p i x e r w;
          writes = λ p i x r b c w k. anew p i x r b w k;
          tries = λ p r. starts p _ r (from_within s p v r.at (a p r.at) 0 false);
          aborts = λ p r. starts p _ r (from_within s p v r.at (a p r.at) 0 true);
          steps = λ p h u. celled_step s p v a h u;
        }

  pub celled_call : (s : State V) (c : Call V) → Counts blank s → AllCelled s → AllCelled (called blank s c).after
  celled_call s c v a = by_deed blank s (λ c o. AllCelled o.after) (celled_deeds s v a) c

  pub celled_fresh : (s : State V) → Fresh blank s → AllCelled s
  celled_fresh s f p h = record { sets = λ i y. absurd (let z = rw (f.none p) at y in omega arith); reading = rw (f.none p) tt }
