-- The count of an item is how many processes are counted in on it, after set-up and every list of calls.
use Rattle.std.proofs.Common.{◌≡◌, ℕ, zero, suc, ◌+◌, ◌-◌, ◌*◌, ◌^◌, ◌<◌, ◌≤◌, Bool, true, false, List, [], ◌∷◌, length, map, get_or, replicate, Some, None, Option, sym, refl, ap, ◌∙◌, subst, inl, inr, arith}
use Rattle.std.proofs.lemmas.List.{length-replicate, length-take-le}
use Rattle.std.proofs.lemmas.Bool.{cases_eq, or_parts, ltb-false}
use Rattle.bank.specs.Cells.{cell_at}
use Rattle.bank.specs.declared.record.Record.{Record}
use Rattle.table.specs.Tasks.{write_slot}
use Rattle.table.specs.declared.entry.Part.TheVariants.{Reads, Writes}
use Rattle.rows.specs.Places.{count_from}
use Rattle.rows.specs.Primitives.{still}
use Rattle.rows.specs.declared.place.Place.{Place}
use Rattle.rows.specs.declared.place.Place.TheVariants.{R1}
use Rattle.process.specs.Moves.{Note, keep, put, Move}
use Rattle.process.specs.Tells.{Told, done, going}
use Rattle.process.specs.Traits.{traits, fresh}
use Rattle.process.specs.declared.record.Process.{Process}
use Rattle.store.specs.Calls.{older, called, set_up, set_up_grounds, first_ground, unless}
use Rattle.store.specs.Model.{State, process, task_of, moved}
use Rattle.store.specs.Rows.{row}
use Rattle.store.specs.declared.calling.Call.{Call}
use Rattle.upkeep.specs.Upkeep.{cleared}
use Rattle.history.specs.Invariants.{Formed, Here, part, own, reads_in, times, phase, counting, SaneAt, counted, Sane, Once, count_of, Counts, left_by}
use Rattle.history.proofs.Views.{after_count, after_own, RealTouch, RealNote, real_said, mine_after, others_after, part_long, reads_are, writes_are, formed_after}
use Rattle.history.proofs.Sums.{total_none, total_most, find_none, slot_found, slot_none}
use Rattle.history.proofs.Deeds.{Deeds, passed, Ready, by_deed, write_move, start_move}
use Rattle.history.proofs.Counting.{count_move, Good, row_good, from_counts, from_sane}

module _ {V : Type 0} (blank : V) where
  pub counts_move : (s : State V) (p : ℕ) (m : Move V) → Counts blank s → Here s p → RealTouch s.cells m.touch → RealNote m.note
      → ((i : ℕ) → after_count (count_of blank s) m.touch i + counted (own s p) i ≡ count_of blank s i + counted (after_own (own s p) m) i)
      → Sane (after_own (own s p) m) → Once (after_own (own s p) m) → Counts blank (moved blank s p m)
  counts_move s p m v h rt rn k sn on =
      record {
        formed = formed_after blank s p m v.formed;
        count = count_move blank s p m v.formed h rt rn k v.count;
        sane = λ q hq. elim (cases_eq q p) [ inl e ↦ rw e (subst Sane (sym (mine_after blank s p m v.formed h rn)) sn) | inr d ↦ subst Sane (sym (others_after blank s p q m h hq.low d rn)) (v.sane q (record { low = hq.low; high = hq.high })) ];
        once = λ q hq. elim (cases_eq q p) [ inl e ↦ rw e (subst Once (sym (mine_after blank s p m v.formed h rn)) on) | inr d ↦ subst Once (sym (others_after blank s p q m h hq.low d rn)) (v.once q (record { low = hq.low; high = hq.high })) ];
      }

  -- a step
  pub counts_step : (s : State V) (p : ℕ) → Counts blank s → Here s p → (traits (process s.memory p).place).under_way ≡ true → Counts blank (moved blank s p (row blank s p))
  counts_step s p v h u =
      let sn = v.sane p h in
      let g : Good blank s p (process s.memory p).place (row blank s p) = row_good blank s p v.formed h sn.reads sn.writes (process s.memory p).place u sn.at in
      counts_move s p (row blank s p) v h (real_said blank s.cells _) g.note g.counts g.sane (g.once (v.once p h))

  -- a move that touches no cell, after which the process is counted in as before
  pub counts_still : (s : State V) (p : ℕ) (w : Told V) (q : Process) (n : Note V) → Counts blank s → Here s p → RealNote n
      → ((i : ℕ) → counted (after_own (own s p) (record { tells = w; process = q; touch = still; note = n })) i ≡ counted (own s p) i)
      → Sane (after_own (own s p) (record { tells = w; process = q; touch = still; note = n })) → Counts blank (moved blank s p (record { tells = w; process = q; touch = still; note = n }))
  counts_still s p w q n v h rn k sn = counts_move s p (record { tells = w; process = q; touch = still; note = n }) v h tt rn (λ i. rw (k i)) sn (λ i. rw (k i) (v.once p h i))

  pub older_counts : (s : State V) → Counts blank s → Counts blank (older blank s)
  older_counts s v =
      record {
        formed = record { sixteen = v.formed.sixteen; few = v.formed.few; long = v.formed.long };
        count = v.count;
        sane = λ p h. v.sane p (record { low = h.low; high = h.high });
        once = λ p h. v.once p (record { low = h.low; high = h.high });
      }

  module _ (s : State V) (v : Counts blank s) where
    -- of a process at rest the read set is what it is counted in on
    at_rest : (p : ℕ) → Ready s p → (i : ℕ) → counted (own s p) i ≡ times i (reads_in (own s p))
    at_rest p r i = rw r.rests refl

    starts_counts : (p : ℕ) (pl : Place) → Ready s p → SaneAt (part s p Reads) (process s.memory p).sizes.reads (phase pl) → ((i : ℕ) → counting (reads_in (own s p)) (phase pl) i ≡ times i (reads_in (own s p))) → Counts blank (moved blank s p (start_move (process s.memory p) pl))
    starts_counts p pl r a k = counts_still s p going _ keep v r.at tt (λ i. k i ∙ sym (at_rest p r i)) (let sn = v.sane p r.at in record { reads = sn.reads; writes = sn.writes; at = a })

    ends_counts : (p : ℕ) (a : Bool) → Ready s p → Counts blank (moved blank s p (start_move (process s.memory p) (count_from (task_of blank s.memory p) 0 a)))
    ends_counts p a r = let sn = v.sane p r.at in starts_counts p _ r (from_sane blank s p v.formed r.at sn.reads sn.writes 0 a) (λ i. from_counts blank s p v.formed r.at sn.reads sn.writes 0 a i)

    -- an entry of the write set, or behind it
    writes_counts : (p i n : ℕ) (x : V) → Ready s p → write_slot (task_of blank s.memory p) i < 8 → n ≤ 8 → Counts blank (moved blank s p (write_move (process s.memory p) (task_of blank s.memory p) i x n))
    writes_counts p i n x r l w = let sn = v.sane p r.at in counts_still s p done _ (put Writes (write_slot (task_of blank s.memory p) i) _) v r.at l (λ j. refl) (record { reads = sn.reads; writes = w; at = sn.at })

    pub writes_long : (p : ℕ) → Here s p → length (task_of blank s.memory p).writes ≡ (process s.memory p).sizes.writes
    writes_long p h = let sn = v.sane p h in ap length (writes_are blank s p (process s.memory p).sizes.writes sn.writes) ∙ length-take-le _ (part s p Writes) (let l = part_long blank s p v.formed h Writes in let u = sn.writes in omega arith)

    counts_deeds : Deeds blank s (λ c o. Counts blank o.after)
    counts_deeds =
        record {
          refuses = λ c n. v;
          begins = λ p h c m l.
              let o : State V = older blank s in
              counts_still o p done _ keep (older_counts s v) (record { low = h.low; high = h.high }) tt (λ i. rw c refl) (record { reads = omega arith; writes = omega arith; at = tt });
          finds_write = λ p i e r b c w. v;
          finds_read = λ p i e r b c w f. v;
          reads = λ p i r b c w f k. starts_counts p (R1 i) r (k, (let sn = v.sane p r.at in ap (times i) (sym (reads_are blank s p (process s.memory p).sizes.reads sn.reads)) ∙ find_none i _ f)) (λ j. refl);
          rewrites = λ p i x e r b c w. writes_counts p i _ x r (let a = (slot_found i (task_of blank s.memory p).writes e e w).0 in let l = writes_long p r.at in let z = (v.sane p r.at).writes in omega arith) (v.sane p r.at).writes;
          writes = λ p i x r b c w k. writes_counts p i _ x r (let a = slot_none i (task_of blank s.memory p).writes w in let l = writes_long p r.at in omega arith) (omega arith);
          tries = λ p r. ends_counts p false r;
          aborts = λ p r. ends_counts p true r;
          steps = λ p h u. counts_step s p v h u;
        }

  pub counts_call : (s : State V) (c : Call V) → Counts blank s → Counts blank (called blank s c).after
  counts_call s c v = by_deed blank s (λ c o. Counts blank o.after) (counts_deeds s v) c

  -- what stays through each call stays through every list of them
  pub through : (P : State V → Type 0) → ((s : State V) (c : Call V) → P s → P (called blank s c).after) → (s : State V) (cs : List (Call V)) → P s → P (left_by blank s cs)
  through P f s [] h = h
  through P f s (c ∷ cs) h = through P f (called blank s c).after cs (f s c h)

fresh_at : (n k : ℕ) → get_or (replicate n fresh) k fresh ≡ fresh
fresh_at zero k = refl
fresh_at (suc n) zero = refl
fresh_at (suc n) (suc k) = fresh_at n k

module _ {V : Type 0} (blank : V) where
  cleared_at : (cs : List (Record V)) (i : ℕ) → ((cell_at blank (map cleared cs) i).count ≡ 0) × ((cell_at blank (map cleared cs) i).lock.owner ≡ 0) × ((cell_at blank (map cleared cs) i).lock.sequence ≡ 0)
  cleared_at [] i = (refl, refl, refl)
  cleared_at (c ∷ cs) zero = (refl, refl, refl)
  cleared_at (c ∷ cs) (suc i) = cleared_at cs i

  -- a state that set-up left
  pub record Fresh (s : State V) : Type 0 where
    pub formed : Formed s
    pub counts : (i : ℕ) → (cell_at blank s.cells i).count ≡ 0
    pub owners : (i : ℕ) → (cell_at blank s.cells i).lock.owner ≡ 0
    pub numbers : (i : ℕ) → (cell_at blank s.cells i).lock.sequence ≡ 0
    pub none : (p : ℕ) → process s.memory p ≡ fresh
    pub life : s.memory.life ≤ 2 ^ 56 - 1

  pub set_up_fresh : (s : State V) (number life : ℕ) → (set_up s number life).tells ≡ done → Fresh (set_up s number life).after
  set_up_fresh s number life = go (first_ground (set_up_grounds s number life)) refl
    where
      left : State V
      left = record { cells = map cleared s.cells; memory = record { processes = replicate 16 fresh; number = number; life = life; entries = s.memory.entries } }

      go : (r : Option ℕ) → first_ground (set_up_grounds s number life) ≡ r → (unless r s (record { tells = done; after = left })).tells ≡ done → Fresh (unless r s (record { tells = done; after = left })).after
      go None e h =
          let a = passed (set_up_grounds s number life) e in
          let b = (or_parts _ _ (or_parts _ _ a.0).1) in
          let n = or_parts _ _ b.0 in
          let l = or_parts _ _ b.1 in
          record {
            formed = record { sixteen = length-replicate 16 fresh; few = ltb-false 16 number n.1; long = ltb-false (length s.memory.entries) (16 * number) a.1.0 };
            counts = λ i. (cleared_at s.cells i).0;
            owners = λ i. (cleared_at s.cells i).1;
            numbers = λ i. (cleared_at s.cells i).2;
            none = λ p. fresh_at 16 (p - 1);
            life = ltb-false (2 ^ 56 - 1) life l.1;
          }
      go (Some n) e h = let z : ◌≡◌ {A = ℕ} 0 1 = cc in absurd (omega arith)

  pub counts_fresh : (s : State V) → Fresh s → Counts blank s
  counts_fresh s f =
      record {
        formed = f.formed;
        count = λ i. f.counts i ∙ sym (total_none (λ p. counted (own s p) i) s.memory.number (λ q. rw (f.none q) refl));
        sane = λ p h. record { reads = rw (f.none p) (omega arith); writes = rw (f.none p) (omega arith); at = rw (f.none p) tt };
        once = λ p h i. rw (f.none p) (omega arith);
      }

  -- no count is above the number of processes
  pub count_few : (s : State V) → Counts blank s → (i : ℕ) → count_of blank s i ≤ 16
  count_few s v i = let a = v.count i in let b = total_most (λ p. counted (own s p) i) s.memory.number (λ q l k. v.once q (record { low = l; high = k }) i) in let c = v.formed.few in omega arith
