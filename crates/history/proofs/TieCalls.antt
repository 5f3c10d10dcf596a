-- A process and the items that it has locked keep what they say of each other, through every call.
use Rattle.std.proofs.Common.{◌≡◌, ℕ, ◌+◌, ◌<◌, ◌≤◌, true, false, eqb, take, set, None, sym, refl, ap, ◌∙◌, subst, inl, inr, arith}
use Rattle.std.proofs.lemmas.Bool.{cases_eq, eq-eqb, ne_eqb}
use Rattle.table.specs.Sets.{blank_entry}
use Rattle.table.specs.Tasks.{Task, in_writes, write_slot}
use Rattle.table.specs.declared.entry.Part.TheVariants.{Writes}
use Rattle.rows.specs.declared.place.Place.{Place}
use Rattle.rows.specs.declared.place.Place.TheVariants.{R1}
use Rattle.process.specs.Traits.{traits}
use Rattle.store.specs.Calls.{older, called}
use Rattle.store.specs.Model.{State, process, task_of, moved}
use Rattle.store.specs.Rows.{row}
use Rattle.store.specs.declared.calling.Call.{Call}
use Rattle.history.specs.Invariants.{Here, part, own, reads_in, writes_in, one, times, none, grip, lock_of, Standing, Ties}
use Rattle.history.proofs.Views.{real_said, after_own, part_long, writes_are, take_set}
use Rattle.history.proofs.Sums.{times_like, times_put, find_none, slot_found, slot_none}
use Rattle.history.proofs.Finding.{differ}
use Rattle.history.proofs.Deeds.{Deeds, Ready, by_deed, begin_move, write_move, start_move}
use Rattle.history.proofs.Counting.{Good, row_good}
use Rattle.history.proofs.CountCalls.{Fresh, writes_long}
use Rattle.history.proofs.Locking.{Kept, row_kept}
use Rattle.history.proofs.Tying.{ties_move, Easy, easy, easy_from, tied_go, tied_loose, slot_has, RowTied, row_tied}

module _ {V : Type 0} (blank : V) where
  ties_step : (s : State V) (p : ℕ) → Standing blank s → Ties blank s → Here s p → (traits (process s.memory p).place).under_way ≡ true → Ties blank (moved blank s p (row blank s p))
  ties_step s p v ts h u =
      let sn = v.counts.sane p h in
      let g : Good blank s p (process s.memory p).place (row blank s p) = row_good blank s p v.counts.formed h sn.reads sn.writes (process s.memory p).place u sn.at in
      let k : Kept blank s p v.counts h (row blank s p) = row_kept blank s p v.counts h v.commits v.numbers (process s.memory p).place refl u (v.owner.each p h) (v.owner.held p h) in
      let r : RowTied blank s p v.counts h (ts p h) (row blank s p) = row_tied blank s p v.counts h (ts p h) (process s.memory p).place refl u (v.owner.each p h) (g.once (v.counts.once p h)) in
      ties_move blank s p (row blank s p) v.counts.formed h (real_said blank s.cells _) g.note k.fair r.value r.mine ts

  pub older_ties : (s : State V) → Ties blank s → Ties blank (older blank s)
  older_ties s ts p h = ts p (record { low = h.low; high = h.high })

  module _ (s : State V) (v : Standing blank s) (ts : Ties blank s) where
    pub owns_nothing : (p : ℕ) → Here s p → grip (process s.memory p).place ≡ none → (i : ℕ) → (lock_of blank s i).owner ≡ p → ⊥
    owns_nothing p h g i e = let y = rw g at ((v.owner.each p h).owner i e) in omega arith

    starts_ties : (p : ℕ) (r : Ready s p) (pl : Place) → Easy (lock_of blank s) p (reads_in (own s p)) (process s.memory p).sizes.writes pl → Ties blank (moved blank s p (start_move (process s.memory p) pl))
    starts_ties p r pl k = ties_move blank s p (start_move (process s.memory p) pl) v.counts.formed r.at tt tt tt tt (tied_go (own s p) (process s.memory p).status pl k (ts p r.at)) ts

    writes_ties : (p i m : ℕ) (x : V) (r : Ready s p) → write_slot (task_of blank s.memory p) i < 8 → ((j : ℕ) → times j (take m (set (part s p Writes) (write_slot (task_of blank s.memory p) i) (record { item = i; sequence = 0; value = x }))) ≤ 1) → Ties blank (moved blank s p (write_move (process s.memory p) (task_of blank s.memory p) i x m))
    writes_ties p i m x r l k =
        ties_move blank s p (write_move (process s.memory p) (task_of blank s.memory p) i x m) v.counts.formed r.at tt l tt tt
        (tied_loose (after_own (own s p) (write_move (process s.memory p) (task_of blank s.memory p) i x m)) (owns_nothing p r.at (ap grip r.rests)) (ts p r.at).reads_once k
        (subst (λ (pl : Place). Easy (lock_of blank s) p (reads_in (own s p)) m pl) (sym r.rests) (record { unwritten = refl; enough = omega arith; told = tt })))
        ts

    ties_deeds : Deeds blank s (λ c o. Ties blank o.after)
    ties_deeds =
        record {
          refuses = λ c k. ts;
          begins = λ p h e m l.
              ties_move blank (older blank s) p begin_move (record { sixteen = v.counts.formed.sixteen; few = v.counts.formed.few; long = v.counts.formed.long }) (record { low = h.low; high = h.high }) tt tt tt tt
              (record { reads_once = λ i. omega arith; writes_once = λ i. omega arith; enough = omega arith; next = λ i x o f. differ f; same = λ i x o f. differ f; kept = λ i x o f. differ f; told = tt })
              (older_ties s ts);
          finds_write = λ p i e r b c w. ts;
          finds_read = λ p i e r b c w f. ts;
          reads = λ p i r b c w f k. starts_ties p r (R1 i) (easy blank s p v.counts r.at (R1 i) refl (omega arith) tt);
          rewrites = λ p i x e r b c w.
              let t : Task V = task_of blank s.memory p in
              let sl = (slot_found i t.writes e e w).0 in
              let l = writes_long blank s v.counts p r.at in
              let z = (v.counts.sane p r.at).writes in
              writes_ties p i _ x r (omega arith) (λ j. rw (take_set (process s.memory p).sizes.writes (part s p Writes) (write_slot t i) (record { item = i; sequence = 0; value = x }), times_like j (writes_in (own s p)) (write_slot t i) (record { item = i; sequence = 0; value = x }) (blank_entry blank) (sym (slot_has blank s p v.counts r.at i (omega arith)))) ((ts p r.at).writes_once j));
          writes = λ p i x r b c w k.
              let t : Task V = task_of blank s.memory p in
              let l = writes_long blank s v.counts p r.at in
              let z : write_slot t i ≡ (process s.memory p).sizes.writes = slot_none i t.writes w ∙ l in
              writes_ties p i _ x r (omega arith) (λ j. rw z (more p i x r w k j));
          tries = λ p r. starts_ties p r _ (easy_from blank s p v.counts r.at 0 false);
          aborts = λ p r. starts_ties p r _ (easy_from blank s p v.counts r.at 0 true);
          steps = λ p h u. ties_step s p v ts h u;
        }
      where
        more : (p i : ℕ) (x : V) (r : Ready s p) → in_writes (task_of blank s.memory p) i ≡ None → (process s.memory p).sizes.writes < 8 → (j : ℕ) → times j (take ((process s.memory p).sizes.writes + 1) (set (part s p Writes) (process s.memory p).sizes.writes (record { item = i; sequence = 0; value = x }))) ≤ 1
        more p i x r w k j =
            let a = times_put j (part s p Writes) (process s.memory p).sizes.writes (record { item = i; sequence = 0; value = x }) (let l = part_long blank s p v.counts.formed r.at Writes in omega arith) in
            let c = (ts p r.at).writes_once j in
            let n : times i (writes_in (own s p)) ≡ 0 = ap (times i) (sym (writes_are blank s p (process s.memory p).sizes.writes (v.counts.sane p r.at).writes)) ∙ find_none i (task_of blank s.memory p).writes w in
            elim (cases_eq i j) [ inl e ↦ (let q : times j (writes_in (own s p)) ≡ 0 = rw e at n in let o : one (eqb i j) ≡ 1 = rw (eq-eqb i j e) refl in omega arith) | inr d ↦ (let o : one (eqb i j) ≡ 0 = rw (ne_eqb i j d) refl in omega arith) ]

  pub ties_call : (s : State V) (c : Call V) → Standing blank s → Ties blank s → Ties blank (called blank s c).after
  ties_call s c v ts = by_deed blank s (λ c o. Ties blank o.after) (ties_deeds s v ts) c

  pub ties_fresh : (s : State V) → Fresh blank s → Ties blank s
  ties_fresh s f p h = rw (f.none p) (record { reads_once = λ i. omega arith; writes_once = λ i. omega arith; enough = omega arith; next = λ i x o e. differ e; same = λ i x o e. differ e; kept = λ i x o e. differ e; told = tt })
