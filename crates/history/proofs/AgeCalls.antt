-- Numbers that a process has read are at most those of now, through every call.
use Rattle.std.proofs.Common.{◌≡◌, ℕ, ◌+◌, ◌-◌, true, false, List, [], ◌∷◌, Some, None, Option, is_some, refl, sym, ap, ◌∙◌, subst, inl, inr, arith}
use Rattle.std.proofs.lemmas.Bool.{cases_eq}
use Rattle.bank.specs.declared.lock.Lock.{Lock}
use Rattle.table.specs.Tasks.{sequence_or}
use Rattle.table.specs.declared.entry.Entry.{Entry}
use Rattle.rows.specs.Places.{asked, count_from}
use Rattle.rows.specs.Primitives.{replied, lock_in}
use Rattle.rows.specs.declared.place.Place.{Place}
use Rattle.rows.specs.declared.place.Place.TheVariants.{Closed, R1, R4, R5, L1}
use Rattle.process.specs.Moves.{Move}
use Rattle.process.specs.Traits.{traits, fresh}
use Rattle.store.specs.Calls.{older, called, remembered}
use Rattle.store.specs.Model.{State, process, task_of, moved}
use Rattle.store.specs.Rows.{owned, row}
use Rattle.store.specs.declared.calling.Call.{Call}
use Rattle.history.specs.Ages.{Sight, NotNewer, seen, Seen, Aged, Ages}
use Rattle.history.specs.Invariants.{Here, own, reads_in, phase, Standing, Ties, Freshes, lock_of, value_of, Shown, shown, counted_entries, AllCurrent, Fresh}
use Rattle.history.specs.Notes.{value_told, caller}
use Rattle.history.proofs.Aging.{sight_map, sight_all, sight_owner, AtL1, count_sees, row_sees, newer_map, newer_found, number_grows, Unbegun, seen_after, aged_after}
use Rattle.history.proofs.Changing.{fits, step_sort, start_sort, begin_sort, write_sort}
use Rattle.history.proofs.CountCalls.{counts_call}
use Rattle.history.proofs.Current.{Fit}
use Rattle.history.proofs.Deeds.{Deeds, Ready, by_deed, begin_move, write_move, start_move}
use Rattle.history.proofs.Ends.{read_rests}
use Rattle.history.proofs.FreshCalls.{not_begun, older_standing, unremembered}
use Rattle.history.proofs.NumberCalls.{open_from_under}
use Rattle.history.proofs.ReadRows.{Asked, row_reads}
use Rattle.history.proofs.Sorts.{Sort, is_begun}
use Rattle.history.proofs.Stamps.{number}
use Rattle.history.proofs.StatusCalls.{real_rewrite, real_write, real_row}
use Rattle.history.proofs.TieCalls.{older_ties}
use Rattle.history.proofs.Views.{RealTouch, RealNote, real_said, after_own, mine_after, others_after}

-- the item that a read is about
abbrev asked_at : Place → ℕ
asked_at (R4 i l) = i
asked_at (R5 i l) = i
asked_at pl = 0

module _ {V : Type 0} (blank : V) where
  -- what is current is not newer
  newer_current : (s : State V) (es : List (Entry V)) → AllCurrent blank s es → NotNewer blank s es
  newer_current s [] a = tt
  newer_current s (e ∷ es) a = (let x : e.sequence ≡ number blank s e.item = ap (λ (x : Shown V). x.number) a.0 in omega (arith, x), newer_current s es a.1)

  -- so at rest nothing is
  aged_rest : (s : State V) (p : ℕ) → Ready s p → Fresh blank s (own s p) → Aged blank s (own s p)
  aged_rest s p r f =
      record {
        entries = newer_current s (reads_in (own s p)) (subst (λ (x : Place). AllCurrent blank s (counted_entries (reads_in (own s p)) (phase x))) r.rests f.entries);
        sight = subst (Sight (Seen blank s (reads_in (own s p)))) (sym r.rests) tt;
      }

  -- a lock that is read stands for the number of now
  seen_now : (s : State V) (i : ℕ) → seen blank s i (lock_of blank s i) ≡ number blank s i
  seen_now s i = by (owned blank s.memory (lock_of blank s i).owner i)
    where
      by : (o : Option (Entry V)) → sequence_or (lock_of blank s i).sequence o ≡ (shown o (value_of blank s i) (lock_of blank s i).sequence).number
      by None = refl
      by (Some x) = refl

module _ {V : Type 0} (blank : V) (s : State V) (v : Standing blank s) (ts : Ties blank s) (ag : Ages blank s) where
  aged_move : (p : ℕ) (m : Move V) (h : Here s p) (rt : RealTouch s.cells m.touch) (rn : RealNote m.note) (fit' : Fit blank (moved blank s p m)) (k : Sort blank s p m)
      → ((q : ℕ) → Here s q → (q ≡ p → ⊥) → Sight (Unbegun blank s p m v.counts.formed h rt rn (fits blank s v.counts) fit' k) (process s.memory q).place) → Aged blank (moved blank s p m) (own (moved blank s p m) p) → Ages blank (moved blank s p m)
  aged_move p m h rt rn fit' k quiet mine q hq = elim (cases_eq q p) [ inl e ↦ rw e mine | inr d ↦ other d ]
    where
      hs : Here s q
      hs = record { low = hq.low; high = hq.high }

      other : (q ≡ p → ⊥) → Aged blank (moved blank s p m) (own (moved blank s p m) q)
      other d =
          subst (Aged blank (moved blank s p m)) (sym (others_after blank s p q m h hq.low d rn))
          (aged_after blank s p m v.counts.formed h rt rn (fits blank s v.counts) fit' k (own s q) (quiet q hs d) (ag q hs))

  -- a call of a process at rest, which keeps its read set and looks at no lock
  aged_start : (p : ℕ) (m : Move V) (r : Ready s p) (rt : RealTouch s.cells m.touch) (rn : RealNote m.note) (fit' : Fit blank (moved blank s p m)) (k : Sort blank s p m)
      → ((P : ℕ → Lock → Type 0) → Sight P m.process.place) → reads_in (after_own (own s p) m) ≡ reads_in (own s p) → Ages blank (moved blank s p m)
  aged_start p m r rt rn fit' k blind same =
      aged_move p m r.at rt rn fit' k (λ q hq d. sight_all _ (λ i l. inr (not_begun blank s v ts p m k (ap (λ x. (traits x).is_open) r.rests))) (process s.memory q).place)
      (subst (Aged blank (moved blank s p m)) (sym (mine_after blank s p m v.counts.formed r.at rn))
      (record {
        entries =
            subst (NotNewer blank (moved blank s p m)) (sym same)
            (newer_map blank s (moved blank s p m) (number_grows blank s p m v.counts.formed r.at rt rn (fits blank s v.counts) fit' k) (reads_in (own s p)) (ag p r.at).entries);
        sight = blind _;
      }))

  asked_own : (p : ℕ) (h : Here s p) (pl : Place) → Asked blank s p v.counts.formed h (asked_at pl) pl
  asked_own p h (R4 i l) = refl
  asked_own p h (R5 i l) = refl
  asked_own p h pl = tt

  -- a step
  aged_step : (p : ℕ) (h : Here s p) → (traits (process s.memory p).place).under_way ≡ true → Fit blank (moved blank s p (row blank s p)) → Freshes blank (moved blank s p (row blank s p))
      → (is_some (value_told (row blank s p).tells) ≡ true → Ready (moved blank s p (row blank s p)) p) → Ages blank (moved blank s p (row blank s p))
  aged_step p h u fit' fs rests =
      aged_move p m h rt rn fit' k (λ q hq d. sight_all _ (λ i l. inr unbegun) (process s.memory q).place)
      (elim (row_reads blank s p v.counts.formed h (asked_at (process s.memory p).place) (process s.memory p).place _ (v.counts.sane p h).at (asked_own p h (process s.memory p).place)) [
        | inl y ↦ subst (Aged blank t) (sym (mine_after blank s p m v.counts.formed h rn)) (stays y.1)
        | inr y ↦ (let r : Ready t p = rests (ap is_some y.2) in aged_rest blank t p r (fs p r.at))
      ])
    where
      m : Move V
      m = row blank s p

      t : State V
      t = moved blank s p m

      rt : RealTouch s.cells m.touch
      rt = real_said blank s.cells _

      rn : RealNote m.note
      rn = real_row blank s v.counts p h u

      k : Sort blank s p m
      k = step_sort blank s v ts p h u

      unbegun : is_begun blank s p m k ≡ false
      unbegun = not_begun blank s v ts p m k (open_from_under _ u)

      sees : (pl : Place) → AtL1 (λ i. Seen blank s (reads_in (own s p)) i (lock_in (replied blank s.cells (asked (task_of blank s.memory p) pl)))) pl
      sees (L1 i) =
          let y = seen_now blank s i in
          record {
            entry = λ e f. let x = newer_found blank s (reads_in (own s p)) i e (ag p h).entries f in omega (arith, x, y);
            now = omega (arith, y);
          }
      sees pl = tt

      stays : reads_in (after_own (own s p) m) ≡ reads_in (own s p) → Aged blank t (after_own (own s p) m)
      stays e =
          record {
            entries = subst (NotNewer blank t) (sym e) (newer_map blank s t (number_grows blank s p m v.counts.formed h rt rn (fits blank s v.counts) fit' k) (reads_in (own s p)) (ag p h).entries);
            sight =
                subst (λ (es : List (Entry V)). Sight (Seen blank t es) m.process.place) (sym e)
                (sight_map (Seen blank s (reads_in (own s p))) (Seen blank t (reads_in (own s p)))
                (λ i l y. seen_after blank s p m v.counts.formed h rt rn (fits blank s v.counts) fit' k (reads_in (own s p)) i l (ag p h).entries (inr unbegun) y) m.process.place
                (row_sees blank (process s.memory p) (task_of blank s.memory p) (Seen blank s (reads_in (own s p))) (process s.memory p).place _ _ (sees (process s.memory p).place) (ag p h).sight));
          }

module _ {V : Type 0} (blank : V) where
  older_ages : (s : State V) → Ages blank s → Ages blank (older blank s)
  older_ages s ag p h =
      let a : Aged blank s (own s p) = ag p (record { low = h.low; high = h.high }) in
      record {
        entries = newer_map blank s (older blank s) (λ i. omega arith) (reads_in (own s p)) a.entries;
        sight = sight_map (Seen blank s (reads_in (own s p))) (Seen blank (older blank s) (reads_in (own s p))) (λ i l y. record { entry = y.entry; now = y.now }) (process s.memory p).place a.sight;
      }

  -- a begin: nobody else remembers the process
  aged_begin : (s : State V) (v : Standing blank s) (ts : Ties blank s) (ag : Ages blank s) (p : ℕ) → Here s p → (process s.memory p).place ≡ Closed → remembered s.memory.processes p ≡ false → Fit blank (moved blank (older blank s) p begin_move) → Ages blank (moved blank (older blank s) p begin_move)
  aged_begin s v ts ag p h e m f =
      let o : State V = older blank s in
      let vo : Standing blank o = older_standing blank s v in
      let to : Ties blank o = older_ties blank s ts in
      let ho : Here o p = record { low = h.low; high = h.high } in
      aged_move blank o vo to (older_ages s ag) p begin_move ho tt tt f (begin_sort blank o vo to p ho e)
      (λ q hq d. sight_map (λ i l. (traits (process s.memory q).place).owner ≡ l.owner) _
      (λ i l x. inl (λ y. unremembered s.memory.processes 0 p m (q - 1) (let a = hq.high in let b = v.counts.formed.few in let c = hq.low in let l = v.counts.formed.sixteen in omega arith) (λ z. d (let c = hq.low in omega arith)) (x ∙ y)))
      (process s.memory q).place (sight_owner (process s.memory q).place))
      (subst (Aged blank (moved blank o p begin_move)) (sym (mine_after blank o p begin_move vo.counts.formed ho tt)) (record { entries = tt; sight = tt }))

  module _ (s : State V) (v : Standing blank s) (ts : Ties blank s) (ag : Ages blank s) where
    aged_deeds : Deeds blank s (λ c o. Fit blank o.after → Freshes blank o.after → (is_some (value_told o.tells) ≡ true → Ready o.after (caller c)) → Ages blank o.after)
    aged_deeds =
        record {
          refuses = λ c k f g r. ag;
          begins = λ p h e m l f g r. aged_begin s v ts ag p h e m f;
          finds_write = λ p i e r b c w f g q. ag;
          finds_read = λ p i e r b c w x f g q. ag;
          reads = λ p i r b c w x k f g q. aged_start blank s v ts ag p (start_move (process s.memory p) (R1 i)) r tt tt f (start_sort blank s v ts p (R1 i)) (λ P. tt) refl;
          rewrites = λ p i x e r b c w f g q.
              aged_start blank s v ts ag p (write_move (process s.memory p) (task_of blank s.memory p) i x (process s.memory p).sizes.writes) r tt (real_rewrite blank s v.counts p i e r w) f (write_sort blank s v ts p i _ x r)
              (λ P. subst (Sight P) (sym r.rests) tt) refl;
          writes = λ p i x r b c w k f g q.
              aged_start blank s v ts ag p (write_move (process s.memory p) (task_of blank s.memory p) i x ((process s.memory p).sizes.writes + 1)) r tt (real_write blank s v.counts p i r w k) f (write_sort blank s v ts p i _ x r)
              (λ P. subst (Sight P) (sym r.rests) tt) refl;
          tries = λ p r f g q.
              aged_start blank s v ts ag p (start_move (process s.memory p) (count_from (task_of blank s.memory p) 0 false)) r tt tt f (start_sort blank s v ts p _)
              (λ P. count_sees blank (process s.memory p) (task_of blank s.memory p) P 0 false) refl;
          aborts = λ p r f g q.
              aged_start blank s v ts ag p (start_move (process s.memory p) (count_from (task_of blank s.memory p) 0 true)) r tt tt f (start_sort blank s v ts p _)
              (λ P. count_sees blank (process s.memory p) (task_of blank s.memory p) P 0 true) refl;
          steps = λ p h u f g q. aged_step blank s v ts ag p h u f g q;
        }

    pub ages_call : (c : Call V) → Freshes blank (called blank s c).after → Ages blank (called blank s c).after
    ages_call c g = by_deed blank s _ aged_deeds c (fits blank (called blank s c).after (counts_call blank s c v.counts)) g (read_rests blank s v.counts c)

  pub ages_start : (s : State V) → ((p : ℕ) → process s.memory p ≡ fresh) → Ages blank s
  ages_start s n p h = rw (n p) (record { entries = tt; sight = tt })
