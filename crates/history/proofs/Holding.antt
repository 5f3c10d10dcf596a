-- The read set agrees with the current values at rest and at K.
-- At rest its entries are counted in, so they are current. At K the process holds every item that it read, and the lock has the entry's number; and an
-- entry that has the current number has the current value, as each commit makes the number one higher.
use Rattle.std.proofs.Common.{◌≡◌, ℕ, zero, suc, ◌+◌, ◌<◌, ◌≤◌, ◌⊎◌, true, false, eqb, ltb, List, [], ◌∷◌, length, get_or, take, Some, None, Option, inl, inr, refl, sym, ap, ◌∙◌, subst, arith}
use Rattle.std.proofs.lemmas.Bool.{cases_eq, cond_both, cond-false}
use Rattle.table.specs.Sets.{find}
use Rattle.table.specs.Tasks.{next_item, write_slot}
use Rattle.table.specs.declared.entry.Entry.{Entry}
use Rattle.table.specs.declared.entry.Part.TheVariants.{Reads}
use Rattle.rows.specs.Places.{count_from}
use Rattle.rows.specs.declared.place.Place.{Place}
use Rattle.rows.specs.declared.place.Place.TheVariants.{Closed, Idle, R1, R2, R3, R4, R5, D1, D2, C, L1, L2, L3, L4, K, W, U, A1, A2, A3}
use Rattle.rows.specs.Primitives.{said}
use Rattle.rows.specs.declared.asking.Reply.{Reply}
use Rattle.process.specs.Moves.{Note, Move}
use Rattle.process.specs.Rows.{Turn, is_committed, unlock_to, settled, numbered, next_at}
use Rattle.process.specs.Traits.{traits}
use Rattle.process.specs.declared.record.Process.{Process}
use Rattle.store.specs.Calls.{called, older}
use Rattle.store.specs.Model.{State, process, task_of, moved}
use Rattle.store.specs.Rows.{owned, recalled, row}
use Rattle.store.specs.declared.calling.Call.{Call}
use Rattle.history.specs.History as values
use Rattle.history.specs.History.{history}
use Rattle.history.specs.Invariants.{Here, Own, own, part, reads_in, writes_in, times, phase, Formed, Standing, Ties, Freshes, Changes, Owns, whole, grip, data_set, stage, lock_of, value_of, shown, Shown, current, counted_entries, AllCurrent}
use Rattle.history.proofs.Changing.{fits, changes}
use Rattle.history.proofs.CountCalls.{Fresh}
use Rattle.history.proofs.Current.{owned_is, of_here}
use Rattle.history.proofs.Deeds.{Deeds, Ready, begin_move, start_move, write_move, by_deed}
use Rattle.history.proofs.Finding.{times_some, find_at}
use Rattle.history.proofs.FreshCalls.{fresh_call, fresh_start}
use Rattle.history.proofs.Keeping.{value-current, stands}
use Rattle.history.proofs.Scripts.{Agrees}
use Rattle.history.proofs.StatusCalls.{real_rewrite, real_write, real_row}
use Rattle.history.proofs.Views.{RealNote, after_own, after_note, mine_after, others_after}

module _ {V : Type 0} (blank : V) where
  -- the entry's number is at most the current one, and where they are equal its value is the current one
  pub record Aged (s : State V) (e : Entry V) : Type 0 where
    pub most : e.sequence ≤ (current blank s e.item).number
    pub same : e.sequence ≡ (current blank s e.item).number → e.value ≡ (current blank s e.item).value

  abbrev pub AllAged : State V → List (Entry V) → Type 0
  AllAged s [] = Unit {0}
  AllAged s (e ∷ es) = Aged s e × AllAged s es

  -- Each entry of each read set is aged: it joins the read set while it is current, and from then on a commit of its item makes the current number higher
  -- than the entry's, and nothing else changes what is current.
  abbrev pub Ages : State V → Type 0
  Ages s = (p : ℕ) → Here s p → AllAged s (reads_in (own s p))

  aged_current : (s : State V) (es : List (Entry V)) → AllCurrent blank s es → AllAged s es
  aged_current s [] a = tt
  aged_current s (e ∷ es) a = (
    record { most = (let y : e.sequence ≡ (current blank s e.item).number = ap (λ (z : Shown V). z.number) a.0 in omega arith); same = λ _. ap (λ (z : Shown V). z.value) a.0 },
    aged_current s es a.1,
  )

  aged_same : (s t : State V) (e : Entry V) → current blank t e.item ≡ current blank s e.item → Aged s e → Aged t e
  aged_same s t e k a = record { most = subst (λ (x : Shown V). e.sequence ≤ x.number) (sym k) a.most; same = subst (λ (x : Shown V). e.sequence ≡ x.number → e.value ≡ x.value) (sym k) a.same }

  -- a call leaves it so, as it changes what is current of the item only by a commit, which makes the number one higher
  aged_after : (s t : State V) (e : Entry V) → Changes blank s t → Aged s e → Aged t e
  aged_after s t e (inl k) a = aged_same s t e (k e.item) a
  aged_after s t e (inr c) a = by (find e.item (writes_in (own s c.by))) refl
    where
      by : (o : Option (Entry V)) → find e.item (writes_in (own s c.by)) ≡ o → Aged t e
      by None f = aged_same s t e (c.old e.item f) a
      by (Some x) f =
          let n : (current blank t e.item).number ≡ (current blank s e.item).number + 1 = ap (λ (z : Shown V). z.number) (c.new e.item x f) in
          let m = a.most in
          record { most = omega arith; same = λ q. absurd (omega arith) }

  all_after : (s t : State V) (es : List (Entry V)) → Changes blank s t → AllAged s es → AllAged t es
  all_after s t [] c a = tt
  all_after s t (e ∷ es) c a = (aged_after s t e c a.0, all_after s t es c a.1)

  pub aged_at : (s : State V) (es : List (Entry V)) (k : ℕ) (d : Entry V) → k < length es → AllAged s es → Aged s (get_or es k d)
  aged_at s [] k d l a = absurd (omega arith)
  aged_at s (e ∷ es) zero d l a = a.0
  aged_at s (e ∷ es) (suc k) d l a = aged_at s es k d (omega arith) a.1

  module _ (s : State V) (p : ℕ) where
    -- a move leaves the read set, or all of it is counted in after it
    abbrev Leaves : Process → Note V → Type 0
    Leaves q n =
        (take q.sizes.reads (after_note (part s p) n Reads) ≡ reads_in (own s p))
        ⊎ (counted_entries (take q.sizes.reads (after_note (part s p) n Reads)) (phase q.place) ≡ take q.sizes.reads (after_note (part s p) n Reads))

    abbrev LeavesTurn : Turn V → Type 0
    LeavesTurn u = Leaves u.process u.note

    leaves_settled : (o : Option (Entry V)) → LeavesTurn (settled (process s.memory p) (task_of blank s.memory p) o)
    leaves_settled None = inr refl
    leaves_settled (Some x) = inr refl

    leaves_unlock : (o : Option ℕ) → LeavesTurn (unlock_to (process s.memory p) o)
    leaves_unlock None = inl refl
    leaves_unlock (Some i) = inl refl

    leaves_number : (i n : ℕ) → take (process s.memory p).sizes.reads (after_note (part s p) (numbered (process s.memory p) (task_of blank s.memory p) i n) Reads) ≡ reads_in (own s p)
    leaves_number i n =
        cond_both (ltb (write_slot (task_of blank s.memory p) i) (process s.memory p).sizes.writes) _ _ (λ (x : Note V). take (process s.memory p).sizes.reads (after_note (part s p) x Reads) ≡ reads_in (own s p)) (λ e. refl) (λ e. refl)

    leaves_row : (pl : Place) (r : Reply V) → (traits pl).under_way ≡ true → LeavesTurn (next_at (process s.memory p) (task_of blank s.memory p) blank pl (recalled blank s.memory pl) r)
    leaves_row Closed r u = inl refl
    leaves_row Idle r u = inl refl
    leaves_row (R1 i) r u = inr refl
    leaves_row (R2 i m) r u = cond_both (said r) _ _ LeavesTurn (λ x. inr refl) (λ x. inr refl)
    leaves_row (R3 i) r u = inr refl
    leaves_row (R4 i l) r u = cond_both (eqb l.owner 0) _ _ LeavesTurn (λ x. inr refl) (λ x. inr refl)
    leaves_row (R5 i l) r u = leaves_settled (owned blank s.memory l.owner i)
    leaves_row (D1 k a) r u = inl refl
    leaves_row (D2 k m a) r u = cond_both (said r) _ _ LeavesTurn (λ x. inl refl) (λ x. inl refl)
    leaves_row C r u = inl refl
    leaves_row (L1 i) r u = inl refl
    leaves_row (L2 i l) r u = inl refl
    leaves_row (L3 i l) r u = inl refl
    leaves_row (L4 i n) r u = cond_both (said r) _ _ LeavesTurn (λ x. inl (leaves_number i (n + 1))) (λ x. inl refl)
    leaves_row K r u = cond_both (said r) _ _ LeavesTurn (λ x. inl refl) (λ x. inl refl)
    leaves_row (W k) r u = cond_both (ltb (k + 1) (process s.memory p).sizes.writes) _ _ LeavesTurn (λ x. inl refl) (λ x. leaves_unlock (next_item (task_of blank s.memory p) 0))
    leaves_row (U i) r u = leaves_unlock (next_item (task_of blank s.memory p) (i + 1))
    leaves_row (A1 i z) r u = inl refl
    leaves_row (A2 i n z) r u = inl refl
    leaves_row (A3 z) r u = inl refl

    -- each move leaves the entries aged, as what a process has just read is current
    ages_move : (m : Move V) → Formed s → Here s p → RealNote m.note → Leaves m.process m.note → Freshes blank (moved blank s p m) → ((q : ℕ) → Here s q → AllAged (moved blank s p m) (reads_in (own s q))) → Ages (moved blank s p m)
    ages_move m f h rn l fs a q hq = elim (cases_eq q p) [ inl e ↦ rw e mine | inr d ↦ other d ]
      where
        mine_fresh : AllCurrent blank (moved blank s p m) (counted_entries (reads_in (after_own (own s p) m)) (phase m.process.place))
        mine_fresh = subst (λ (o : Own V). AllCurrent blank (moved blank s p m) (counted_entries (reads_in o) (phase o.process.place))) (mine_after blank s p m f h rn) (fs p (record { low = h.low; high = h.high })).entries

        mine : AllAged (moved blank s p m) (reads_in (own (moved blank s p m) p))
        mine =
            subst (λ (o : Own V). AllAged (moved blank s p m) (reads_in o)) (sym (mine_after blank s p m f h rn))
            (elim l [
              | inl e ↦ subst (AllAged (moved blank s p m)) (sym e) (a p h)
              | inr e ↦ aged_current (moved blank s p m) _ (subst (AllCurrent blank (moved blank s p m)) e mine_fresh)
            ])

        other : (q ≡ p → ⊥) → AllAged (moved blank s p m) (reads_in (own (moved blank s p m) q))
        other d = subst (λ (o : Own V). AllAged (moved blank s p m) (reads_in o)) (sym (others_after blank s p q m h hq.low d rn)) (a q (record { low = hq.low; high = hq.high }))

  module _ (s : State V) (v : Standing blank s) (ts : Ties blank s) (ag : Ages s) where
    abbrev AgesAfter : State V → Type 0
    AgesAfter t = Freshes blank t → Changes blank s t → Ages t

    moves : (p : ℕ) (m : Move V) → Here s p → RealNote m.note → Leaves s p m.process m.note → AgesAfter (moved blank s p m)
    moves p m h rn l fs c = ages_move s p m v.counts.formed h rn l fs (λ q hq. all_after s (moved blank s p m) (reads_in (own s q)) c (ag q hq))

    ages_deeds : Deeds blank s (λ c o. AgesAfter o.after)
    ages_deeds =
        record {
          refuses = λ c k fs ch. ag;
          begins = λ p h e m l fs ch.
              ages_move (older blank s) p begin_move (record { sixteen = v.counts.formed.sixteen; few = v.counts.formed.few; long = v.counts.formed.long }) (record { low = h.low; high = h.high }) tt (inr refl) fs
              (λ q hq. all_after s (moved blank (older blank s) p begin_move) (reads_in (own s q)) ch (ag q (record { low = hq.low; high = hq.high })));
          finds_write = λ p i e r b c w fs ch. ag;
          finds_read = λ p i e r b c w g fs ch. ag;
          reads = λ p i r b c w g k. moves p (start_move (process s.memory p) (R1 i)) r.at tt (inl refl);
          rewrites = λ p i x e r b c w. moves p (write_move (process s.memory p) (task_of blank s.memory p) i x (process s.memory p).sizes.writes) r.at (real_rewrite blank s v.counts p i e r w) (inl refl);
          writes = λ p i x r b c w k. moves p (write_move (process s.memory p) (task_of blank s.memory p) i x ((process s.memory p).sizes.writes + 1)) r.at (real_write blank s v.counts p i r w k) (inl refl);
          tries = λ p r. moves p (start_move (process s.memory p) (count_from (task_of blank s.memory p) 0 false)) r.at tt (inl refl);
          aborts = λ p r. moves p (start_move (process s.memory p) (count_from (task_of blank s.memory p) 0 true)) r.at tt (inl refl);
          steps = λ p h u. moves p (row blank s p) h (real_row blank s v.counts p h u) (leaves_row s p (process s.memory p).place _ u);
        }

    pub ages_call : (c : Call V) → Freshes blank s → Ages (called blank s c).after
    ages_call c fs = by_deed blank s (λ c o. AgesAfter o.after) ages_deeds c (fresh_call blank s c v ts fs) (changes blank s v ts c)

    -- what agrees entry by entry
    agrees_all : (held : ℕ → V) (es : List (Entry V)) → ((k : ℕ) (d : Entry V) → k < length es → held (get_or es k d).item ≡ (get_or es k d).value) → Agrees held es
    agrees_all held [] f = tt
    agrees_all held (e ∷ es) f = (f 0 e (omega arith), agrees_all held es (λ k d l. f (suc k) d (omega arith)))

    -- an item that p holds before it commits shows the bank's value and the lock's number
    held_number : (p i : ℕ) → Here s p → is_committed (process s.memory p).status ≡ false → (lock_of blank s i).owner ≡ p → (current blank s i).number ≡ (lock_of blank s i).sequence
    held_number p i h b o =
        let none : owned blank s.memory (lock_of blank s i).owner i ≡ None =
        ap (λ w. owned blank s.memory w i) o ∙ owned_is blank s p i (fits blank s v.counts) ∙ of_here blank s p i h ∙ cond-false (is_committed (process s.memory p).status) (find i (writes_in (own s p))) None b in
        ap (λ (x : Option (Entry V)). (shown x (value_of blank s i) (lock_of blank s i).sequence).number) none

    pub k_agrees : (p : ℕ) → Here s p → (process s.memory p).place ≡ K → Agrees (values.current blank s) (reads_in (own s p))
    k_agrees p h e = agrees_all (values.current blank s) (reads_in (own s p)) at
      where
        before : is_committed (process s.memory p).status ≡ false
        before = (v.numbers.each p h).before (ap (λ x. (stage x).late) e) (ap (λ x. (traits x).is_open) e)

        holds : Owns (lock_of blank s) (data_set (own s p)) whole p
        holds = subst (λ x. Owns (lock_of blank s) (data_set (own s p)) (grip x) p) e (v.owner.each p h)

        at : (k : ℕ) (d : Entry V) → k < length (reads_in (own s p)) → values.current blank s (get_or (reads_in (own s p)) k d).item ≡ (get_or (reads_in (own s p)) k d).value
        at k d l =
            let x : Entry V = get_or (reads_in (own s p)) k d in
            let found : find x.item (reads_in (own s p)) ≡ Some x = find_at x.item (reads_in (own s p)) k d ((ts p h).reads_once x.item) l refl in
            let some : 0 < times x.item (reads_in (own s p)) = times_some x.item (reads_in (own s p)) k d l refl in
            let mine : (lock_of blank s x.item).owner ≡ p = holds.owned x.item (omega arith) in
            let number : x.sequence ≡ (current blank s x.item).number = (ts p h).same x.item x mine found ∙ sym (held_number p x.item h before mine) in
            value-current blank s x.item ∙ sym ((aged_at s (reads_in (own s p)) k d l (ag p h)).same number)

  agrees_current : (s : State V) (es : List (Entry V)) → AllCurrent blank s es → Agrees (values.current blank s) es
  agrees_current s [] a = tt
  agrees_current s (e ∷ es) a = (value-current blank s e.item ∙ sym (ap (λ (z : Shown V). z.value) a.0), agrees_current s es a.1)

module _ {V : Type 0} (blank : V) (start : State V) (started : Fresh blank start) where
  -- what is counted in is current after every list of calls, and every entry is aged
  pub freshes : (cs : List (Call V)) → Freshes blank (history blank start cs).state
  freshes [] = fresh_start blank start started.none
  freshes (c ∷ cs) = let st = stands blank start started cs in fresh_call blank (history blank start cs).state c st.0 st.1 (freshes cs)

  pub ages : (cs : List (Call V)) → Ages blank (history blank start cs).state
  ages [] = λ p h. subst (λ (q : Process). AllAged blank start (take q.sizes.reads (part start p Reads))) (sym (started.none p)) tt
  ages (c ∷ cs) = let st = stands blank start started cs in ages_call blank (history blank start cs).state st.0 st.1 (ages cs) c (freshes cs)

  -- what a process at rest has read, and what a process at K has read, is current
  pub at_rest : (cs : List (Call V)) (p : ℕ) → Ready (history blank start cs).state p → Agrees (values.current blank (history blank start cs).state) (reads_in (own (history blank start cs).state p))
  at_rest cs p r =
      let s : State V = (history blank start cs).state in
      agrees_current blank s (reads_in (own s p)) (subst (λ (x : Place). AllCurrent blank s (counted_entries (reads_in (own s p)) (phase x))) r.rests (freshes cs p r.at).entries)

  pub at_k : (cs : List (Call V)) (p : ℕ) → Here (history blank start cs).state p → (process (history blank start cs).state.memory p).place ≡ K → Agrees (values.current blank (history blank start cs).state) (reads_in (own (history blank start cs).state p))
  at_k cs = let st = stands blank start started cs in k_agrees blank (history blank start cs).state st.0 st.1 (ages cs)
