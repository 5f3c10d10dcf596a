-- How many commits wrote an item is its current number: the number rises only where an update commits, by one for each item that it writes.
use Rattle.std.proofs.Common.{◌≡◌, ℕ, ◌+◌, ◌<◌, Bool, true, false, cond, not, List, [], ◌∷◌, Some, None, Option, is_some, option_map, inl, inr, refl, sym, ap, ◌∙◌, subst, ◌≤◌, arith}
use Rattle.std.proofs.lemmas.Bool.{true≢false, both_ways, and_from, not_from_false, cond_both, cases_Bool, and_parts}
use Rattle.table.specs.Sets.{find, item_of, blank_entry}
use Rattle.table.specs.declared.entry.Entry.{Entry}
use Rattle.rows.specs.Places.{asked}
use Rattle.rows.specs.Primitives.{replied, said, still, if_said}
use Rattle.rows.specs.declared.place.Place.{Place}
use Rattle.rows.specs.declared.place.Place.TheVariants.{K, W}
use Rattle.process.specs.Moves.{Move, keep}
use Rattle.process.specs.Rows.{is_committed, decided, wait}
use Rattle.process.specs.Tells.{going}
use Rattle.process.specs.Traits.{traits}
use Rattle.process.specs.declared.record.Process.{Process}
use Rattle.process.specs.declared.record.Status.TheVariants.{Committed}
use Rattle.store.specs.Calls.{called}
use Rattle.store.specs.Model.{State, process, task_of, moved}
use Rattle.store.specs.Rows.{owned, row}
use Rattle.store.specs.declared.calling.Call.{Call}
use Rattle.history.specs.History.{History, Commit, history, put_in, next_commit, commits_now, has_committed, is_update}
use Rattle.history.specs.Invariants.{Here, own, writes_in, one, times, Standing, Ties, Freshes, stage, grip, hold, data_set, lock_of, value_of, Shown, shown, current}
use Rattle.history.specs.Notes.{caller}
use Rattle.history.specs.Reruns.{last_write, writes_item}
use Rattle.history.proofs.Changing.{fits}
use Rattle.history.proofs.CountCalls.{Fresh, counts_call}
use Rattle.history.proofs.Counting.{row_at, with_touch}
use Rattle.history.proofs.Current.{Fit}
use Rattle.history.proofs.Dates.{written, passing-put_in}
use Rattle.history.proofs.Deeds.{Deeds, Ready, by_deed}
use Rattle.history.proofs.Finding.{times_some, find_index}
use Rattle.history.proofs.Finds.{value_found}
use Rattle.history.proofs.FreshCalls.{fresh_call, fresh_start}
use Rattle.history.proofs.Keeping.{call_kept, stands}
use Rattle.history.proofs.Sorts.{Sort, decides, current_kept, current_new}
use Rattle.history.proofs.Standing.{counts, scripted, stated, process_at_here, read_only_at_c, update_at_k, commit_here, after_here, writes_nothing}
use Rattle.history.proofs.StatusCalls.{call_commits, number_kept, real_row}
use Rattle.history.proofs.Views.{RealNote, RealTouch, real_said}

abbrev at_k : Place → Bool
at_k K = true
at_k x = false

module _ {V : Type 0} (blank : V) where
  abbrev pub number : State V → ℕ → ℕ
  number s i = (current blank s i).number

module _ {V : Type 0} (blank : V) (s : State V) (v : Standing blank s) (ts : Ties blank s) where
  module _ (p : ℕ) (h : Here s p) (e : (process s.memory p).place ≡ K) where
    not_yet : is_committed (process s.memory p).status ≡ false
    not_yet = (v.numbers.each p h).before (ap (λ x. (stage x).late) e) (ap (λ x. (traits x).is_open) e)

    -- K's yes is a decision
    decision : said (replied blank s.cells (asked (task_of blank s.memory p) K)) ≡ true → Sort blank s p (row_at blank s p K)
    decision y =
        decides e
        (ap (λ b. with_touch (cond b (record { tells = going; process = decided (process s.memory p) Committed (W 0); note = keep }) (wait (process s.memory p) K)) (if_said b still)) y)
        not_yet y
        (λ i x f.
        let w = find_index i (writes_in (own s p)) x (blank_entry blank) f in
        let t : 0 < times i (writes_in (own s p)) = times_some i (writes_in (own s p)) w.0 (blank_entry blank) w.1 (ap item_of w.2 ∙ w.3) in
        let o : (lock_of blank s i).owner ≡ p = (v.owner.each p h).owned i (owns i t) in
        (o, (ts p h).next i x o f))
      where
        owns : (i : ℕ) → 0 < times i (writes_in (own s p)) → 0 < hold (grip (process s.memory p).place) (data_set (own s p) i) i
        owns i w = rw e (omega arith)

    -- and raises the number of each item that is written
    raised : (y : said (replied blank s.cells (asked (task_of blank s.memory p) K)) ≡ true) → Fit blank (moved blank s p (row_at blank s p K)) → RealNote (row_at blank s p K).note → RealTouch s.cells (row_at blank s p K).touch
        → (i : ℕ) → number blank (moved blank s p (row_at blank s p K)) i ≡ one (is_some (find i (writes_in (own s p)))) + number blank s i
    unfolding decision
    raised y fit' rn rt i = by (find i (writes_in (own s p))) refl
      where
        by : (o : Option (Entry V)) → find i (writes_in (own s p)) ≡ o → number blank (moved blank s p (row_at blank s p K)) i ≡ one (is_some o) + number blank s i
        by None f =
            let a : number blank (moved blank s p (row_at blank s p K)) i ≡ number blank s i =
            ap (λ (x : Shown V). x.number) (current_kept blank s p (row_at blank s p K) v.counts.formed h rt rn (fits blank s v.counts) fit' (decision y) i f) in
            omega (arith, a)
        by (Some x) f =
            let a : number blank (moved blank s p (row_at blank s p K)) i ≡ number blank s i + 1 =
            ap (λ (x : Shown V). x.number) (current_new blank s p (row_at blank s p K) v.counts.formed h rt rn (fits blank s v.counts) fit' (decision y) i x f) in
            omega (arith, a)

  abbrev Raises : Call V → State V → Type 0
  Raises c t =
      (process s.memory (caller c)).place ≡ K → said (replied blank s.cells (asked (task_of blank s.memory (caller c)) (process s.memory (caller c)).place)) ≡ true
      → is_committed (process t.memory (caller c)).status ≡ true → (i : ℕ) → number blank t i ≡ one (is_some (find i (writes_in (own s (caller c))))) + number blank s i

  not_at_rest : {A : Type 0} (p : ℕ) → Ready s p → (process s.memory p).place ≡ K → A
  not_at_rest p r e = absurd (true≢false (ap at_k (sym e ∙ r.rests)))

  raises_deeds : Deeds blank s (λ c o. Fit blank o.after → Here s (caller c) → Raises c o.after)
  raises_deeds =
      record {
        refuses = λ c k f h e y b. absurd (both_ways _ (not_yet (caller c) h e) b);
        begins = λ p h x m l f g e. absurd (true≢false (ap at_k (sym e ∙ x)));
        finds_write = λ p i x r b c w f h e. not_at_rest p r e;
        finds_read = λ p i x r b c w g f h e. not_at_rest p r e;
        reads = λ p i r b c w g k f h e. not_at_rest p r e;
        rewrites = λ p i x y r b c w f h e. not_at_rest p r e;
        writes = λ p i x r b c w k f h e. not_at_rest p r e;
        tries = λ p r f h e. not_at_rest p r e;
        aborts = λ p r f h e. not_at_rest p r e;
        steps = λ p h u f g e y b i.
            let z : row blank s p ≡ row_at blank s p K = ap (row_at blank s p) e in
            ap (λ m. number blank (moved blank s p m) i) z
            ∙ raised p h e (subst (λ pl. said (replied blank s.cells (asked (task_of blank s.memory p) pl)) ≡ true) e y)
            (subst (λ m. Fit blank (moved blank s p m)) z f) (subst (λ (m : Move V). RealNote m.note) z (real_row blank s v.counts p h u)) (real_said blank s.cells (asked (task_of blank s.memory p) K)) i;
      }

  pub call_raises : (c : Call V) → Here s (caller c) → Raises c (called blank s c).after
  call_raises c = by_deed blank s _ raises_deeds c (fits blank (called blank s c).after (counts_call blank s c v.counts))

module _ {V : Type 0} (blank : V) (start : State V) (started : Fresh blank start) where
  abbrev past : List (Call V) → History V
  past cs = history blank start cs

  abbrev now : List (Call V) → ℕ → ℕ
  now cs i = number blank (past cs).state i

  -- a call that changes no current value changes no number
  quiet : (c : Call V) (cs : List (Call V)) → commits_now blank start c cs ≡ false → (i : ℕ) → now (c ∷ cs) i ≡ now cs i
  quiet c cs e i = ap (λ (x : Shown V). x.number) (call_kept blank (past cs).state (stands blank start started cs).0 (stands blank start started cs).1 c (λ a b g. both_ways _ e (found b g)) i)
    where
      found : is_committed (process (past cs).state.memory (caller c)).status ≡ false → is_committed (process (past (c ∷ cs)).state.memory (caller c)).status ≡ true → commits_now blank start c cs ≡ true
      found b g =
          let s : State V = (past cs).state in
          let h : Here s (caller c) = (call_commits blank s (counts blank start started cs) (λ q x. stated blank start started cs q x) c b g).here in
          let h' : Here (past (c ∷ cs)).state (caller c) = record { low = h.low; high = subst (λ (n : ℕ). caller c ≤ n) (sym (number_kept blank s (counts blank start started cs) c)) h.high } in
          and_from _ _
          (not_from_false _ (ap (λ (q : Process). is_committed q.status) (process_at_here blank s (caller c) h) ∙ b))
          (ap (λ (q : Process). is_committed q.status) (process_at_here blank (past (c ∷ cs)).state (caller c) h') ∙ g)

  read_only : (c : Call V) (cs : List (Call V)) → commits_now blank start c cs ≡ true → is_update (past cs).state (caller c) ≡ false → (i : ℕ) → now (c ∷ cs) i ≡ now cs i
  read_only c cs e u i =
      ap (λ (x : Shown V). x.number)
      (call_kept blank (past cs).state (stands blank start started cs).0 (stands blank start started cs).1 c (λ a b g. true≢false (ap at_k (sym a ∙ read_only_at_c blank start started c cs e u))) i)

  update : (c : Call V) (cs : List (Call V)) → commits_now blank start c cs ≡ true → is_update (past cs).state (caller c) ≡ true
      → (i : ℕ) → now (c ∷ cs) i ≡ one (writes_item ((past cs).notes (caller c)).script i) + now cs i
  update c cs e u i =
      let s : State V = (past cs).state in
      let h : Here s (caller c) = commit_here blank start started c cs e in
      let w : is_some (last_write ((past cs).notes (caller c)).script i) ≡ is_some (value_found i (writes_in (own s (caller c)))) = ap is_some ((scripted blank start started cs (caller c) h).wrote i) in
      let k = update_at_k blank start started c cs e u in
      call_raises blank s (stands blank start started cs).0 (stands blank start started cs).1 c h k.0 k.1
      (ap (λ (q : Process). is_committed q.status) (sym (process_at_here blank (past (c ∷ cs)).state (caller c) (after_here blank start started c cs e))) ∙ committed_after e) i
      ∙ ap (λ b. one b + now cs i) (some_mapped (find i (writes_in (own s (caller c)))) ∙ sym w)
    where
      some_mapped : (o : Option (Entry V)) → is_some o ≡ is_some (option_map (λ (x : Entry V). x.value) o)
      some_mapped None = refl
      some_mapped (Some x) = refl

      committed_after : commits_now blank start c cs ≡ true → has_committed (past (c ∷ cs)).state (caller c) ≡ true
      committed_after e = (and_parts (not (has_committed (past cs).state (caller c))) (has_committed (past (c ∷ cs)).state (caller c)) e).1

  pub stamp : (cs : List (Call V)) (i : ℕ) → now cs i ≡ written (past cs).commits i
  stamp [] i = ap (λ (o : ℕ). (shown (owned blank start.memory o i) (value_of blank start i) (lock_of blank start i).sequence).number) (started.owners i) ∙ started.numbers i
  stamp (c ∷ cs) i =
      cond_both (commits_now blank start c cs) _ _ (λ (ks : List (Commit V)). now (c ∷ cs) i ≡ written ks i)
      (λ e. elim (cases_Bool (is_update (past cs).state (caller c))) [ inl u ↦ update c cs e u i ∙ more (stamp cs i) | inr u ↦ read_only c cs e u i ∙ none e u ∙ more (stamp cs i) ])
      (λ e. quiet c cs e i ∙ stamp cs i)
    where
      more : now cs i ≡ written (past cs).commits i → one (writes_item ((past cs).notes (caller c)).script i) + now cs i ≡ written (put_in (next_commit (past cs) (caller c)) (past cs).commits) i
      more h =
          ap (λ n. one (writes_item ((past cs).notes (caller c)).script i) + n) h
          ∙ sym (passing-put_in (λ k. writes_item k.script i) (next_commit (past cs) (caller c)) (past cs).commits)

      none : commits_now blank start c cs ≡ true → is_update (past cs).state (caller c) ≡ false → now cs i ≡ one (writes_item ((past cs).notes (caller c)).script i) + now cs i
      none e u =
          let z : one (writes_item ((past cs).notes (caller c)).script i) ≡ 0 = ap (λ (o : Option V). one (is_some o)) (writes_nothing blank start started c cs e u i) in
          omega (arith, z)

  -- what a process has read stays current
  pub freshes : (cs : List (Call V)) → Freshes blank (past cs).state
  freshes [] = fresh_start blank start started.none
  freshes (c ∷ cs) = fresh_call blank (past cs).state c (stands blank start started cs).0 (stands blank start started cs).1 (freshes cs)
