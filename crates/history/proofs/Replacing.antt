-- K's yes replaces the current values by the write set: where the write set has the item its value is current from then on, and elsewhere it stays.
use Rattle.std.proofs.Common.{◌≡◌, ℕ, Bool, true, false, cond, List, ◌∷◌, Option, Some, None, refl, sym, ap, ◌∙◌, unwrap_or, option_map}
use Rattle.std.proofs.lemmas.Bool.{true≢false, false≢true, both_ways, and_parts, not-true}
use Rattle.table.specs.Sets.{find}
use Rattle.table.specs.declared.entry.Entry.{Entry}
use Rattle.rows.specs.Places.{asked}
use Rattle.rows.specs.Primitives.{still, replied, said, if_said}
use Rattle.rows.specs.declared.place.Place.{Place}
use Rattle.rows.specs.declared.place.Place.TheVariants.{K, W}
use Rattle.process.specs.Moves.{Move, keep}
use Rattle.process.specs.Rows.{is_committed, decided, wait}
use Rattle.process.specs.Tells.{going}
use Rattle.process.specs.Traits.{traits}
use Rattle.process.specs.declared.record.Process.{Process}
use Rattle.process.specs.declared.record.Status.TheVariants.{Committed}
use Rattle.store.specs.Calls.{called}
use Rattle.store.specs.Model.{State, process, task_of, moved}
use Rattle.store.specs.Rows.{row}
use Rattle.store.specs.declared.calling.Call.{Call}
use Rattle.store.specs.declared.calling.Call.TheVariants.{Step}
use Rattle.history.specs.History as values
use Rattle.history.specs.History.{history, commits_now, is_update}
use Rattle.history.specs.Invariants.{Here, own, writes_in, Standing, Ties, Shown, committed_in, current}
use Rattle.history.specs.Notes.{caller}
use Rattle.history.proofs.Changing.{fits, step_sort}
use Rattle.history.proofs.CountCalls.{Fresh, counts_call}
use Rattle.history.proofs.Counting.{with_touch, row_at, mv}
use Rattle.history.proofs.Current.{Fit}
use Rattle.history.proofs.Deeds.{Deeds, by_deed}
use Rattle.history.proofs.Finding.{differ}
use Rattle.history.proofs.Finds.{value_found}
use Rattle.history.proofs.Keeping.{value-current, stands}
use Rattle.history.proofs.Sorts.{Sort, Same, plain, begun, grabs, decides, puts, frees, commits, not_committed, current_kept, current_new}
use Rattle.history.proofs.Standing.{process_at_here, commit_here, after_here, commit_step, update_at_k}
use Rattle.history.proofs.StatusCalls.{real_row}
use Rattle.history.proofs.Views.{RealTouch, RealNote, real_said, after_own}

-- the call is a step
abbrev is_step : {V : Type 0} → Call V → Bool
is_step (Step p) = true
is_step c = false

module _ {V : Type 0} (blank : V) (s : State V) where
  -- the row at K, where the bank says yes
  row_k : (p : ℕ) → (process s.memory p).place ≡ K → said (replied blank s.cells (asked (task_of blank s.memory p) (process s.memory p).place)) ≡ true
      → row blank s p ≡ mv blank s p going Committed (W 0) still keep
  row_k p e g =
      ap (row_at blank s p) e
      ∙ ap (λ (b : Bool). with_touch (cond b (record { tells = going; process = decided (process s.memory p) Committed (W 0); note = keep }) (wait (process s.memory p) K)) (if_said b still))
      (ap (λ (x : Place). said (replied blank s.cells (asked (task_of blank s.memory p) x))) (sym e) ∙ g)

  -- where p's write set has the item its value is current afterwards, and elsewhere what was
  abbrev pub Replaced : ℕ → State V → Type 0
  Replaced p t = (i : ℕ) → (current blank t i).value ≡ unwrap_or (value_found i (writes_in (own s p))) (current blank s i).value

  module _ (v : Standing blank s) (ts : Ties blank s) where
    module _ (p : ℕ) (m : Move V) (at : (process s.memory p).place ≡ K) (q : m ≡ mv blank s p going Committed (W 0) still keep) (b : is_committed (process s.memory p).status ≡ false) where
      -- a move to a commit that leaves what was committed had nothing to write
      same_none : (i : ℕ) → Same blank s p m → find i (writes_in (own s p)) ≡ None
      same_none i k = sym (ap (λ n. committed_in (after_own (own s p) n) i) q) ∙ k i ∙ not_committed blank s p m (own s p) i b

      status_is : is_committed m.process.status ≡ true
      status_is = ap (λ (x : Move V). is_committed x.process.status) q

      -- so whatever the sort, what the write set has is what the move commits
      found_commits : (k : Sort blank s p m) (i : ℕ) (x : Entry V) → find i (writes_in (own s p)) ≡ Some x → commits blank s p m k i ≡ Some x
      found_commits (plain c k) i x e = differ (sym (same_none i k) ∙ e)
      found_commits (begun c k w) i x e = absurd (true≢false (ap (λ (y : Place). (traits y).is_open) (sym at ∙ w)))
      found_commits (grabs j n t l u w) i x e = absurd (both_ways _ w status_is)
      found_commits (decides a r u z k) i x e = e
      found_commits (puts j y t o c k) i x e = differ (sym (same_none i k) ∙ e)
      found_commits (frees j n t o c k) i x e = differ (sym (same_none i k) ∙ e)

      none_commits : (k : Sort blank s p m) (i : ℕ) → find i (writes_in (own s p)) ≡ None → commits blank s p m k i ≡ None
      none_commits (plain c k) i e = refl
      none_commits (begun c k w) i e = refl
      none_commits (grabs j n t l u w) i e = refl
      none_commits (decides a r u z k) i e = e
      none_commits (puts j y t o c k) i e = refl
      none_commits (frees j n t o c k) i e = refl

      sort_replaced : (h : Here s p) → RealTouch s.cells m.touch → RealNote m.note → Fit blank (moved blank s p m) → Sort blank s p m → Replaced p (moved blank s p m)
      sort_replaced h rt rn f k i = by (find i (writes_in (own s p))) refl
        where
          by : (o : Option (Entry V)) → find i (writes_in (own s p)) ≡ o → (current blank (moved blank s p m) i).value ≡ unwrap_or (value_found i (writes_in (own s p))) (current blank s i).value
          by None e =
              ap (λ (y : Shown V). y.value) (current_kept blank s p m v.counts.formed h rt rn (fits blank s v.counts) f k i (none_commits k i e))
              ∙ sym (ap (λ (o : Option (Entry V)). unwrap_or (option_map (λ (x : Entry V). x.value) o) (current blank s i).value) e)
          by (Some x) e =
              ap (λ (y : Shown V). y.value) (current_new blank s p m v.counts.formed h rt rn (fits blank s v.counts) f k i x (found_commits k i x e))
              ∙ sym (ap (λ (o : Option (Entry V)). unwrap_or (option_map (λ (x : Entry V). x.value) o) (current blank s i).value) e)

    -- said of a step at K to which the bank says yes
    abbrev Replaces : Call V → State V → Type 0
    Replaces c t =
        is_step c ≡ true → (process s.memory (caller c)).place ≡ K → said (replied blank s.cells (asked (task_of blank s.memory (caller c)) (process s.memory (caller c)).place)) ≡ true
        → is_committed (process s.memory (caller c)).status ≡ false → is_committed (process t.memory (caller c)).status ≡ true → Replaced (caller c) t

    replaced_deeds : Deeds blank s (λ c o. Fit blank o.after → Replaces c o.after)
    replaced_deeds =
        record {
          refuses = λ c k f d a g b e. absurd (both_ways _ b e);
          begins = λ p h e m l f d. absurd (false≢true d);
          finds_write = λ p i e r b c w f d. absurd (false≢true d);
          finds_read = λ p i e r b c w g f d. absurd (false≢true d);
          reads = λ p i r b c w g k f d. absurd (false≢true d);
          rewrites = λ p i x e r b c w f d. absurd (false≢true d);
          writes = λ p i x r b c w k f d. absurd (false≢true d);
          tries = λ p r f d. absurd (false≢true d);
          aborts = λ p r f d. absurd (false≢true d);
          steps = λ p h u f d a g b e. sort_replaced p (row blank s p) a (row_k p a g) b h (real_said blank s.cells _) (real_row blank s v.counts p h u) f (step_sort blank s v ts p h u);
        }

    pub call_replaced : (c : Call V) → Replaces c (called blank s c).after
    call_replaced c = by_deed blank s _ replaced_deeds c (fits blank (called blank s c).after (counts_call blank s c v.counts))

module _ {V : Type 0} (blank : V) (start : State V) (started : Fresh blank start) where
  -- the commit of an update puts its write set in the place of the current values
  pub replaced : (c : Call V) (cs : List (Call V)) → commits_now blank start c cs ≡ true → is_update (history blank start cs).state (caller c) ≡ true
      → (i : ℕ) → values.current blank (history blank start (c ∷ cs)).state i ≡ unwrap_or (value_found i (writes_in (own (history blank start cs).state (caller c)))) (values.current blank (history blank start cs).state i)
  replaced c cs e u i =
      let s : State V = (history blank start cs).state in
      let st = stands blank start started cs in
      let h : Here s (caller c) = commit_here blank start started c cs e in
      let h' : Here (history blank start (c ∷ cs)).state (caller c) = after_here blank start started c cs e in
      let k = update_at_k blank start started c cs e u in
      let w = and_parts _ _ e in
      value-current blank (history blank start (c ∷ cs)).state i
      ∙ call_replaced blank s st.0 st.1 c (ap is_step (commit_step blank start started c cs e).steps) k.0 k.1
      (ap (λ (x : Process). is_committed x.status) (sym (process_at_here blank s (caller c) h)) ∙ not-true _ w.0)
      (ap (λ (x : Process). is_committed x.status) (sym (process_at_here blank (history blank start (c ∷ cs)).state (caller c) h')) ∙ w.1)
      i
      ∙ sym (ap (unwrap_or (value_found i (writes_in (own s (caller c))))) (value-current blank s i))
