-- What stands between notes and state after every list of calls, and what follows for a call that commits:
-- it is a step at K to which the bank says yes if the transaction is an update, and a step at C if it is read-only, and then its script wrote nothing.
use Rattle.std.proofs.Common.{◌≡◌, ℕ, ◌+◌, ◌≤◌, true, false, not, eqb, List, [], ◌∷◌, take, inl, inr, refl, sym, ap, ◌∙◌, subst, arith}
use Rattle.std.proofs.lemmas.Bool.{false≢true, both_ways, not-true, not-false, and_parts, cases_Bool, cond-true, cond-false, eqb-true, ne_eqb, le-ltb, or_from}
use Rattle.table.specs.declared.entry.Part.TheVariants.{Writes}
use Rattle.rows.specs.Places.{asked}
use Rattle.rows.specs.Primitives.{replied, said}
use Rattle.rows.specs.declared.place.Place.{Place}
use Rattle.rows.specs.declared.place.Place.TheVariants.{K, C}
use Rattle.process.specs.Rows.{is_committed}
use Rattle.process.specs.Traits.{fresh}
use Rattle.process.specs.declared.record.Process.{Process}
use Rattle.store.specs.Calls.{no_process}
use Rattle.store.specs.Model.{State, process, task_of}
use Rattle.store.specs.declared.calling.Call.{Call}
use Rattle.history.specs.History.{History, history, process_at, has_committed, is_update, commits_now}
use Rattle.history.specs.Invariants.{Here, part, Counts}
use Rattle.history.specs.Notes.{no_notes, caller}
use Rattle.history.proofs.CountCalls.{Fresh, counts_fresh, counts_call}
use Rattle.history.proofs.Deeds.{here}
use Rattle.history.proofs.Forced.{Fine, fine}
use Rattle.history.proofs.Noting.{OfAll}
use Rattle.history.proofs.Putting.{IsReadOnly}
use Rattle.history.proofs.ScriptCalls.{script_call}
use Rattle.history.proofs.Scripts.{Scripted}
use Rattle.history.proofs.StatusCalls.{StatedNote, stated_call, CommitStep, call_commits, number_kept}
use Rattle.history.proofs.Statuses.{StatedOf}
use Rattle.history.proofs.Finds.{value_found}

module _ {V : Type 0} (blank : V) (s : State V) (p : ℕ) where
  -- a process that has committed is one of the store
  pub committed_here : has_committed s p ≡ true → Here s p
  committed_here e =
      elim (cases_Bool (no_process s.memory p)) [
        | inl y ↦ absurd (false≢true (ap (λ (q : Process). is_committed q.status) (sym (cond-true (no_process s.memory p) fresh (process s.memory p) y)) ∙ e))
        | inr n ↦ here blank s p n
      ]

  -- and the record of one of the store is found
  pub process_at_here : Here s p → process_at s p ≡ process s.memory p
  process_at_here h =
      let l = h.low in
      cond-false (no_process s.memory p) _ _ (or_from (eqb p 0) _ (ne_eqb p 0 (λ e. omega (arith, e, l))) (le-ltb s.memory.number p h.high))

module _ {V : Type 0} (blank : V) (start : State V) (started : Fresh blank start) where
  abbrev past : List (Call V) → History V
  past cs = history blank start cs

  pub counts : (cs : List (Call V)) → Counts blank (past cs).state
  counts [] = counts_fresh blank start started
  counts (c ∷ cs) = counts_call blank (past cs).state c (counts cs)

  pub scripted : (cs : List (Call V)) → OfAll Scripted (past cs).state (past cs).notes
  scripted [] p h =
      subst (λ (q : Process). Scripted no_notes (record { process = q; part = part start p })) (sym (started.none p))
      (record { wrote = λ i. refl; gets = λ held a. refl; mid = tt })
  scripted (c ∷ cs) p h = script_call blank (past cs).state ((past cs).moment + 1) (past cs).notes (counts cs) (scripted cs) c p h

  pub stated : (cs : List (Call V)) → OfAll StatedNote (past cs).state (past cs).notes
  stated [] p h = subst StatedOf (sym (started.none p)) tt
  stated (c ∷ cs) p h = stated_call blank (past cs).state (counts cs) ((past cs).moment + 1) (past cs).notes (stated cs) c p h

  module _ (c : Call V) (cs : List (Call V)) (e : commits_now blank start c cs ≡ true) where
    abbrev s : State V
    s = (past cs).state

    abbrev p : ℕ
    p = caller c

    pub after_here : Here (past (c ∷ cs)).state p
    after_here = committed_here blank (past (c ∷ cs)).state p (and_parts _ _ e).1

    pub commit_here : Here s p
    commit_here = record { low = after_here.low; high = subst (λ (n : ℕ). p ≤ n) (number_kept blank s (counts cs) c) after_here.high }

    pub commit_step : CommitStep blank s (counts cs) c
    commit_step =
        call_commits blank s (counts cs) (λ q h. stated cs q h) c
        (ap (λ (q : Process). is_committed q.status) (sym (process_at_here blank s p commit_here)) ∙ not-true _ (and_parts _ _ e).0)
        (ap (λ (q : Process). is_committed q.status) (sym (process_at_here blank (past (c ∷ cs)).state p after_here)) ∙ (and_parts _ _ e).1)

    -- at K an update, at C not
    updates_at : (pl : Place) → (process s.memory p).place ≡ pl → Fine pl (is_update s p) ((past cs).notes p).chose_abort
    updates_at pl g =
        subst (λ (q : Process). Fine pl (not (eqb q.sizes.writes 0)) ((past cs).notes p).chose_abort) (sym (process_at_here blank s p commit_here))
        (subst (λ (x : Place). Fine x (not (eqb (process s.memory p).sizes.writes 0)) ((past cs).notes p).chose_abort) g (fine blank start started cs p commit_here))

    pub update_at_k : is_update s p ≡ true → ((process s.memory p).place ≡ K) × (said (replied blank s.cells (asked (task_of blank s.memory p) (process s.memory p).place)) ≡ true)
    update_at_k u = elim commit_step.at [ inl k ↦ k | inr g ↦ absurd (both_ways (is_update s p) (updates_at C g) u) ]

    pub read_only_at_c : is_update s p ≡ false → (process s.memory p).place ≡ C
    read_only_at_c u = elim commit_step.at [ inl k ↦ absurd (both_ways (is_update s p) u (updates_at K k.0)) | inr g ↦ g ]

    pub writes_nothing : is_update s p ≡ false → IsReadOnly ((past cs).notes p).script
    writes_nothing u i =
        let n : (process s.memory p).sizes.writes ≡ 0 =
        ap (λ (q : Process). q.sizes.writes) (sym (process_at_here blank s p commit_here)) ∙ eqb-true (process_at s p).sizes.writes 0 (not-false _ u) in
        (scripted cs p commit_here).wrote i ∙ ap (λ (k : ℕ). value_found i (take k (part s p Writes))) n
