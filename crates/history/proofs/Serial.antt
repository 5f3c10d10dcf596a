-- Part a of the claim, from what holds of current values alone: they change only when an update commits, by its write set,
-- and they agree with the read set of a process that is at rest or at K.
-- A read-only transaction fits when it tries to commit, and what is held before that moment stays, whatever commits later.
use Rattle.std.proofs.Common.{◌≡◌, ℕ, ◌+◌, ◌<◌, ◌≤◌, true, false, eqb, List, [], ◌∷◌, map, Some, None, Option, is_some, unwrap_or, inl, inr, refl, sym, ap, ◌∙◌, subst, arith}
use Rattle.std.proofs.lemmas.Bool.{false≢true, cond-true, cond-false, cond_both, cases_Bool, cases_eq, eq-eqb, ne_eqb}
use Rattle.rows.specs.declared.place.Place.TheVariants.{K}
use Rattle.process.specs.Tells.{Told, value}
use Rattle.store.specs.Calls.{called}
use Rattle.store.specs.Model.{State, Outcome, process}
use Rattle.store.specs.Rows.{row}
use Rattle.process.specs.declared.record.Process.{Process}
use Rattle.store.specs.declared.calling.Call.{Call}
use Rattle.history.specs.History.{History, Commit, history, is_update, next_commit, put_in, scripts, commits_now, current, first_value, rerun_value}
use Rattle.history.specs.Invariants.{Here, Own, own, reads_in, writes_in}
use Rattle.history.specs.Notes.{Notes, value_told, caller, call_noted}
use Rattle.history.specs.Reruns.{alone, held_after, rerun}
use Rattle.history.proofs.Base.{leaves-start}
use Rattle.history.proofs.CountCalls.{Fresh}
use Rattle.history.proofs.Deeds.{Deeds, Ready, by_deed}
use Rattle.history.proofs.Ends.{read_rests}
use Rattle.history.proofs.Finds.{value_found}
use Rattle.history.proofs.Moments.{tried_at, tried-early, commits-early}
use Rattle.history.proofs.Noting.{OfAll}
use Rattle.history.proofs.Putting.{alone-ext, IsReadOnly, before, AllBefore, Fits, FitsAfter, Fits-cons, Fits-put_in, put_in-last, held_after-put_in, held_before-put_in, before-all}
use Rattle.history.proofs.Scripts.{Agrees}
use Rattle.history.proofs.Standing.{counts, scripted, commit_here, update_at_k, read_only_at_c, writes_nothing}
use Rattle.history.proofs.StatusCalls.{number_kept}
use Rattle.history.proofs.Tried.{TriedAway, none_some, rest_untried, step_silent, tried_step, tried_call, Trying, TryingTried, trying_call}

module _ {V : Type 0} (blank : V) (start : State V) where
  abbrev past : List (Call V) → History V
  past cs = history blank start cs

  abbrev past_own : List (Call V) → ℕ → Own V
  past_own cs p = own (past cs).state p

  -- the current values
  abbrev now : List (Call V) → ℕ → V
  now cs = current blank (past cs).state

  -- what has to be known of them after every list of calls cs, and of the next call c
  pub record Current : Type 0 where
    pub kept : (c : Call V) (cs : List (Call V)) → commits_now blank start c cs ≡ false → (i : ℕ) → now (c ∷ cs) i ≡ now cs i
    pub kept_by_read_only : (c : Call V) (cs : List (Call V)) → commits_now blank start c cs ≡ true → is_update (past cs).state (caller c) ≡ false → (i : ℕ) → now (c ∷ cs) i ≡ now cs i
    pub replaced : (c : Call V) (cs : List (Call V)) → commits_now blank start c cs ≡ true → is_update (past cs).state (caller c) ≡ true
        → (i : ℕ) → now (c ∷ cs) i ≡ unwrap_or (value_found i (writes_in (past_own cs (caller c)))) (now cs i)
    pub at_rest : (cs : List (Call V)) (p : ℕ) → Ready (past cs).state p → Agrees (now cs) (reads_in (past_own cs p))
    pub at_k : (cs : List (Call V)) (p : ℕ) → Here (past cs).state p → (process (past cs).state.memory p).place ≡ K → Agrees (now cs) (reads_in (past_own cs p))

  module _ (started : Fresh blank start) (k : Current) where
    abbrev Leaves : List (Commit V) → List (Call V) → Type 0
    Leaves ks cs = (i : ℕ) → held_after (first_value blank start) (scripts ks) i ≡ now cs i

    module _ (c : Call V) (cs : List (Call V)) where
      abbrev new : Commit V
      new = next_commit (past cs) (caller c)

      -- the commit of an update is the latest
      put_update : is_update (past cs).state (caller c) ≡ true → put_in new (past cs).commits ≡ new ∷ (past cs).commits
      put_update u = put_in-last new (past cs).commits (subst (λ (m : ℕ). AllBefore m (past cs).commits) (sym (cond-true _ _ _ u)) (commits-early blank start cs))

      leaves_more : Leaves (past cs).commits cs → Leaves (past (c ∷ cs)).commits (c ∷ cs)
      leaves_more h =
          cond_both (commits_now blank start c cs) _ _ (λ (ks : List (Commit V)). Leaves ks (c ∷ cs))
          (λ e. elim (cases_Bool (is_update (past cs).state (caller c))) [ inl u ↦ update e u | inr u ↦ read_only e u ])
          (λ e i. h i ∙ sym (k.kept c cs e i))
        where
          update : commits_now blank start c cs ≡ true → is_update (past cs).state (caller c) ≡ true → Leaves (put_in new (past cs).commits) (c ∷ cs)
          update e u =
              subst (λ (ks : List (Commit V)). Leaves ks (c ∷ cs)) (sym (put_update u))
              (λ i.
              ap (λ (x : Option V). unwrap_or x (held_after (first_value blank start) (scripts (past cs).commits) i)) ((scripted blank start started cs (caller c) (commit_here blank start started c cs e)).wrote i)
              ∙ ap (unwrap_or (value_found i (writes_in (past_own cs (caller c))))) (h i)
              ∙ sym (k.replaced c cs e u i))

          read_only : commits_now blank start c cs ≡ true → is_update (past cs).state (caller c) ≡ false → Leaves (put_in new (past cs).commits) (c ∷ cs)
          read_only e u i =
              held_after-put_in (first_value blank start) new (writes_nothing blank start started c cs e u) (past cs).commits i
              ∙ h i
              ∙ sym (k.kept_by_read_only c cs e u i)

    leaves : (cs : List (Call V)) → Leaves (past cs).commits cs
    leaves [] = leaves-start blank start started
    leaves (c ∷ cs) = leaves_more c cs (leaves cs)

    pub leaves_as_rerun : (cs : List (Call V)) (i : ℕ) → rerun_value blank start cs i ≡ now cs i
    leaves_as_rerun cs = leaves cs

    -- a process at rest has read what it would read now
    rest_fits : (cs : List (Call V)) (p : ℕ) → Ready (past cs).state p → alone (now cs) ((past cs).notes p).script ≡ ((past cs).notes p).got
    rest_fits cs p r = (scripted blank start started cs p r.at).gets (now cs) (k.at_rest cs p r)

    tried : (cs : List (Call V)) → OfAll TriedAway (past cs).state (past cs).notes
    tried [] p h = λ m e. none_some e
    tried (c ∷ cs) p h = tried_call blank (past cs).state (counts blank start started cs) ((past cs).moment + 1) (past cs).notes (tried cs) c p h

    trying : (cs : List (Call V)) → OfAll TryingTried (past cs).state (past cs).notes
    trying [] p h = λ e. absurd (subst (λ (q : Process). Trying q.place) (started.none p) e)
    trying (c ∷ cs) p h = trying_call blank (past cs).state (counts blank start started cs) ((past cs).moment + 1) (past cs).notes (trying cs) c p h

    -- the script alone after the commits before the try-commit gives what was got
    abbrev FitsTried : List (Commit V) → Notes V → Type 0
    FitsTried ks n = (m : ℕ) → n.tried ≡ Some m → alone (held_after (first_value blank start) (scripts (before m ks))) n.script ≡ n.got

    module _ (c : Call V) (cs : List (Call V)) (ih : (p : ℕ) → Here (past cs).state p → FitsTried (past cs).commits ((past cs).notes p)) where
      abbrev s : State V
      s = (past cs).state

      abbrev at : ℕ
      at = (past cs).moment + 1

      -- the caller's notes, against the commits so far
      abbrev Noted : Call V → Outcome V → Type 0
      Noted d o = Here s (caller d) → FitsTried (past cs).commits (call_noted at d o.tells ((past cs).notes (caller d)))

      no_try : {A : Type 0} (p : ℕ) → Ready s p → {m : ℕ} → ((past cs).notes p).tried ≡ Some m → A
      no_try p r e = absurd (rest_untried blank s (counts blank start started cs) at (past cs).notes (tried cs) p r _ e)

      noted_deeds : Deeds blank s Noted
      noted_deeds =
          record {
            refuses = λ d x h. ih (caller d) h;
            begins = λ p h a b l g m e. none_some e;
            finds_write = λ p i y r a b w h m e. no_try p r e;
            finds_read = λ p i y r a b w g h m e. no_try p r e;
            reads = λ p i r a b w g l h m e. no_try p r e;
            rewrites = λ p i x y r a b w h m e. no_try p r e;
            writes = λ p i x r a b w g h m e. no_try p r e;
            tries = λ p r h m e.
                let same : at ≡ m = ap (λ (x : Option ℕ). unwrap_or x 0) e in
                subst (λ (j : ℕ). alone (held_after (first_value blank start) (scripts (before j (past cs).commits))) ((past cs).notes p).script ≡ ((past cs).notes p).got) same
                (subst (λ (ks : List (Commit V)). alone (held_after (first_value blank start) (scripts ks)) ((past cs).notes p).script ≡ ((past cs).notes p).got)
                (sym (before-all at (past cs).commits (commits-early blank start cs)))
                (alone-ext _ _ (leaves cs) ((past cs).notes p).script ∙ rest_fits cs p r));
            aborts = λ p r h m e. no_try p r e;
            steps = λ p h u g m e.
                let was : ((past cs).notes p).tried ≡ Some m = sym (tried_step at p (row blank s p).tells ((past cs).notes p)) ∙ e in
                subst (λ (n : Notes V). alone (held_after (first_value blank start) (scripts (before m (past cs).commits))) n.script ≡ n.got)
                (sym (step_silent blank s (counts blank start started cs) at (past cs).notes (tried cs) p h m was))
                (ih p h m was);
          }

      -- and so against the commits after the call
      module _ (p : ℕ) (h : Here (past (c ∷ cs)).state p) where
        here_before : Here s p
        here_before = record { low = h.low; high = subst (λ (x : ℕ). p ≤ x) (number_kept blank s (counts blank start started cs) c) h.high }

        old_commits : FitsTried (past cs).commits ((past (c ∷ cs)).notes p)
        old_commits =
            elim (cases_eq p (caller c)) [
              | inl e ↦
                  subst (FitsTried (past cs).commits)
                  (sym (cond-true (eqb p (caller c)) _ _ (eq-eqb p (caller c) e) ∙ ap (λ (q : ℕ). call_noted at c (called blank s c).tells ((past cs).notes q)) e))
                  (by_deed blank s Noted noted_deeds c (subst (Here s) e here_before))
              | inr ne ↦ subst (FitsTried (past cs).commits) (sym (cond-false (eqb p (caller c)) _ _ (ne_eqb p (caller c) ne))) (ih p here_before)
            ]

        -- a commit put in before the try-commit wrote nothing
        writes_none : (m : ℕ) → ((past (c ∷ cs)).notes p).tried ≡ Some m → commits_now blank start c cs ≡ true → (next_commit (past cs) (caller c)).moment < m → IsReadOnly (next_commit (past cs) (caller c)).script
        writes_none m e g lt =
            elim (cases_Bool (is_update s (caller c))) [
              | inl u ↦
                  (let a : (next_commit (past cs) (caller c)).moment ≡ at = cond-true _ _ _ u in
                  let b : tried_at ((past (c ∷ cs)).notes p) ≡ m = ap (λ (x : Option ℕ). unwrap_or x 0) e in
                  let d : tried_at ((past (c ∷ cs)).notes p) ≤ at = tried-early blank start (c ∷ cs) p in
                  absurd (omega (arith, a, b, d, lt)))
              | inr u ↦ writes_nothing blank start started c cs g u
            ]

        new_commits : FitsTried (past (c ∷ cs)).commits ((past (c ∷ cs)).notes p)
        new_commits m e =
            cond_both (commits_now blank start c cs) _ _
            (λ (ks : List (Commit V)). alone (held_after (first_value blank start) (scripts (before m ks))) ((past (c ∷ cs)).notes p).script ≡ ((past (c ∷ cs)).notes p).got)
            (λ g.
            alone-ext _ _ (held_before-put_in (first_value blank start) (next_commit (past cs) (caller c)) m (writes_none m e g) (past cs).commits) ((past (c ∷ cs)).notes p).script
            ∙ old_commits m e)
            (λ g. old_commits m e)

    fits_tried : (cs : List (Call V)) (p : ℕ) → Here (past cs).state p → FitsTried (past cs).commits ((past cs).notes p)
    fits_tried [] p h m e = none_some e
    fits_tried (c ∷ cs) p h m e = new_commits c cs (fits_tried cs) p h m e

    some_or : (o : Option ℕ) → is_some o ≡ true → o ≡ Some (unwrap_or o 0)
    some_or None e = absurd (false≢true e)
    some_or (Some m) e = refl

    reads_more : (c : Call V) (cs : List (Call V)) → Fits (first_value blank start) (past cs).commits → Fits (first_value blank start) (past (c ∷ cs)).commits
    reads_more c cs f =
        cond_both (commits_now blank start c cs) _ _ (Fits (first_value blank start))
        (λ e. elim (cases_Bool (is_update (past cs).state (caller c))) [ inl u ↦ update e u | inr u ↦ read_only e u ])
        (λ e. f)
      where
        update : commits_now blank start c cs ≡ true → is_update (past cs).state (caller c) ≡ true → Fits (first_value blank start) (put_in (new c cs) (past cs).commits)
        update e u =
            let h : Here (past cs).state (caller c) = commit_here blank start started c cs e in
            let a : FitsAfter (first_value blank start) (new c cs) (past cs).commits =
            alone-ext _ _ (leaves cs) ((past cs).notes (caller c)).script
            ∙ (scripted blank start started cs (caller c) h).gets (now cs) (k.at_k cs (caller c) h (update_at_k blank start started c cs e u).0) in
            subst (Fits (first_value blank start)) (sym (put_update c cs u)) (Fits-cons (first_value blank start) (new c cs) (past cs).commits a f)

        read_only : commits_now blank start c cs ≡ true → is_update (past cs).state (caller c) ≡ false → Fits (first_value blank start) (put_in (new c cs) (past cs).commits)
        read_only e u =
            let h : Here (past cs).state (caller c) = commit_here blank start started c cs e in
            let t : is_some ((past cs).notes (caller c)).tried ≡ true = trying cs (caller c) h (subst Trying (sym (read_only_at_c blank start started c cs e u)) tt) in
            let a : FitsAfter (first_value blank start) (new c cs) (before (new c cs).moment (past cs).commits) =
            subst (λ (m : ℕ). FitsAfter (first_value blank start) (new c cs) (before m (past cs).commits)) (sym (cond-false _ _ _ u))
            (fits_tried cs (caller c) h (tried_at ((past cs).notes (caller c))) (some_or ((past cs).notes (caller c)).tried t)) in
            Fits-put_in (first_value blank start) (new c cs) (writes_nothing blank start started c cs e u) (past cs).commits f a

    pub reads_as_rerun : (cs : List (Call V)) → rerun (first_value blank start) (scripts (past cs).commits) ≡ map (λ k. k.got) (past cs).commits
    reads_as_rerun [] = refl
    reads_as_rerun (c ∷ cs) = reads_more c cs (reads_as_rerun cs)

    pub reads_fit : (c : Call V) (cs : List (Call V)) (v : V) → (called blank (past cs).state c).tells ≡ value v
        → alone (rerun_value blank start (c ∷ cs)) ((past (c ∷ cs)).notes (caller c)).script ≡ ((past (c ∷ cs)).notes (caller c)).got
    reads_fit c cs v e =
        alone-ext _ _ (leaves (c ∷ cs)) ((past (c ∷ cs)).notes (caller c)).script
        ∙ rest_fits (c ∷ cs) (caller c) (read_rests blank (past cs).state (counts blank start started cs) c (ap (λ (t : Told V). is_some (value_told t)) e))
