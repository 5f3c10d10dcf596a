-- Part b, second half, from what holds of numbers. Each read from the bank and its entry are dated: the entry's number is how often its item was
-- written up to the read. A read that ends puts in the number of now; a later commit counts as later; a read-only one that is put in before wrote nothing.
use Rattle.std.proofs.Common.{◌≡◌, ℕ, ◌+◌, ◌<◌, ◌≤◌, Bool, true, false, not, ◌&&◌, eqb, List, [], ◌∷◌, ◌++◌, reverse, take, Some, None, Option, is_some, inl, inr, refl, sym, ap, ◌∙◌, subst, arith}
use Rattle.std.specs.List.{list_any}
use Rattle.std.proofs.lemmas.Bool.{false≢true, cond_both, cond-true, cond-false, cases_Bool, not-false, or_parts, or_cases, and_parts, both_ways, eqb-true}
use Rattle.std.proofs.lemmas.List.{reverse-append}
use Rattle.table.specs.declared.entry.Entry.{Entry}
use Rattle.process.specs.Tells.{Told, value, refused}
use Rattle.process.specs.declared.record.Process.{Process}
use Rattle.rows.specs.Places.{count_from}
use Rattle.rows.specs.declared.place.Place.{Place}
use Rattle.process.specs.Traits.{traits, fresh}
use Rattle.process.specs.Rows.{is_committed}
use Rattle.table.specs.declared.entry.Part.TheVariants.{Reads}
use Rattle.rows.specs.declared.place.Place.TheVariants.{R1, R4, R5, K, A1, A2, A3}
use Rattle.store.specs.Calls.{called, older, no_process}
use Rattle.store.specs.Model.{State, Outcome, process, task_of, accepted}
use Rattle.store.specs.Rows.{row}
use Rattle.store.specs.declared.calling.Call.{Call}
use Rattle.store.specs.declared.calling.Call.TheVariants.{Begin, Read, Write, TryCommit, Abort, Step}
use Rattle.history.specs.History.{History, Commit, history, process_at, has_committed, next_commit, is_update, is_aborting, is_forced, is_overtaken, commits_now, forces_now, decides}
use Rattle.history.specs.Invariants.{Here, Own, own, part, reads_in, writes_in, phase, Counts}
use Rattle.history.specs.Notes.{Notes, BankRead, is_refused, value_told, caller, step_noted, accepted_noted, call_noted}
use Rattle.history.specs.Reruns.{writes_item}
use Rattle.history.proofs.CountCalls.{Fresh}
use Rattle.history.proofs.Dates.{written, since, since-none, Dated, outdated, Earlier, Dated-put_in, overtaken-dated}
use Rattle.history.proofs.Deeds.{Deeds, Ready, begin_move, start_move, write_move, by_deed, here}
use Rattle.history.proofs.Ends.{read_rests}
use Rattle.history.proofs.Moments.{commits-early}
use Rattle.history.proofs.Statuses.{Stated}
use Rattle.history.proofs.Noting.{OfAll, After, stays, moves}
use Rattle.history.proofs.Putting.{AllBefore}
use Rattle.history.proofs.ReadRows.{Asked, row_reads}
use Rattle.history.proofs.Refused.{row_answers}
use Rattle.history.proofs.Scripts.{Reading}
use Rattle.history.proofs.StatusCalls.{real_rewrite, real_write, real_row}
use Rattle.history.proofs.Views.{after_own, mine_after}
use Rattle.history.proofs.Standing.{counts, scripted, stated, process_at_here, commit_here, after_here, update_at_k, writes_nothing}

-- no read from the bank is still to come
abbrev pub NotAhead : ℕ → List BankRead → Type 0
NotAhead m [] = Unit {0}
NotAhead m (b ∷ bs) = (b.moment ≤ m) × NotAhead m bs

not_ahead_later : (m : ℕ) (bs : List BankRead) → NotAhead m bs → NotAhead (m + 1) bs
not_ahead_later m [] a = tt
not_ahead_later m (b ∷ bs) a = (omega (arith, a.0), not_ahead_later m bs a.1)

module _ {V : Type 0} where
  abbrev ReadsEarly : ℕ → Notes V → Type 0
  ReadsEarly m n = NotAhead m n.bank_reads

  -- reads before a later commit, or before one that wrote nothing
  earlier_all : (k : Commit V) (m : ℕ) (bs : List BankRead) → ((i : ℕ) → writes_item k.script i ≡ true → m < k.moment) → NotAhead m bs → Earlier k bs
  earlier_all k m [] h a = tt
  earlier_all k m (b ∷ bs) h a = ((λ w. let l : m < k.moment = h b.item w in omega (arith, l, a.0)), earlier_all k m bs h a.1)

  accepted_reads : (m : ℕ) (c : Call V) (r : Option V) (n : Notes V) → ReadsEarly m n → ReadsEarly m (accepted_noted m c r n)
  accepted_reads m (Begin p) r n h = tt
  accepted_reads m (Read p i) None n h = h
  accepted_reads m (Read p i) (Some v) n h = h
  accepted_reads m (Write p i v) r n h = h
  accepted_reads m (TryCommit p) r n h = h
  accepted_reads m (Abort p) r n h = h
  accepted_reads m (Step p) None n h = h
  accepted_reads m (Step p) (Some v) n h = (omega arith, h)

  call_reads : (m : ℕ) (c : Call V) (t : Told V) (n : Notes V) → ReadsEarly m n → ReadsEarly m (call_noted m c t n)
  call_reads m c t n h = cond_both (is_refused t) _ _ (ReadsEarly m) (λ e. h) (λ e. accepted_reads m c (value_told t) n h)

module _ {V : Type 0} where
  -- entries of the read set, the latest first
  abbrev pub latest : Own V → List (Entry V)
  latest o = reverse (reads_in o)

  abbrev pub DatedBy : List (Commit V) → Notes V → Own V → Type 0
  DatedBy ks n o = Dated ks n.bank_reads (latest o)

module _ {V : Type 0} (blank : V) (start : State V) where
  abbrev past : List (Call V) → History V
  past cs = history blank start cs

  pub reads_not_ahead : (cs : List (Call V)) (p : ℕ) → NotAhead (past cs).moment ((past cs).notes p).bank_reads
  reads_not_ahead [] p = tt
  reads_not_ahead (c ∷ cs) p =
      let h = not_ahead_later (past cs).moment ((past cs).notes p).bank_reads (reads_not_ahead cs p) in
      cond_both (eqb p (caller c)) _ _ (λ (n : Notes V). NotAhead ((past cs).moment + 1) n.bank_reads)
      (λ e. call_reads ((past cs).moment + 1) c (called blank (past cs).state c).tells ((past cs).notes p) h)
      (λ e. h)

  -- what has to be known of numbers: at rest each entry's number is how often its item was written
  pub record Numbers : Type 0 where
    pub at_rest : (cs : List (Call V)) (p : ℕ) → Ready (past cs).state p → list_any (outdated (past cs).commits) (latest (own (past cs).state p)) ≡ false
    -- and at K; and a step that forces met an entry with another number
    pub at_k : (cs : List (Call V)) (p : ℕ) → Here (past cs).state p → (process (past cs).state.memory p).place ≡ K → list_any (outdated (past cs).commits) (latest (own (past cs).state p)) ≡ false
    pub forcing : (c : Call V) (cs : List (Call V)) → is_update (past cs).state (caller c) ≡ true → forces_now blank start c cs ≡ true
        → list_any (outdated (past cs).commits) (latest (own (past cs).state (caller c))) ≡ true

  module _ (started : Fresh blank start) (k : Numbers) (c : Call V) (cs : List (Call V)) where
    abbrev s : State V
    s = (past cs).state

    abbrev ks : List (Commit V)
    ks = (past (c ∷ cs)).commits

    abbrev at : ℕ
    at = (past cs).moment + 1

    -- a commit leaves the older dates
    new_commits : OfAll (DatedBy (past cs).commits) s (past cs).notes → OfAll (DatedBy ks) s (past cs).notes
    new_commits f p h =
        cond_both (commits_now blank start c cs) _ _ (λ (l : List (Commit V)). DatedBy l ((past cs).notes p) (own s p))
        (λ e.
        Dated-put_in (next_commit (past cs) (caller c)) (past cs).commits ((past cs).notes p).bank_reads (latest (own s p))
        (earlier_all (next_commit (past cs) (caller c)) (past cs).moment ((past cs).notes p).bank_reads (later e) (reads_not_ahead cs p))
        (f p h))
        (λ e. f p h)
      where
        later : commits_now blank start c cs ≡ true → (i : ℕ) → writes_item ((past cs).notes (caller c)).script i ≡ true → (past cs).moment < (next_commit (past cs) (caller c)).moment
        later e i w =
            elim (cases_Bool (is_update s (caller c))) [
              | inl u ↦ (let a : (next_commit (past cs) (caller c)).moment ≡ at = cond-true _ _ _ u in omega (arith, a))
              | inr u ↦ absurd (false≢true (ap is_some (sym (writes_nothing blank start started c cs e u i)) ∙ w))
            ]

    -- the step that ends a read dates it
    abbrev NumberedAt : Call V → Outcome V → Type 0
    NumberedAt d o = is_some (value_told o.tells) ≡ true → AllBefore at ks × (list_any (outdated ks) (latest (own o.after (caller d))) ≡ false)

    module _ (f : OfAll (DatedBy ks) s (past cs).notes) where
      v : Counts blank s
      v = counts blank start started cs

      asked : (p : ℕ) (h : Here s p) (pl : Place) → Reading ((past cs).notes p).reading (writes_in (own s p)) (phase pl) → Asked blank s p v.formed h ((past cs).notes p).reading pl
      asked p h (R4 i l) m = m.0
      asked p h (R5 i l) m = m.0
      asked p h pl m = tt

      noted : (p : ℕ) (r : Option V) → value_told (row blank s p).tells ≡ r → call_noted at (Step p) (row blank s p).tells ((past cs).notes p) ≡ step_noted at r ((past cs).notes p)
      noted p r e =
          cond-false _ _ _ (row_answers (process s.memory p) (task_of blank s.memory p) blank (process s.memory p).place _ _)
          ∙ ap (λ (x : Option V). step_noted at x ((past cs).notes p)) e

      step_dated : (p : ℕ) (h : Here s p) → (traits (process s.memory p).place).under_way ≡ true → NumberedAt (Step p) (accepted blank s p (row blank s p))
          → DatedBy ks (call_noted at (Step p) (row blank s p).tells ((past cs).notes p)) (after_own (own s p) (row blank s p))
      step_dated p h u g =
          elim (row_reads blank s p v.formed h ((past cs).notes p).reading (process s.memory p).place _ (v.sane p h).at (asked p h (process s.memory p).place (scripted blank start started cs p h).mid)) [
            | inl y ↦
                subst (λ (x : Notes V). DatedBy ks x (after_own (own s p) (row blank s p))) (sym (noted p None y.0))
                (subst (λ (es : List (Entry V)). Dated ks ((past cs).notes p).bank_reads (reverse es)) (sym y.1) (f p h))
            | inr y ↦ subst (λ (x : Notes V). DatedBy ks x (after_own (own s p) (row blank s p))) (sym (noted p (Some y.0) y.2)) (added p h u g y)
          ]
        where
          added : (p : ℕ) (h : Here s p) → (traits (process s.memory p).place).under_way ≡ true → NumberedAt (Step p) (accepted blank s p (row blank s p))
              → (y : (x : V) × (e : Entry V) × (value_told (row blank s p).tells ≡ Some x) × (reads_in (after_own (own s p) (row blank s p)) ≡ reads_in (own s p) ++ e ∷ []) × (e.item ≡ ((past cs).notes p).reading))
              → DatedBy ks (step_noted at (Some y.0) ((past cs).notes p)) (after_own (own s p) (row blank s p))
          added p h u g y =
              let e : Entry V = y.1 in
              let turned : latest (after_own (own s p) (row blank s p)) ≡ e ∷ latest (own s p) = ap reverse y.3 ∙ reverse-append (reads_in (own s p)) (e ∷ []) in
              let a = g (ap is_some y.2) in
              let b : list_any (outdated ks) (e ∷ latest (own s p)) ≡ false =
              ap (list_any (outdated ks)) (sym (ap latest (mine_after blank s p (row blank s p) v.formed h (real_row blank s v p h u)) ∙ turned)) ∙ a.1 in
              let d : e.sequence ≡ written ks e.item = eqb-true e.sequence (written ks e.item) (not-false _ (or_parts _ _ b).0) in
              let i : written ks e.item ≡ written ks ((past cs).notes p).reading = ap (written ks) y.4 in
              let z : since at ks ((past cs).notes p).reading ≡ 0 = since-none at ks ((past cs).notes p).reading a.0 in
              subst (Dated ks (record { item = ((past cs).notes p).reading; moment = at } ∷ ((past cs).notes p).bank_reads)) (sym turned) (y.4, omega (arith, d, i, z), f p h)

      dated_deeds : Deeds blank s (λ d o. NumberedAt d o → After blank (DatedBy ks) s at (past cs).notes d o)
      dated_deeds =
          record {
            refuses = λ d x g. stays blank (DatedBy ks) s at (past cs).notes f d (refused x) (λ h. f (caller d) h);
            begins = λ p h a b l g.
                moves blank (DatedBy ks) s at (past cs).notes f (Begin p) (older blank s) begin_move (λ q. refl) refl (record { sixteen = v.formed.sixteen; few = v.formed.few; long = v.formed.long }) h tt tt;
            finds_write = λ p i y r a b w g. stays blank (DatedBy ks) s at (past cs).notes f (Read p i) (value y.value) (λ h. f p h);
            finds_read = λ p i y r a b w u g. stays blank (DatedBy ks) s at (past cs).notes f (Read p i) (value y.value) (λ h. f p h);
            reads = λ p i r a b w u l g. moves blank (DatedBy ks) s at (past cs).notes f (Read p i) s (start_move (process s.memory p) (R1 i)) (λ q. refl) refl v.formed r.at tt (f p r.at);
            rewrites = λ p i x y r a b w g.
                moves blank (DatedBy ks) s at (past cs).notes f (Write p i x) s (write_move (process s.memory p) (task_of blank s.memory p) i x _) (λ q. refl) refl v.formed r.at (real_rewrite blank s v p i y r w) (f p r.at);
            writes = λ p i x r a b w u g.
                moves blank (DatedBy ks) s at (past cs).notes f (Write p i x) s (write_move (process s.memory p) (task_of blank s.memory p) i x _) (λ q. refl) refl v.formed r.at (real_write blank s v p i r w u) (f p r.at);
            tries = λ p r g. moves blank (DatedBy ks) s at (past cs).notes f (TryCommit p) s (start_move (process s.memory p) (count_from (task_of blank s.memory p) 0 false)) (λ q. refl) refl v.formed r.at tt (f p r.at);
            aborts = λ p r g. moves blank (DatedBy ks) s at (past cs).notes f (Abort p) s (start_move (process s.memory p) (count_from (task_of blank s.memory p) 0 true)) (λ q. refl) refl v.formed r.at tt (f p r.at);
            steps = λ p h u g. moves blank (DatedBy ks) s at (past cs).notes f (Step p) s (row blank s p) (λ q. refl) refl v.formed h (real_row blank s v p h u) (step_dated p h u g);
          }

  module _ (started : Fresh blank start) (k : Numbers) where
    numbered : (c : Call V) (cs : List (Call V)) → NumberedAt started k c cs c (called blank (past cs).state c)
    numbered c cs e =
        let r : Ready (past (c ∷ cs)).state (caller c) = read_rests blank (past cs).state (counts blank start started cs) c e in
        let open_yet : is_committed (process (past (c ∷ cs)).state.memory (caller c)).status ≡ false =
        subst (λ (x : Place). Stated x (is_committed (process (past (c ∷ cs)).state.memory (caller c)).status)) r.rests (stated blank start started (c ∷ cs) (caller c) r.at) in
        let found : has_committed (past (c ∷ cs)).state (caller c) ≡ false = ap (λ (q : Process). is_committed q.status) (process_at_here blank (past (c ∷ cs)).state (caller c) r.at) ∙ open_yet in (
          cond_both (commits_now blank start c cs) _ _ (AllBefore ((past cs).moment + 1)) (λ g. absurd (both_ways _ found (and_parts _ _ g).1)) (λ g. commits-early blank start cs),
          k.at_rest (c ∷ cs) (caller c) r,
        )

    pub dated : (cs : List (Call V)) → OfAll (DatedBy (past cs).commits) (past cs).state (past cs).notes
    dated [] p h = subst (λ (q : Process). Dated {V = V} [] [] (reverse (take q.sizes.reads (part start p Reads)))) (sym (started.none p)) tt
    dated (c ∷ cs) p h = by_deed blank (past cs).state _ (dated_deeds started k c cs (new_commits started k c cs (dated cs))) c (numbered c cs) p h

    overtaken-outdated : (cs : List (Call V)) (p : ℕ) → Here (past cs).state p → is_overtaken (past cs) p ≡ list_any (outdated (past cs).commits) (latest (own (past cs).state p))
    overtaken-outdated cs p h = overtaken-dated (past cs).commits ((past cs).notes p).bank_reads (latest (own (past cs).state p)) (dated cs p h)

    -- where it has committed it does not abort
    not_aborting : (pl : Place) (b : Bool) → Stated pl b → b ≡ true → is_aborting pl ≡ false
    not_aborting (A1 i z) b h e = absurd (both_ways b h e)
    not_aborting (A2 i n z) b h e = absurd (both_ways b h e)
    not_aborting (A3 z) b h e = absurd (both_ways b h e)
    not_aborting pl b h e = refl

    -- a process with something in its write set is one of the store
    update_here : (cs : List (Call V)) (p : ℕ) → is_update (past cs).state p ≡ true → Here (past cs).state p
    update_here cs p u =
        elim (cases_Bool (no_process (past cs).state.memory p)) [
          | inl y ↦
              absurd (false≢true (ap (λ (q : Process). not (eqb q.sizes.writes 0)) (sym (cond-true (no_process (past cs).state.memory p) fresh (process (past cs).state.memory p) y)) ∙ u))
          | inr y ↦ here blank (past cs).state p y
        ]

    module _ (c : Call V) (cs : List (Call V)) where
      by_commit : commits_now blank start c cs ≡ true → is_update (past cs).state (caller c) ≡ true → is_forced (past (c ∷ cs)) (caller c) ≡ is_overtaken (past cs) (caller c)
      by_commit e u =
          let h : Here (past cs).state (caller c) = commit_here blank start started c cs e in
          let g : Here (past (c ∷ cs)).state (caller c) = after_here blank start started c cs e in
          let found : process_at (past (c ∷ cs)).state (caller c) ≡ process (past (c ∷ cs)).state.memory (caller c) = process_at_here blank (past (c ∷ cs)).state (caller c) g in
          let out : is_aborting (process (past (c ∷ cs)).state.memory (caller c)).place ≡ false =
          not_aborting (process (past (c ∷ cs)).state.memory (caller c)).place _ (stated blank start started (c ∷ cs) (caller c) g) (ap (λ (q : Process). is_committed q.status) (sym found) ∙ (and_parts _ _ e).1) in
          ap (λ (b : Bool). b && not ((past (c ∷ cs)).notes (caller c)).chose_abort) (ap (λ (q : Process). is_aborting q.place) found ∙ out)
          ∙ sym (overtaken-outdated cs (caller c) h ∙ k.at_k cs (caller c) h (update_at_k blank start started c cs e u).0)

      by_force : forces_now blank start c cs ≡ true → is_update (past cs).state (caller c) ≡ true → is_forced (past (c ∷ cs)) (caller c) ≡ is_overtaken (past cs) (caller c)
      by_force e u = (and_parts _ _ e).1 ∙ sym (overtaken-outdated cs (caller c) (update_here cs (caller c) u) ∙ k.forcing c cs u e)

      pub forces_overtaken : decides blank start c cs ≡ true → is_forced (past (c ∷ cs)) (caller c) ≡ is_overtaken (past cs) (caller c)
      forces_overtaken d =
          let u : is_update (past cs).state (caller c) ≡ true = (and_parts _ _ d).0 in
          elim (or_cases _ _ (and_parts _ _ d).1) [ inl e ↦ by_commit e u | inr e ↦ by_force e u ]
