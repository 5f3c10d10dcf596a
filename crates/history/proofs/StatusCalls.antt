-- The status by the place after every call, and which calls commit: a step at K to which the bank says yes, and a step at C.
use Rattle.std.proofs.Common.{◌≡◌, ℕ, ◌<◌, Bool, true, false, Some, None, refl, sym, ap, ◌∙◌, subst, arith}
use Rattle.std.proofs.lemmas.Bool.{false≢true, both_ways}
use Rattle.table.specs.Tasks.{in_writes, write_slot}
use Rattle.table.specs.declared.entry.Entry.{Entry}
use Rattle.rows.specs.Places.{asked, count_from}
use Rattle.rows.specs.Primitives.{replied}
use Rattle.rows.specs.declared.place.Place.{Place}
use Rattle.rows.specs.declared.place.Place.TheVariants.{R1}
use Rattle.process.specs.Moves.{Move}
use Rattle.process.specs.Rows.{is_committed}
use Rattle.process.specs.Tells.{value, refused}
use Rattle.process.specs.Traits.{traits}
use Rattle.store.specs.Calls.{called, older}
use Rattle.store.specs.Model.{State, Outcome, process, task_of, moved, accepted}
use Rattle.store.specs.Rows.{row}
use Rattle.store.specs.declared.calling.Call.{Call}
use Rattle.store.specs.declared.calling.Call.TheVariants.{Begin, Read, Write, TryCommit, Abort, Step}
use Rattle.history.specs.Invariants.{Formed, Here, Own, Counts}
use Rattle.history.specs.Notes.{Notes, caller}
use Rattle.history.proofs.CountCalls.{writes_long}
use Rattle.history.proofs.Counting.{row_good}
use Rattle.history.proofs.Deeds.{Deeds, Ready, begin_move, start_move, write_move, by_deed}
use Rattle.history.proofs.Noting.{OfAll, After, stays, moves}
use Rattle.history.proofs.Statuses.{Stated, StatedOf, count_stated, row_stated, CommitsAt, row_commits}
use Rattle.history.proofs.Sums.{slot_found, slot_none}
use Rattle.history.proofs.Views.{RealNote, mine_after}

abbrev pub StatedNote : {V : Type 0} → Notes V → Own V → Type 0
StatedNote n o = StatedOf o.process

module _ {V : Type 0} (blank : V) (s : State V) (v : Counts blank s) where
  -- an entry that a call puts lies within its part
  pub real_rewrite : (p i : ℕ) (e : Entry V) → Ready s p → in_writes (task_of blank s.memory p) i ≡ Some e → write_slot (task_of blank s.memory p) i < 8
  real_rewrite p i e r w =
      let a = (slot_found i (task_of blank s.memory p).writes e e w).0 in
      let l = writes_long blank s v p r.at in
      let z = (v.sane p r.at).writes in
      omega arith

  pub real_write : (p i : ℕ) → Ready s p → in_writes (task_of blank s.memory p) i ≡ None → (process s.memory p).sizes.writes < 8 → write_slot (task_of blank s.memory p) i < 8
  real_write p i r w k = let a = slot_none i (task_of blank s.memory p).writes w in let l = writes_long blank s v p r.at in omega arith

  pub real_row : (p : ℕ) → Here s p → (traits (process s.memory p).place).under_way ≡ true → RealNote (row blank s p).note
  real_row p h u = let sn = v.sane p h in (row_good blank s p v.formed h sn.reads sn.writes (process s.memory p).place u sn.at).note

  older_formed : Formed (older blank s)
  older_formed = record { sixteen = v.formed.sixteen; few = v.formed.few; long = v.formed.long }

  module _ (m : ℕ) (n : ℕ → Notes V) (f : OfAll StatedNote s n) where
    -- at rest nothing is committed
    at_rest : (p : ℕ) → Ready s p → is_committed (process s.memory p).status ≡ false
    at_rest p r = subst (λ (pl : Place). Stated pl (is_committed (process s.memory p).status)) r.rests (f p r.at)

    stated_deeds : Deeds blank s (After blank StatedNote s m n)
    stated_deeds =
        record {
          refuses = λ c k. stays blank StatedNote s m n f c (refused k) (λ h. f (caller c) h);
          begins = λ p h a b l. moves blank StatedNote s m n f (Begin p) (older blank s) begin_move (λ q. refl) refl older_formed h tt refl;
          finds_write = λ p i e r a b w. stays blank StatedNote s m n f (Read p i) (value e.value) (λ h. f p h);
          finds_read = λ p i e r a b w k. stays blank StatedNote s m n f (Read p i) (value e.value) (λ h. f p h);
          reads = λ p i r a b w k l. moves blank StatedNote s m n f (Read p i) s (start_move (process s.memory p) (R1 i)) (λ q. refl) refl v.formed r.at tt (at_rest p r);
          rewrites = λ p i x e r a b w.
              moves blank StatedNote s m n f (Write p i x) s (write_move (process s.memory p) (task_of blank s.memory p) i x _) (λ q. refl) refl v.formed r.at (real_rewrite p i e r w) (f p r.at);
          writes = λ p i x r a b w k.
              moves blank StatedNote s m n f (Write p i x) s (write_move (process s.memory p) (task_of blank s.memory p) i x _) (λ q. refl) refl v.formed r.at (real_write p i r w k) (f p r.at);
          tries = λ p r.
              moves blank StatedNote s m n f (TryCommit p) s (start_move (process s.memory p) (count_from (task_of blank s.memory p) 0 false)) (λ q. refl) refl v.formed r.at tt
              (count_stated blank (process s.memory p) (task_of blank s.memory p) 0 false (at_rest p r));
          aborts = λ p r.
              moves blank StatedNote s m n f (Abort p) s (start_move (process s.memory p) (count_from (task_of blank s.memory p) 0 true)) (λ q. refl) refl v.formed r.at tt
              (count_stated blank (process s.memory p) (task_of blank s.memory p) 0 true (at_rest p r));
          steps = λ p h u.
              moves blank StatedNote s m n f (Step p) s (row blank s p) (λ q. refl) refl v.formed h (real_row p h u)
              (row_stated blank (process s.memory p) (task_of blank s.memory p) (process s.memory p).place _ _ (f p h));
        }

    pub stated_call : (c : Call V) → After blank StatedNote s m n c (called blank s c)
    stated_call c = by_deed blank s (After blank StatedNote s m n) stated_deeds c

  -- a call leaves how many processes there are
  pub number_kept : (c : Call V) → (called blank s c).after.memory.number ≡ s.memory.number
  number_kept =
      by_deed blank s (λ c o. o.after.memory.number ≡ s.memory.number)
      (record {
        refuses = λ c k. refl;
        begins = λ p h a b l. refl;
        finds_write = λ p i e r a b w. refl;
        finds_read = λ p i e r a b w k. refl;
        reads = λ p i r a b w k l. refl;
        rewrites = λ p i x e r a b w. refl;
        writes = λ p i x r a b w k. refl;
        tries = λ p r. refl;
        aborts = λ p r. refl;
        steps = λ p h u. refl;
      })

  abbrev before : ℕ → Bool
  before p = is_committed (process s.memory p).status

  -- a step at K to which the bank says yes, or at C
  pub record CommitStep (c : Call V) : Type 0 where
    pub steps : c ≡ Step (caller c)
    pub here : Here s (caller c)
    pub at : CommitsAt blank (process s.memory (caller c)) (task_of blank s.memory (caller c)) (process s.memory (caller c)).place
        (replied blank s.cells (asked (task_of blank s.memory (caller c)) (process s.memory (caller c)).place))

  abbrev Commits : Call V → Outcome V → Type 0
  Commits c o = before (caller c) ≡ false → is_committed (process o.after.memory (caller c)).status ≡ true → CommitStep c

  -- what the caller is after its move
  mover : (r : State V) (p : ℕ) (u : Move V) → Formed r → Here r p → RealNote u.note → is_committed (process (moved blank r p u).memory p).status ≡ true → is_committed u.process.status ≡ true
  mover r p u fr h real e = ap (λ (o : Own V). is_committed o.process.status) (sym (mine_after blank r p u fr h real)) ∙ e

  -- a call that leaves the status does not commit
  leaves : (c : Call V) (u : Move V) → u.process.status ≡ (process s.memory (caller c)).status → Here s (caller c) → RealNote u.note → Commits c (accepted blank s (caller c) u)
  leaves c u same h real b e = absurd (both_ways (before (caller c)) b (ap is_committed (sym same) ∙ mover s (caller c) u v.formed h real e))

  pub call_commits : ((p : ℕ) → Here s p → StatedOf (process s.memory p)) → (c : Call V) → Commits c (called blank s c)
  call_commits f =
      by_deed blank s Commits
      (record {
        refuses = λ c k b e. absurd (both_ways (before (caller c)) b e);
        begins = λ p h a x l b e. absurd (false≢true (mover (older blank s) p begin_move older_formed (record { low = h.low; high = h.high }) tt e));
        finds_write = λ p i y r a x w b e. absurd (both_ways (before p) b e);
        finds_read = λ p i y r a x w k b e. absurd (both_ways (before p) b e);
        reads = λ p i r a b w k l. leaves (Read p i) (start_move (process s.memory p) (R1 i)) refl r.at tt;
        rewrites = λ p i x e r a b w. leaves (Write p i x) (write_move (process s.memory p) (task_of blank s.memory p) i x _) refl r.at (real_rewrite p i e r w);
        writes = λ p i x r a b w k. leaves (Write p i x) (write_move (process s.memory p) (task_of blank s.memory p) i x _) refl r.at (real_write p i r w k);
        tries = λ p r. leaves (TryCommit p) (start_move (process s.memory p) (count_from (task_of blank s.memory p) 0 false)) refl r.at tt;
        aborts = λ p r. leaves (Abort p) (start_move (process s.memory p) (count_from (task_of blank s.memory p) 0 true)) refl r.at tt;
        steps = λ p h u b e.
            record {
              steps = refl;
              here = h;
              at = row_commits blank (process s.memory p) (task_of blank s.memory p) (process s.memory p).place _ _ (f p h) b (mover s p (row blank s p) v.formed h (real_row p h u) e);
            };
      })
