-- After an accepted try-commit or abort a transaction is neither at rest nor reading: both are accepted at rest only and lead on to counting out,
-- from where no row leads back, and a begin forgets both.
use Rattle.std.proofs.Common.{◌≡◌, ℕ, ◌+◌, true, false, List, [], ◌∷◌, Some, None, Option, is_some, inl, inr, refl, sym, ◌∙◌, subst}
use Rattle.std.proofs.lemmas.Bool.{false≢true, or_cases}
use Rattle.rows.specs.declared.place.Place.TheVariants.{R1}
use Rattle.rows.specs.Places.{count_from}
use Rattle.process.specs.Tells.{value, refused}
use Rattle.store.specs.Calls.{called, older}
use Rattle.store.specs.Model.{State, process, task_of}
use Rattle.store.specs.Rows.{row}
use Rattle.store.specs.declared.calling.Call.{Call}
use Rattle.store.specs.declared.calling.Call.TheVariants.{Begin, Read, Write, TryCommit, Abort, Step}
use Rattle.history.specs.History.{History, history, is_closing}
use Rattle.history.specs.Invariants.{Here, Own, Counts}
use Rattle.history.specs.Notes.{Notes, caller}
use Rattle.history.proofs.CountCalls.{Fresh}
use Rattle.history.proofs.Deeds.{Deeds, Ready, begin_move, start_move, write_move, by_deed}
use Rattle.history.proofs.Forced.{chose_step}
use Rattle.history.proofs.Noting.{OfAll, After, stays, moves}
use Rattle.history.proofs.Standing.{counts}
use Rattle.history.proofs.StatusCalls.{real_rewrite, real_write, real_row}
use Rattle.history.proofs.Tried.{Away, count_away, row_away, TriedAway, none_some, tried_call}

abbrev pub ChoseAway : {V : Type 0} → Notes V → Own V → Type 0
ChoseAway n o = n.chose_abort ≡ true → Away o.process.place

module _ {V : Type 0} (blank : V) (s : State V) (v : Counts blank s) (m : ℕ) (n : ℕ → Notes V) (f : OfAll ChoseAway s n) where
  rest_unchosen : {A : Type 0} (p : ℕ) → Ready s p → (n p).chose_abort ≡ true → A
  rest_unchosen p r e = absurd (subst Away r.rests (f p r.at e))

  chose_deeds : Deeds blank s (After blank ChoseAway s m n)
  chose_deeds =
      record {
        refuses = λ c k. stays blank ChoseAway s m n f c (refused k) (λ h. f (caller c) h);
        begins = λ p h a b l.
            moves blank ChoseAway s m n f (Begin p) (older blank s) begin_move (λ q. refl) refl (record { sixteen = v.formed.sixteen; few = v.formed.few; long = v.formed.long }) h tt
            (λ e. absurd (false≢true e));
        finds_write = λ p i y r a b w. stays blank ChoseAway s m n f (Read p i) (value y.value) (λ h. f p h);
        finds_read = λ p i y r a b w g. stays blank ChoseAway s m n f (Read p i) (value y.value) (λ h. f p h);
        reads = λ p i r a b w g l. moves blank ChoseAway s m n f (Read p i) s (start_move (process s.memory p) (R1 i)) (λ q. refl) refl v.formed r.at tt (λ e. rest_unchosen p r e);
        rewrites = λ p i x y r a b w.
            moves blank ChoseAway s m n f (Write p i x) s (write_move (process s.memory p) (task_of blank s.memory p) i x _) (λ q. refl) refl v.formed r.at (real_rewrite blank s v p i y r w) (λ e. rest_unchosen p r e);
        writes = λ p i x r a b w g.
            moves blank ChoseAway s m n f (Write p i x) s (write_move (process s.memory p) (task_of blank s.memory p) i x _) (λ q. refl) refl v.formed r.at (real_write blank s v p i r w g) (λ e. rest_unchosen p r e);
        tries = λ p r.
            moves blank ChoseAway s m n f (TryCommit p) s (start_move (process s.memory p) (count_from (task_of blank s.memory p) 0 false)) (λ q. refl) refl v.formed r.at tt
            (λ e. count_away blank (process s.memory p) (task_of blank s.memory p) 0 false);
        aborts = λ p r.
            moves blank ChoseAway s m n f (Abort p) s (start_move (process s.memory p) (count_from (task_of blank s.memory p) 0 true)) (λ q. refl) refl v.formed r.at tt
            (λ e. count_away blank (process s.memory p) (task_of blank s.memory p) 0 true);
        steps = λ p h u.
            moves blank ChoseAway s m n f (Step p) s (row blank s p) (λ q. refl) refl v.formed h (real_row blank s v p h u)
            (λ e. (row_away blank (process s.memory p) (task_of blank s.memory p) (process s.memory p).place _ _ (f p h (sym (chose_step m p (row blank s p).tells (n p)) ∙ e))).0);
      }

  pub chose_call : (c : Call V) → After blank ChoseAway s m n c (called blank s c)
  chose_call c = by_deed blank s (After blank ChoseAway s m n) chose_deeds c

module _ {V : Type 0} (blank : V) (start : State V) (started : Fresh blank start) where
  abbrev past : List (Call V) → History V
  past cs = history blank start cs

  pub tried_away : (cs : List (Call V)) → OfAll TriedAway (past cs).state (past cs).notes
  tried_away [] p h = λ m e. none_some e
  tried_away (c ∷ cs) p h = tried_call blank (past cs).state (counts blank start started cs) ((past cs).moment + 1) (past cs).notes (tried_away cs) c p h

  chose_away : (cs : List (Call V)) → OfAll ChoseAway (past cs).state (past cs).notes
  chose_away [] p h = λ e. absurd (false≢true e)
  chose_away (c ∷ cs) p h = chose_call blank (past cs).state (counts blank start started cs) ((past cs).moment + 1) (past cs).notes (chose_away cs) c p h

  pub closing_away : (cs : List (Call V)) (p : ℕ) → Here (past cs).state p → is_closing (past cs) p ≡ true → Away (process (past cs).state.memory p).place
  closing_away cs p h e =
      elim (or_cases _ _ e) [
        | inl t ↦ by ((past cs).notes p).tried refl t
        | inr c ↦ chose_away cs p h c
      ]
    where
      by : (o : Option ℕ) → ((past cs).notes p).tried ≡ o → is_some o ≡ true → Away (process (past cs).state.memory p).place
      by None q t = absurd (false≢true t)
      by (Some m) q t = tried_away cs p h m q
