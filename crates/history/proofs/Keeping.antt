-- A call that commits nothing, or commits at C, changes no current value: of the sorts of move only K's yes does, and that commits.
use Rattle.std.proofs.Common.{◌≡◌, ℕ, Bool, true, false, List, [], ◌∷◌, Option, Some, None, refl, sym, ap, ◌∙◌, subst, ◌≤◌}
use Rattle.rows.specs.declared.place.Place.TheVariants.{R1, K}
use Rattle.process.specs.Moves.{Move}
use Rattle.process.specs.Rows.{is_committed}
use Rattle.process.specs.declared.record.Process.{Process}
use Rattle.store.specs.Calls.{called, older}
use Rattle.store.specs.Model.{State, process, moved}
use Rattle.store.specs.Rows.{row}
use Rattle.store.specs.declared.calling.Call.{Call}
use Rattle.history.specs.Invariants.{Here, Own, Standing, Ties, grip, Shown, shown, current}
use Rattle.history.specs.Notes.{caller}
use Rattle.history.specs.History as values
use Rattle.history.specs.History.{history, commits_now, is_update}
use Rattle.bank.specs.Cells.{cell_at}
use Rattle.table.specs.declared.entry.Entry.{Entry}
use Rattle.rows.specs.declared.place.Place.{Place}
use Rattle.store.specs.Rows.{owned}
use Rattle.std.proofs.lemmas.Bool.{true≢false, both_ways, and_from, not_from_false}
use Rattle.history.proofs.Standing.{counts, stated, process_at_here, read_only_at_c}
use Rattle.history.proofs.Changing.{fits, step_sort, start_sort, write_sort}
use Rattle.history.proofs.CountCalls.{Fresh, counts_call}
use Rattle.history.proofs.Current.{Fit}
use Rattle.history.proofs.Deeds.{Deeds, begin_move, by_deed}
use Rattle.history.proofs.Sorts.{Sort, plain, begun, grabs, decides, puts, frees, current_kept}
use Rattle.history.proofs.StatusCalls.{call_commits, number_kept, real_rewrite, real_write, real_row}
use Rattle.history.proofs.OwnerCalls.{standing_call, standing_fresh}
use Rattle.history.proofs.TieCalls.{owns_nothing, ties_call, ties_fresh}
use Rattle.history.proofs.Views.{RealTouch, RealNote, real_said, mine_after}

module _ {V : Type 0} (blank : V) (s : State V) (v : Standing blank s) (ts : Ties blank s) where
  abbrev Quiet : ℕ → State V → Type 0
  Quiet p t = (process s.memory p).place ≡ K → is_committed (process s.memory p).status ≡ false → is_committed (process t.memory p).status ≡ true → ⊥

  abbrev Kept : State V → Type 0
  Kept t = (i : ℕ) → current blank t i ≡ current blank s i

  sort_kept : (p : ℕ) (m : Move V) → (h : Here s p) → RealTouch s.cells m.touch → RealNote m.note → Fit blank (moved blank s p m) → Sort blank s p m → Quiet p (moved blank s p m) → Kept (moved blank s p m)
  sort_kept p m h rt rn fit' (decides a q u z k) n i =
      absurd (n a u (ap (λ (o : Own V). is_committed o.process.status) (mine_after blank s p m v.counts.formed h rn) ∙ ap (λ (x : Move V). is_committed x.process.status) q))
  sort_kept p m h rt rn fit' (plain c k) n i = current_kept blank s p m v.counts.formed h rt rn (fits blank s v.counts) fit' (plain c k) i refl
  sort_kept p m h rt rn fit' (begun c k w) n i = current_kept blank s p m v.counts.formed h rt rn (fits blank s v.counts) fit' (begun c k w) i refl
  sort_kept p m h rt rn fit' (grabs i n t l u w) g j = current_kept blank s p m v.counts.formed h rt rn (fits blank s v.counts) fit' (grabs i n t l u w) j refl
  sort_kept p m h rt rn fit' (puts i x t o c k) g j = current_kept blank s p m v.counts.formed h rt rn (fits blank s v.counts) fit' (puts i x t o c k) j refl
  sort_kept p m h rt rn fit' (frees i n t o c k) g j = current_kept blank s p m v.counts.formed h rt rn (fits blank s v.counts) fit' (frees i n t o c k) j refl

  kept_deeds : Deeds blank s (λ c o. Fit blank o.after → Quiet (caller c) o.after → Kept o.after)
  kept_deeds =
      record {
        refuses = λ c k f q i. refl;
        begins = λ p h e m l f q i.
            current_kept blank (older blank s) p begin_move (record { sixteen = v.counts.formed.sixteen; few = v.counts.formed.few; long = v.counts.formed.long }) (record { low = h.low; high = h.high }) tt tt
            (λ w hw. fits blank s v.counts w (record { low = hw.low; high = hw.high })) f (begun (λ _. refl, λ _. refl) (owns_nothing blank s v ts p h (ap grip e)) e) i refl;
        finds_write = λ p i e r b c w f q j. refl;
        finds_read = λ p i e r b c w g f q j. refl;
        reads = λ p i r b c w g k f. sort_kept p _ r.at tt tt f (start_sort blank s v ts p (R1 i));
        rewrites = λ p i x e r b c w f. sort_kept p _ r.at tt (real_rewrite blank s v.counts p i e r w) f (write_sort blank s v ts p i _ x r);
        writes = λ p i x r b c w k f. sort_kept p _ r.at tt (real_write blank s v.counts p i r w k) f (write_sort blank s v ts p i _ x r);
        tries = λ p r f. sort_kept p _ r.at tt tt f (start_sort blank s v ts p _);
        aborts = λ p r f. sort_kept p _ r.at tt tt f (start_sort blank s v ts p _);
        steps = λ p h u f. sort_kept p (row blank s p) h (real_said blank s.cells _) (real_row blank s v.counts p h u) f (step_sort blank s v ts p h u);
      }

  pub call_kept : (c : Call V) → Quiet (caller c) (called blank s c).after → Kept (called blank s c).after
  call_kept c = by_deed blank s _ kept_deeds c (fits blank (called blank s c).after (counts_call blank s c v.counts))

module _ {V : Type 0} (blank : V) where
  -- the claim's current value is that of the invariants
  pub value-current : (s : State V) (i : ℕ) → values.current blank s i ≡ (current blank s i).value
  value-current s i = by (owned blank s.memory (cell_at blank s.cells i).lock.owner i)
    where
      by : (o : Option (Entry V)) → values.value_or (cell_at blank s.cells i).value o ≡ (shown o (cell_at blank s.cells i).value (cell_at blank s.cells i).lock.sequence).value
      by None = refl
      by (Some e) = refl

abbrev at_k : Place → Bool
at_k K = true
at_k x = false

module _ {V : Type 0} (blank : V) (start : State V) (started : Fresh blank start) where
  pub stands : (cs : List (Call V)) → Standing blank (history blank start cs).state × Ties blank (history blank start cs).state
  stands [] = (standing_fresh blank start started, ties_fresh blank start started)
  stands (c ∷ cs) = let h = stands cs in (standing_call blank (history blank start cs).state c h.0, ties_call blank (history blank start cs).state c h.0 h.1)

  kept_by : (c : Call V) (cs : List (Call V)) → Quiet blank (history blank start cs).state (stands cs).0 (stands cs).1 (caller c) (history blank start (c ∷ cs)).state
      → (i : ℕ) → values.current blank (history blank start (c ∷ cs)).state i ≡ values.current blank (history blank start cs).state i
  kept_by c cs q i =
      value-current blank (history blank start (c ∷ cs)).state i
      ∙ ap (λ (x : Shown V). x.value) (call_kept blank (history blank start cs).state (stands cs).0 (stands cs).1 c q i)
      ∙ sym (value-current blank (history blank start cs).state i)

  pub kept_by_read_only : (c : Call V) (cs : List (Call V)) → commits_now blank start c cs ≡ true → is_update (history blank start cs).state (caller c) ≡ false
      → (i : ℕ) → values.current blank (history blank start (c ∷ cs)).state i ≡ values.current blank (history blank start cs).state i
  kept_by_read_only c cs e u = kept_by c cs (λ a b g. true≢false (ap at_k (sym a ∙ read_only_at_c blank start started c cs e u)))

  pub kept : (c : Call V) (cs : List (Call V)) → commits_now blank start c cs ≡ false
      → (i : ℕ) → values.current blank (history blank start (c ∷ cs)).state i ≡ values.current blank (history blank start cs).state i
  kept c cs e = kept_by c cs (λ a b g. both_ways _ e (now b g))
    where
      now : is_committed (process (history blank start cs).state.memory (caller c)).status ≡ false → is_committed (process (history blank start (c ∷ cs)).state.memory (caller c)).status ≡ true
          → commits_now blank start c cs ≡ true
      now b g =
          let s : State V = (history blank start cs).state in
          let h : Here s (caller c) = (call_commits blank s (counts blank start started cs) (λ q x. stated blank start started cs q x) c b g).here in
          let h' : Here (history blank start (c ∷ cs)).state (caller c) = record { low = h.low; high = subst (λ (n : ℕ). caller c ≤ n) (sym (number_kept blank s (counts blank start started cs) c)) h.high } in
          and_from _ _
          (not_from_false _ (ap (λ (q : Process). is_committed q.status) (process_at_here blank s (caller c) h) ∙ b))
          (ap (λ (q : Process). is_committed q.status) (process_at_here blank (history blank start (c ∷ cs)).state (caller c) h') ∙ g)
