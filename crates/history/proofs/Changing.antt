-- What a call changes of the current values: nothing, but for a commit.
use Rattle.std.proofs.Common.{◌≡◌, ℕ, ◌<◌, true, refl, ap, inl, inr, arith}
use Rattle.rows.specs.declared.place.Place.{Place}
use Rattle.rows.specs.declared.place.Place.TheVariants.{Closed, R1}
use Rattle.process.specs.Moves.{Move}
use Rattle.process.specs.Traits.{traits}
use Rattle.store.specs.Calls.{older, called}
use Rattle.store.specs.Model.{State, process, task_of, moved}
use Rattle.store.specs.Rows.{row}
use Rattle.store.specs.declared.calling.Call.{Call}
use Rattle.history.specs.Invariants.{Here, own, writes_in, times, Counts, Standing, Ties, stage, grip, hold, data_set, current, Changes}
use Rattle.history.proofs.Views.{RealTouch, RealNote, real_said}
use Rattle.history.proofs.Sums.{slot_found, slot_none}
use Rattle.history.proofs.Deeds.{Deeds, Ready, by_deed, begin_move, write_move, start_move}
use Rattle.history.proofs.Counting.{Good, row_good}
use Rattle.history.proofs.CountCalls.{counts_call, writes_long}
use Rattle.history.proofs.NumberCalls.{open_from_under}
use Rattle.history.proofs.Clear.{clear}
use Rattle.history.proofs.Current.{Fit}
use Rattle.history.proofs.Sorts.{Sort, plain, begun, grabs, decides, puts, frees, current_kept, current_new}
use Rattle.history.proofs.SortRows.{row_sort}
use Rattle.history.proofs.TieCalls.{owns_nothing}

module _ {V : Type 0} (blank : V) where
  pub fits : (s : State V) → Counts blank s → Fit blank s
  fits s v q h = (v.sane q h).writes

  module _ (s : State V) (v : Standing blank s) where
    sort_change : (p : ℕ) (m : Move V) → (h : Here s p) → RealTouch s.cells m.touch → RealNote m.note → Fit blank (moved blank s p m) → Sort blank s p m → Changes blank s (moved blank s p m)
    sort_change p m h rt rn fit' (decides a q u z k) =
        inr (record {
          by = p;
          here = h;
          place = a;
          clear = clear blank s p v.counts h z;
          locked = λ i w. (v.owner.each p h).owned i (owns i w);
          new = λ i x e. current_new blank s p m v.counts.formed h rt rn (fits s v.counts) fit' (decides a q u z k) i x e;
          old = λ i e. current_kept blank s p m v.counts.formed h rt rn (fits s v.counts) fit' (decides a q u z k) i e;
        })
      where
        owns : (i : ℕ) → 0 < times i (writes_in (own s p)) → 0 < hold (grip (process s.memory p).place) (data_set (own s p) i) i
        owns i w = rw a (omega arith)
    sort_change p m h rt rn fit' (plain c k) = inl (λ i. current_kept blank s p m v.counts.formed h rt rn (fits s v.counts) fit' (plain c k) i refl)
    sort_change p m h rt rn fit' (begun c k w) = inl (λ i. current_kept blank s p m v.counts.formed h rt rn (fits s v.counts) fit' (begun c k w) i refl)
    sort_change p m h rt rn fit' (grabs i n t l u w) = inl (λ j. current_kept blank s p m v.counts.formed h rt rn (fits s v.counts) fit' (grabs i n t l u w) j refl)
    sort_change p m h rt rn fit' (puts i x t o c k) = inl (λ j. current_kept blank s p m v.counts.formed h rt rn (fits s v.counts) fit' (puts i x t o c k) j refl)
    sort_change p m h rt rn fit' (frees i n t o c k) = inl (λ j. current_kept blank s p m v.counts.formed h rt rn (fits s v.counts) fit' (frees i n t o c k) j refl)

    module _ (ts : Ties blank s) where
      pub step_sort : (p : ℕ) → Here s p → (traits (process s.memory p).place).under_way ≡ true → Sort blank s p (row blank s p)
      step_sort p h u = row_sort blank s p v.commits v.counts h (ts p h) (v.numbers.each p h) (open_from_under _ u) (process s.memory p).place refl u (v.owner.each p h) (v.owner.held p h)

      pub start_sort : (p : ℕ) (pl : Place) → Sort blank s p (start_move (process s.memory p) pl)
      start_sort p pl = plain (λ _. refl, λ _. refl) (λ _. refl)

      pub begin_sort : (p : ℕ) → Here s p → (process s.memory p).place ≡ Closed → Sort blank s p begin_move
      begin_sort p h e = begun (λ _. refl, λ _. refl) (owns_nothing blank s v ts p h (ap grip e)) e

      -- a write: the transaction has not committed
      pub write_sort : (p i k : ℕ) (x : V) → Ready s p → Sort blank s p (write_move (process s.memory p) (task_of blank s.memory p) i x k)
      write_sort p i k x r = let u = (v.numbers.each p r.at).before (ap (λ y. (stage y).late) r.rests) (ap (λ y. (traits y).is_open) r.rests) in plain (λ _. refl, λ _. refl) (λ j. rw u refl)

      change_deeds : Deeds blank s (λ c o. Fit blank o.after → Changes blank s o.after)
      change_deeds =
          record {
            refuses = λ c k f. inl (λ i. refl);
            begins = λ p h e m l f. inl (λ i. begun_kept p h e f i);
            finds_write = λ p i e r b c w f. inl (λ j. refl);
            finds_read = λ p i e r b c w g f. inl (λ j. refl);
            reads = λ p i r b c w g k f. sort_change p _ r.at tt tt f (start_sort p (R1 i));
            rewrites = λ p i x e r b c w f. sort_change p _ r.at tt (let a = (slot_found i (task_of blank s.memory p).writes e e w).0 in let l = writes_long blank s v.counts p r.at in let z = (v.counts.sane p r.at).writes in omega arith) f (write_sort p i _ x r);
            writes = λ p i x r b c w k f. sort_change p _ r.at tt (let a = slot_none i (task_of blank s.memory p).writes w in let l = writes_long blank s v.counts p r.at in omega arith) f (write_sort p i _ x r);
            tries = λ p r f. sort_change p _ r.at tt tt f (start_sort p _);
            aborts = λ p r f. sort_change p _ r.at tt tt f (start_sort p _);
            steps = λ p h u f.
                let sn = v.counts.sane p h in
                let g : Good blank s p (process s.memory p).place (row blank s p) = row_good blank s p v.counts.formed h sn.reads sn.writes (process s.memory p).place u sn.at in
                sort_change p (row blank s p) h (real_said blank s.cells _) g.note f (step_sort p h u);
          }
        where
          begun_kept : (p : ℕ) → Here s p → (process s.memory p).place ≡ Closed → Fit blank (moved blank (older blank s) p begin_move) → (i : ℕ) → current blank (moved blank (older blank s) p begin_move) i ≡ current blank s i
          begun_kept p h e f i = current_kept blank (older blank s) p begin_move (record { sixteen = v.counts.formed.sixteen; few = v.counts.formed.few; long = v.counts.formed.long }) (record { low = h.low; high = h.high }) tt tt (λ q hq. fits s v.counts q (record { low = hq.low; high = hq.high })) f (begun (λ _. refl, λ _. refl) (owns_nothing blank s v ts p h (ap grip e)) e) i refl

      pub changes : (c : Call V) → Changes blank s (called blank s c).after
      changes c = by_deed blank s (λ c o. Fit blank o.after → Changes blank s o.after) change_deeds c (fits (called blank s c).after (counts_call blank s c v.counts))
