-- Entries of a read set have the numbers of now: at rest because they are current while counted in, at K because the process holds their items.
use Rattle.std.proofs.Common.{◌≡◌, ℕ, zero, suc, ◌<◌, Bool, true, false, not, ◌||◌, List, [], ◌∷◌, reverse, length, get_or, None, Option, refl, sym, ap, ◌∙◌, subst, arith}
use Rattle.std.specs.List.{list_any}
use Rattle.std.proofs.lemmas.Bool.{cond-false, eq-eqb}
use Rattle.std.proofs.lemmas.List.{reverse-append}
use Rattle.std.proofs.lemmas.List.Folds.{list_any-append}
use Rattle.table.specs.Sets.{blank_entry}
use Rattle.table.specs.declared.entry.Entry.{Entry}
use Rattle.rows.specs.declared.place.Place.{Place}
use Rattle.rows.specs.declared.place.Place.TheVariants.{K}
use Rattle.process.specs.Rows.{is_committed}
use Rattle.process.specs.Traits.{traits}
use Rattle.store.specs.Model.{State, process}
use Rattle.store.specs.Rows.{owned}
use Rattle.store.specs.declared.calling.Call.{Call}
use Rattle.history.specs.History.{History, Commit, history}
use Rattle.history.specs.Invariants.{Here, own, reads_in, times, Standing, Ties, phase, stage, grip, hold, data_set, lock_of, value_of, Shown, shown, counted_entries, AllCurrent, Fresh}
use Rattle.history.proofs.Changing.{fits}
use Rattle.history.proofs.CountCalls as started
use Rattle.history.proofs.Current.{owned_is, of_here}
use Rattle.history.proofs.Dates.{written, outdated}
use Rattle.history.proofs.Decisions.{latest}
use Rattle.history.proofs.Deeds.{Ready}
use Rattle.history.proofs.Finding.{times_some, find_at}
use Rattle.history.proofs.Keeping.{stands}
use Rattle.history.proofs.Stamps.{number, stamp, freshes}

-- a test finds the same in a list and in its reverse
pub list_any-reverse : {A : Type 0} (f : A → Bool) (xs : List A) → list_any f (reverse xs) ≡ list_any f xs
list_any-reverse f [] = refl
list_any-reverse f (x ∷ xs) = ap (list_any f) (reverse-append (x ∷ []) xs) ∙ list_any-append f (reverse xs) (x ∷ []) ∙ by (list_any f (reverse xs)) (f x) (list_any f xs) (list_any-reverse f xs)
  where
    by : (a b c : Bool) → a ≡ c → (a || (b || false)) ≡ (b || c)
    by true true c h = refl
    by true false c h = h
    by false true c h = refl
    by false false c h = h

module _ {V : Type 0} where
  -- no entry is outdated where each has the number of how often its item was written
  pub none_outdated : (ks : List (Commit V)) (es : List (Entry V)) (d : Entry V) → ((k : ℕ) → k < length es → (get_or es k d).sequence ≡ written ks (get_or es k d).item) → list_any (outdated ks) es ≡ false
  none_outdated ks [] d h = refl
  none_outdated ks (e ∷ es) d h =
      ap (λ b. not b || list_any (outdated ks) es) (eq-eqb e.sequence (written ks e.item) (h 0 (omega arith)))
      ∙ none_outdated ks es d (λ k l. h (suc k) (omega arith))

module _ {V : Type 0} (blank : V) (s : State V) where
  all_at : (es : List (Entry V)) (d : Entry V) → AllCurrent blank s es → (k : ℕ) → k < length es → (get_or es k d).sequence ≡ number blank s (get_or es k d).item
  all_at [] d a k l = absurd (omega arith)
  all_at (e ∷ es) d a zero l = ap (λ (x : Shown V). x.number) a.0
  all_at (e ∷ es) d a (suc k) l = all_at es d a.1 k (omega arith)

  -- of an item that is held, and of which its owner has committed nothing, the lock has the current number
  pub held_number : (v : Standing blank s) (p i : ℕ) → Here s p → (lock_of blank s i).owner ≡ p → is_committed (process s.memory p).status ≡ false → number blank s i ≡ (lock_of blank s i).sequence
  held_number v p i h o u =
      let n : owned blank s.memory p i ≡ None = owned_is blank s p i (fits blank s v.counts) ∙ of_here blank s p i h ∙ cond-false (is_committed (process s.memory p).status) _ None u in
      ap (λ (x : Option (Entry V)). (shown x (value_of blank s i) (lock_of blank s i).sequence).number) (ap (λ w. owned blank s.memory w i) o ∙ n)

  -- at K the process holds what it has read
  k_at : (v : Standing blank s) (ts : Ties blank s) (p : ℕ) (h : Here s p) → (process s.memory p).place ≡ K → (d : Entry V) (k : ℕ) → k < length (reads_in (own s p))
      → (get_or (reads_in (own s p)) k d).sequence ≡ number blank s (get_or (reads_in (own s p)) k d).item
  k_at v ts p h e d k l =
      let x : Entry V = get_or (reads_in (own s p)) k d in
      let o : (lock_of blank s x.item).owner ≡ p = (v.owner.each p h).owned x.item (owns x.item (times_some x.item (reads_in (own s p)) k d l refl)) in
      (ts p h).same x.item x o (find_at x.item (reads_in (own s p)) k d ((ts p h).reads_once x.item) l refl)
      ∙ sym (held_number v p x.item h o ((v.numbers.each p h).before (ap (λ x. (stage x).late) e) (ap (λ x. (traits x).is_open) e)))
    where
      owns : (i : ℕ) → 0 < times i (reads_in (own s p)) → 0 < hold (grip (process s.memory p).place) (data_set (own s p) i) i
      owns i w = rw e (omega arith)

module _ {V : Type 0} (blank : V) (start : State V) (started : started.Fresh blank start) where
  abbrev past : List (Call V) → History V
  past cs = history blank start cs

  abbrev NoneOutdated : List (Call V) → ℕ → Type 0
  NoneOutdated cs p = list_any (outdated (past cs).commits) (latest (own (past cs).state p)) ≡ false

  by_numbers : (cs : List (Call V)) (p : ℕ)
      → ((k : ℕ) → k < length (reads_in (own (past cs).state p)) → (get_or (reads_in (own (past cs).state p)) k (blank_entry blank)).sequence ≡ number blank (past cs).state (get_or (reads_in (own (past cs).state p)) k (blank_entry blank)).item)
      → NoneOutdated cs p
  by_numbers cs p h =
      list_any-reverse (outdated (past cs).commits) (reads_in (own (past cs).state p))
      ∙ none_outdated (past cs).commits (reads_in (own (past cs).state p)) (blank_entry blank) (λ k l. h k l ∙ stamp blank start started cs (get_or (reads_in (own (past cs).state p)) k (blank_entry blank)).item)

  pub at_rest : (cs : List (Call V)) (p : ℕ) → Ready (past cs).state p → NoneOutdated cs p
  at_rest cs p r =
      let f : Fresh blank (past cs).state (own (past cs).state p) = freshes blank start started cs p r.at in
      by_numbers cs p
      (all_at blank (past cs).state (reads_in (own (past cs).state p)) (blank_entry blank)
      (subst (λ (x : Place). AllCurrent blank (past cs).state (counted_entries (reads_in (own (past cs).state p)) (phase x))) r.rests f.entries))

  pub at_k : (cs : List (Call V)) (p : ℕ) → Here (past cs).state p → (process (past cs).state.memory p).place ≡ K → NoneOutdated cs p
  at_k cs p h e = by_numbers cs p (k_at blank (past cs).state (stands blank start started cs).0 (stands blank start started cs).1 p h e (blank_entry blank))
