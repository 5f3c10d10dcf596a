-- Numbers that a process has read are at most those of now, whatever is moved.
use Rattle.std.proofs.Common.{◌≡◌, ℕ, ◌+◌, ◌≤◌, Bool, true, false, cond, eqb, ltb, ◌⊎◌, List, [], ◌∷◌, Some, None, Option, refl, sym, ap, ◌∙◌, subst, inl, inr, arith}
use Rattle.std.proofs.lemmas.Bool.{cases_eq, cond_both, eqb-true}
use Rattle.bank.specs.declared.lock.Lock.{Lock}
use Rattle.table.specs.Sets.{find}
use Rattle.table.specs.Tasks.{Task, next_item, in_reads, sequence_or}
use Rattle.table.specs.declared.entry.Entry.{Entry}
use Rattle.rows.specs.Places.{lock_to, abort_to, counted_out, count_from, compared_with, seen_to, released}
use Rattle.rows.specs.Primitives.{lock_in, said}
use Rattle.rows.specs.declared.asking.Reply.{Reply}
use Rattle.rows.specs.declared.place.Place.{Place}
use Rattle.rows.specs.declared.place.Place.TheVariants.{Closed, Idle, R1, R2, R3, R4, R5, D1, D2, C, L1, L2, L3, L4, K, W, U, A1, A2, A3}
use Rattle.process.specs.Moves.{Move}
use Rattle.process.specs.Rows.{Turn, unlock_to, next_at}
use Rattle.process.specs.Traits.{traits}
use Rattle.process.specs.declared.record.Process.{Process}
use Rattle.store.specs.Model.{State, moved}
use Rattle.history.specs.Ages.{Sight, NotNewer, seen, Seen, Aged}
use Rattle.history.specs.Invariants.{Formed, Here, Own, own, reads_in, lock_of, value_of, Shown, shown, committed_in}
use Rattle.history.proofs.Current.{Fit, owner_other, owner_own, owner_was}
use Rattle.history.proofs.Finding.{differ, same_some}
use Rattle.history.proofs.Sorts.{Sort, plain, begun, grabs, decides, puts, frees, commits, is_begun, not_committed, current_kept, current_new, owner_stays}
use Rattle.history.proofs.Stamps.{number}
use Rattle.history.proofs.Views.{after_own, RealTouch, RealNote}

pub sight_map : (P Q : ℕ → Lock → Type 0) → ((i : ℕ) (l : Lock) → P i l → Q i l) → (pl : Place) → Sight P pl → Sight Q pl
sight_map P Q f (L2 i l) a = f i l a
sight_map P Q f (L3 i l) a = f i l a
sight_map P Q f pl a = tt

pub sight_all : (P : ℕ → Lock → Type 0) → ((i : ℕ) (l : Lock) → P i l) → (pl : Place) → Sight P pl
sight_all P f (L2 i l) = f i l
sight_all P f (L3 i l) = f i l
sight_all P f pl = tt

-- the remembered owner is the one of the traits
pub sight_owner : (pl : Place) → Sight (λ i l. (traits pl).owner ≡ l.owner) pl
sight_owner (L2 i l) = refl
sight_owner (L3 i l) = refl
sight_owner pl = tt

-- what is said of an item that L1 is about to see
abbrev pub AtL1 : (ℕ → Type 0) → Place → Type 0
AtL1 P (L1 i) = P i
AtL1 P pl = Unit {0}

module _ {V : Type 0} (blank : V) (q : Process) (t : Task V) (P : ℕ → Lock → Type 0) where
  abbrev Good : Turn V → Type 0
  Good x = Sight P x.process.place

  abort_sees : (z x : Option ℕ) → Sight P (abort_to z x)
  abort_sees z None = tt
  abort_sees z (Some i) = tt

  lock_sees : (x : Option ℕ) → Sight P (lock_to x)
  lock_sees None = tt
  lock_sees (Some i) = tt

  out_sees : (a : Bool) → Sight P (counted_out t a)
  out_sees true = abort_sees None (next_item t 0)
  out_sees false = cond_both (eqb t.sizes.writes 0) _ _ (Sight P) (λ e. tt) (λ e. lock_sees (next_item t 0))

  pub count_sees : (k : ℕ) (a : Bool) → Sight P (count_from t k a)
  count_sees k a = cond_both (ltb k t.sizes.reads) _ _ (Sight P) (λ e. tt) (λ e. out_sees a)

  compared_sees : (i n : ℕ) (x : Option (Entry V)) → Sight P (compared_with t i n x)
  compared_sees i n None = tt
  compared_sees i n (Some x) = cond_both (eqb x.sequence n) _ _ (Sight P) (λ e. tt) (λ e. abort_sees (Some i) (next_item t 0))

  seen_sees : (i : ℕ) (l : Lock) → P i l → Sight P (seen_to t i l)
  seen_sees i l h = cond_both (eqb l.owner 0) _ _ (Sight P) (λ e. compared_sees i l.sequence (in_reads t i)) (λ e. h)

  released_sees : (i : ℕ) (l : Lock) (z : Option ℕ) → Sight P (released t i l z)
  released_sees i l z = cond_both (eqb l.owner t.me) _ _ (Sight P) (λ e. tt) (λ e. abort_sees z (next_item t (i + 1)))

  unlock_sees : (x : Option ℕ) → Good (unlock_to q x)
  unlock_sees None = tt
  unlock_sees (Some i) = tt

  -- L1 sees the lock, and L2 keeps it in sight
  pub row_sees : (pl : Place) (e : Option (Entry V)) (r : Reply V) → AtL1 (λ i. P i (lock_in r)) pl → Sight P pl → Good (next_at q t blank pl e r)
  row_sees Closed e r a h = tt
  row_sees Idle e r a h = tt
  row_sees (R1 i) e r a h = tt
  row_sees (R2 i m) e r a h = cond_both (said r) _ _ Good (λ x. tt) (λ x. tt)
  row_sees (R3 i) e r a h = tt
  row_sees (R4 i l) e r a h = cond_both (eqb l.owner 0) _ _ Good (λ x. tt) (λ x. tt)
  row_sees (R5 i l) None r a h = tt
  row_sees (R5 i l) (Some e) r a h = tt
  row_sees (D1 k z) e r a h = tt
  row_sees (D2 k m z) e r a h = cond_both (said r) _ _ Good (λ x. count_sees (k + 1) z) (λ x. tt)
  row_sees C e r a h = tt
  row_sees (L1 i) e r a h = a
  row_sees (L2 i l) e r a h = seen_sees i l h
  row_sees (L3 i l) e r a h = compared_sees i (sequence_or l.sequence e) (in_reads t i)
  row_sees (L4 i n) e r a h = cond_both (said r) _ _ Good (λ x. lock_sees (next_item t (i + 1))) (λ x. tt)
  row_sees K e r a h = cond_both (said r) _ _ Good (λ x. tt) (λ x. tt)
  row_sees (W k) e r a h = cond_both (ltb (k + 1) t.sizes.writes) _ _ Good (λ x. tt) (λ x. unlock_sees (next_item t 0))
  row_sees (U i) e r a h = unlock_sees (next_item t (i + 1))
  row_sees (A1 i z) e r a h = released_sees i (lock_in r) z
  row_sees (A2 i n z) e r a h = abort_sees z (next_item t (i + 1))
  row_sees (A3 z) e r a h = tt

module _ {V : Type 0} (blank : V) where
  -- numbers that grow leave entries not newer
  pub newer_map : (s t : State V) → ((i : ℕ) → number blank s i ≤ number blank t i) → (es : List (Entry V)) → NotNewer blank s es → NotNewer blank t es
  newer_map s t g [] a = tt
  newer_map s t g (e ∷ es) a = (let x = g e.item in let y = a.0 in omega (arith, x, y), newer_map s t g es a.1)

  pub newer_found : (s : State V) (es : List (Entry V)) (i : ℕ) (e : Entry V) → NotNewer blank s es → find i es ≡ Some e → e.sequence ≤ number blank s i
  newer_found s [] i e a f = differ f
  newer_found s (x ∷ es) i e a f = by (eqb x.item i) refl f (newer_found s es i e a.1)
    where
      by : (b : Bool) → eqb x.item i ≡ b → cond b (Some x) (find i es) ≡ Some e → (find i es ≡ Some e → e.sequence ≤ number blank s i) → e.sequence ≤ number blank s i
      by true q h k = subst (λ (y : Entry V). y.sequence ≤ number blank s i) (same_some h) (subst (λ j. x.sequence ≤ number blank s j) (eqb-true x.item i q) a.0)
      by false q h k = k h

module _ {V : Type 0} (blank : V) (s : State V) (p : ℕ) (m : Move V) (f : Formed s) (h : Here s p) (rt : RealTouch s.cells m.touch) (rn : RealNote m.note) (fit : Fit blank s) (fit' : Fit blank (moved blank s p m)) (k : Sort blank s p m) where
  abbrev t : State V
  t = moved blank s p m

  -- what becomes of an item's number
  number_moved : (i : ℕ) (o : Option (Entry V)) → commits blank s p m k i ≡ o → number blank s i ≤ number blank t i
  number_moved i None c = let a : number blank t i ≡ number blank s i = ap (λ (x : Shown V). x.number) (current_kept blank s p m f h rt rn fit fit' k i c) in omega (arith, a)
  number_moved i (Some x) c = let a : number blank t i ≡ number blank s i + 1 = ap (λ (x : Shown V). x.number) (current_new blank s p m f h rt rn fit fit' k i x c) in omega (arith, a)

  pub number_grows : (i : ℕ) → number blank s i ≤ number blank t i
  number_grows i = number_moved i (commits blank s p m k i) refl

  -- what is committed has the next number
  committed_next : (j : Sort blank s p m) (i : ℕ) (x : Entry V) → commits blank s p m j i ≡ Some x → (committed_in (after_own (own s p) m) i ≡ Some x) × (x.sequence ≡ number blank s i + 1)
  committed_next (plain c u) i x e = differ e
  committed_next (begun c u w) i x e = differ e
  committed_next (grabs j n a l u w) i x e = differ e
  committed_next (puts j y a o c u) i x e = differ e
  committed_next (frees j n a o c u) i x e = differ e
  committed_next (decides a q u z w) i x e =
      let y = w i x e in
      let b : number blank s i ≡ (lock_of blank s i).sequence =
      ap (λ (o : Option (Entry V)). (shown o (value_of blank s i) (lock_of blank s i).sequence).number) (owner_was blank s p m f h rt rn fit fit' (lock_of blank s i).owner i y.0 ∙ not_committed blank s p m (own s p) i u) in
      (ap (λ n. committed_in (after_own (own s p) n) i) q ∙ e, y.1 ∙ ap (λ n. n + 1) (sym b))

  abbrev pub Unbegun : ℕ → Lock → Type 0
  Unbegun i l = (l.owner ≡ p → ⊥) ⊎ (is_begun blank s p m k ≡ false)

  seen_moved : (es : List (Entry V)) (i : ℕ) (l : Lock) (n : ℕ) → NotNewer blank s es → Seen blank s es i l → seen blank t i l ≡ n → (seen blank s i l ≡ n) ⊎ (n ≡ number blank t i) → Seen blank t es i l
  seen_moved es i l n a y e (inl d) =
      record {
        entry = λ x z. let b = y.entry x z in omega (arith, b, d, e);
        now = let b = y.now in let g = number_grows i in omega (arith, b, d, e, g);
      }
  seen_moved es i l n a y e (inr d) =
      record {
        entry = λ x z. let b = newer_found blank s es i x a z in let g = number_grows i in omega (arith, b, d, e, g);
        now = omega (arith, d, e);
      }

  seen_by : (es : List (Entry V)) (i : ℕ) (l : Lock) → NotNewer blank s es → Unbegun i l → Seen blank s es i l → (o : Option (Entry V)) → commits blank s p m k i ≡ o → Seen blank t es i l
  seen_by es i l a w y None c =
      let e : seen blank t i l ≡ seen blank s i l = ap (λ (x : Option (Entry V)). sequence_or l.sequence x) (owner_stays blank s p m f h rt rn fit fit' k l.owner i w c) in
      seen_moved es i l (seen blank s i l) a y e (inl refl)
  seen_by es i l a w y (Some x) c =
      elim (cases_eq l.owner p) [
        | inl e ↦
            (let b = committed_next k i x c in
            let g : number blank t i ≡ number blank s i + 1 = ap (λ (x : Shown V). x.number) (current_new blank s p m f h rt rn fit fit' k i x c) in
            let z : seen blank t i l ≡ x.sequence = ap (λ (x : Option (Entry V)). sequence_or l.sequence x) (owner_own blank s p m f h rt rn fit fit' l.owner i e ∙ b.0) in
            seen_moved es i l x.sequence a y z (inr (b.1 ∙ sym g)))
        | inr d ↦
            (let e : seen blank t i l ≡ seen blank s i l = ap (λ (x : Option (Entry V)). sequence_or l.sequence x) (owner_other blank s p m f h rt rn fit fit' l.owner i d) in
            seen_moved es i l (seen blank s i l) a y e (inl refl))
      ]

  pub seen_after : (es : List (Entry V)) (i : ℕ) (l : Lock) → NotNewer blank s es → Unbegun i l → Seen blank s es i l → Seen blank t es i l
  seen_after es i l a w y = seen_by es i l a w y (commits blank s p m k i) refl

  -- what has an age keeps it
  pub aged_after : (o : Own V) → Sight Unbegun o.process.place → Aged blank s o → Aged blank t o
  aged_after o w y =
      record {
        entries = newer_map blank s t number_grows (reads_in o) y.entries;
        sight = both o.process.place w y.sight;
      }
    where
      both : (pl : Place) → Sight Unbegun pl → Sight (Seen blank s (reads_in o)) pl → Sight (Seen blank t (reads_in o)) pl
      both (L2 i l) a b = seen_after (reads_in o) i l y.entries a b
      both (L3 i l) a b = seen_after (reads_in o) i l y.entries a b
      both pl a b = tt
