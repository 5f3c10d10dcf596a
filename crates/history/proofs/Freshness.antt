-- What a process has read stays current while it is counted in.
use Rattle.std.proofs.Common.{◌≡◌, ℕ, ◌<◌, ◌≤◌, false, eqb, ◌⊎◌, List, [], ◌∷◌, take, None, sym, refl, ap, ◌∙◌, inl, inr, arith}
use Rattle.std.proofs.lemmas.Bool.{cases_eq, eq-eqb}
use Rattle.table.specs.declared.entry.Entry.{Entry}
use Rattle.table.specs.declared.entry.Part.TheVariants.{Reads}
use Rattle.process.specs.Moves.{Move}
use Rattle.store.specs.Model.{State, process, moved}
use Rattle.store.specs.Rows.{owned}
use Rattle.history.specs.Invariants.{Formed, Here, Own, one, times, Phase, resting, asking, inside, settling, leaving, past, phase, counting, Look, away, fetching, weighing, stage, Shown, counted_entries, AllCurrent, Remembers, Mid, Fresh}
use Rattle.history.proofs.Views.{RealTouch, RealNote, mine_after, others_after}
use Rattle.history.proofs.Current.{Fit}
use Rattle.history.proofs.Sorts.{Sort, commits, is_begun, current_kept, bank_stays, owner_stays}

-- what is said of the item and the remembered owner
abbrev pub LooksAt : Look → (ℕ → ℕ → Type 0) → Type 0
LooksAt away P = Unit {0}
LooksAt (fetching i l) P = P i l.owner
LooksAt (weighing i l) P = P i l.owner

-- such entries are counted in
pub entries_counted : {V : Type 0} (es : List (Entry V)) (f : Phase) (i : ℕ) → times i (counted_entries es f) ≤ counting es f i
entries_counted es resting i = omega arith
entries_counted es (asking j) i = omega arith
entries_counted es (inside j) i = omega arith
entries_counted es (settling j) i = omega arith
entries_counted es (leaving k) i = omega arith
entries_counted es past i = omega arith

module _ {V : Type 0} (blank : V) (s : State V) (p : ℕ) (m : Move V) (f : Formed s) (h : Here s p) (rt : RealTouch s.cells m.touch) (rn : RealNote m.note) (fit : Fit blank s) (fit' : Fit blank (moved blank s p m)) (k : Sort blank s p m) where
  all_after : (es : List (Entry V)) → ((i : ℕ) → 0 < times i es → commits blank s p m k i ≡ None) → AllCurrent blank s es → AllCurrent blank (moved blank s p m) es
  all_after [] n a = tt
  all_after (e ∷ es) n a = (
    a.0 ∙ sym (current_kept blank s p m f h rt rn fit fit' k e.item (n e.item (let x : one (eqb e.item e.item) ≡ 1 = rw (eq-eqb e.item e.item refl) refl in omega arith))),
    all_after es (λ i l. n i (omega arith)) a.1,
  )

  -- what a move keeps of a remembered owner
  abbrev pub Quiet : ℕ → Type 0
  Quiet o = (o ≡ p → ⊥) ⊎ ((is_begun blank s p m k ≡ false) × (phase (process s.memory p).place ≡ past → phase m.process.place ≡ past))

  behind_after : (o : ℕ) → Quiet o → (0 < o → phase (process s.memory o).place ≡ past) → 0 < o → phase (process (moved blank s p m).memory o).place ≡ past
  behind_after o w b l = elim (cases_eq o p) [
    | inl e ↦ ap (λ q. phase (process (moved blank s p m).memory q).place) e ∙ ap (λ (x : Own V). phase x.process.place) (mine_after blank s p m f h rn) ∙ elim w [ inl n ↦ absurd (n e) | inr x ↦ x.1 (ap (λ q. phase (process s.memory q).place) (sym e) ∙ b l) ]
    | inr d ↦ ap (λ (x : Own V). phase x.process.place) (others_after blank s p o m h l d rn) ∙ b l
  ]

  of_quiet : (i o : ℕ) → commits blank s p m k i ≡ None → Quiet o → owned blank (moved blank s p m).memory o i ≡ owned blank s.memory o i
  of_quiet i o c w = owner_stays blank s p m f h rt rn fit fit' k o i (elim w [ inl n ↦ inl n | inr x ↦ inr x.0 ]) c

  remembers_after : (i o : ℕ) → commits blank s p m k i ≡ None → Quiet o → Remembers blank s i o → Remembers blank (moved blank s p m) i o
  remembers_after i o c w y =
      record {
        known = y.known;
        behind = behind_after o w y.behind;
        some = λ x e. y.some x (sym (of_quiet i o c w) ∙ e) ∙ sym (current_kept blank s p m f h rt rn fit fit' k i c);
      }

  mid_after : (es : List (Entry V)) (n : ℕ) (g : Look) → LooksAt g (λ i o. (commits blank s p m k i ≡ None) × Quiet o) → Mid blank s es n g → Mid blank (moved blank s p m) es n g
  mid_after es n away w y = tt
  mid_after es n (fetching i l) w y = (
    remembers_after i l.owner w.0 w.1 y.0,
    λ z. let b = y.1 (sym (of_quiet i l.owner w.0 w.1) ∙ z) in (bank_stays blank s p m f h rt rn fit fit' k i w.0 b.0, ap (λ (t : Shown V). t.number) (current_kept blank s p m f h rt rn fit fit' k i w.0) ∙ b.1),
  )
  mid_after es n (weighing i l) w y = (
    remembers_after i l.owner w.0 w.1 y.0,
    λ z d. y.1 (sym (of_quiet i l.owner w.0 w.1) ∙ z) d ∙ sym (current_kept blank s p m f h rt rn fit fit' k i w.0),
  )

  -- what is fresh stays so, where nothing of it is committed
  pub fresh_after : (o : Own V) → ((i : ℕ) → 0 < times i (counted_entries (take o.process.sizes.reads (o.part Reads)) (phase o.process.place)) → commits blank s p m k i ≡ None)
      → LooksAt (stage o.process.place).look (λ i w. (commits blank s p m k i ≡ None) × Quiet w) → Fresh blank s o → Fresh blank (moved blank s p m) o
  fresh_after o a b y = record { entries = all_after _ a y.entries; mid = mid_after (o.part Reads) o.process.sizes.reads (stage o.process.place).look b y.mid }
