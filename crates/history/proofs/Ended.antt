-- A read that ends gives the current value of its item.
use Rattle.std.proofs.Common.{◌≡◌, ℕ, ◌<◌, true, eqb, Some, None, Option, refl, ap, ◌∙◌}
use Rattle.std.proofs.lemmas.Bool.{eq-eqb}
use Rattle.bank.specs.declared.lock.Lock.{Lock}
use Rattle.table.specs.Sets.{blank_entry}
use Rattle.table.specs.declared.entry.Entry.{Entry}
use Rattle.table.specs.declared.entry.Part.TheVariants.{Reads}
use Rattle.rows.specs.declared.place.Place.TheVariants.{R4, R5}
use Rattle.process.specs.Rows.{settled}
use Rattle.process.specs.Tells.{value}
use Rattle.store.specs.Model.{State, process, task_of}
use Rattle.store.specs.Rows.{owned}
use Rattle.history.specs.Invariants.{Here, part, own, settling, SaneAt, Counts, fetching, weighing, Shown, current, Mid, Fresh}
use Rattle.history.proofs.Views.{entry_is}
use Rattle.history.proofs.Counting.{row_at}
use Rattle.history.proofs.FreshRows.{bank_shown}

module _ {V : Type 0} (blank : V) (s : State V) (p i : ℕ) (l : Lock) (v : Counts blank s) (here : Here s p) (F : Fresh blank s (own s p)) where
  -- without a remembered owner
  pub ends_r4 : (process s.memory p).place ≡ R4 i l → l.owner ≡ 0 → (row_at blank s p (R4 i l)).tells ≡ value (current blank s i).value
  ends_r4 e z =
      let y : Mid blank s (part s p Reads) (process s.memory p).sizes.reads (fetching i l) = rw e at F.mid in
      let b = bank_shown blank s p v here F i l (y.1 (rw z refl)) in
      let w : eqb l.owner 0 ≡ true = eq-eqb l.owner 0 z in
      rw w (ap value (ap (λ (x : Shown V). x.value) b))

  -- and with one
  pub ends_r5 : (process s.memory p).place ≡ R5 i l → (row_at blank s p (R5 i l)).tells ≡ value (current blank s i).value
  ends_r5 e =
      let y : Mid blank s (part s p Reads) (process s.memory p).sizes.reads (weighing i l) = rw e at F.mid in
      let sn : SaneAt (part s p Reads) (process s.memory p).sizes.reads (settling i) = rw e at (v.sane p here).at in
      go (owned blank s.memory l.owner i) refl y sn.0
    where
      go : (w : Option (Entry V)) → owned blank s.memory l.owner i ≡ w → Mid blank s (part s p Reads) (process s.memory p).sizes.reads (weighing i l) → (process s.memory p).sizes.reads < 8
          → (settled (process s.memory p) (task_of blank s.memory p) w).tells ≡ value (current blank s i).value
      go None z y r = ap value (ap (λ (x : Entry V). x.value) (entry_is blank s p Reads (process s.memory p).sizes.reads r) ∙ ap (λ (x : Shown V). x.value) (y.1 z (blank_entry blank)))
      go (Some x) z y r = ap value (ap (λ (x : Shown V). x.value) (y.0.some x z))
