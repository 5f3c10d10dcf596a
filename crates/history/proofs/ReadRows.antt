-- What a row does to the read set: a step that ends a read adds an entry of the item that was asked for, any other leaves the set.
use Rattle.std.proofs.Common.{◌≡◌, ℕ, ◌+◌, ◌<◌, ◌⊎◌, eqb, ltb, List, [], ◌∷◌, ◌++◌, length, get_or, take, Some, None, Option, inl, inr, refl, sym, ◌∙◌, arith}
use Rattle.std.proofs.lemmas.Bool.{cond_both}
use Rattle.std.proofs.lemmas.List.{take_more, take_more_set, take-set-le}
use Rattle.bank.specs.declared.lock.Lock.{Lock}
use Rattle.table.specs.Sets.{blank_entry}
use Rattle.table.specs.Tasks.{Task, next_item, write_slot}
use Rattle.table.specs.declared.entry.Entry.{Entry}
use Rattle.table.specs.declared.entry.Part.TheVariants.{Reads}
use Rattle.rows.specs.Primitives.{value_in, said}
use Rattle.rows.specs.declared.asking.Reply.{Reply}
use Rattle.rows.specs.declared.place.Place.{Place}
use Rattle.rows.specs.declared.place.Place.TheVariants.{Closed, Idle, R1, R2, R3, R4, R5, D1, D2, C, L1, L2, L3, L4, K, W, U, A1, A2, A3}
use Rattle.process.specs.Moves.{Note}
use Rattle.process.specs.Rows.{Turn, unlock_to, next_at, settled, fetched, numbered}
use Rattle.process.specs.declared.record.Process.{Process}
use Rattle.store.specs.Model.{State, process, task_of}
use Rattle.store.specs.Rows.{owned, recalled}
use Rattle.history.specs.Invariants.{Formed, Here, Own, own, part, reads_in, phase, SaneAt}
use Rattle.history.specs.Notes.{value_told}
use Rattle.history.proofs.Counting.{owned_item}
use Rattle.history.proofs.Views.{after_note, part_long}

module _ {V : Type 0} (blank : V) (s : State V) (p : ℕ) (f : Formed s) (here : Here s p) (reading : ℕ) where
  abbrev o : Own V
  o = own s p

  abbrev q : Process
  q = process s.memory p

  abbrev k : Task V
  k = task_of blank s.memory p

  abbrev size : ℕ
  size = q.sizes.reads

  abbrev pub reads_left : Turn V → List (Entry V)
  reads_left u = take u.process.sizes.reads (after_note o.part u.note Reads)

  abbrev pub Stays : Turn V → Type 0
  Stays u = (value_told u.tells ≡ None) × (reads_left u ≡ reads_in o)

  abbrev pub Adds : Turn V → Type 0
  Adds u = (v : V) × (e : Entry V) × (value_told u.tells ≡ Some v) × (reads_left u ≡ reads_in o ++ e ∷ []) × (e.item ≡ reading)

  abbrev pub Good : Turn V → Type 0
  Good u = Stays u ⊎ Adds u

  -- the item that a place reads is the one asked for
  abbrev pub Asked : Place → Type 0
  Asked (R4 i l) = reading ≡ i
  Asked (R5 i l) = reading ≡ i
  Asked pl = Unit {0}

  long : size < 8 → size < length (part s p Reads)
  long h = let l = part_long blank s p f here Reads in omega arith

  at_r4 : (i : ℕ) (l : Lock) (v : V) → size < 8 → reading ≡ i → Good (fetched q k i l v)
  at_r4 i l v r h =
      let e : Entry V = record { item = i; sequence = l.sequence; value = v } in
      cond_both (eqb l.owner 0) _ _ Good
      (λ x. inr (v, e, refl, take_more_set (part s p Reads) size e (long r), sym h))
      (λ x. inl (refl, take-set-le size (part s p Reads) size e (omega arith)))

  at_r5 : (i : ℕ) (x : Option (Entry V)) → ((e : Entry V) → x ≡ Some e → e.item ≡ i) → (size < 8) × ((d : Entry V) → (get_or (part s p Reads) size d).item ≡ i) → reading ≡ i → Good (settled q k x)
  at_r5 i None it r h =
      let d : Entry V = blank_entry blank in
      inr (_, get_or (part s p Reads) size d, refl, take_more (part s p Reads) size d (long r.0), r.1 d ∙ sym h)
  at_r5 i (Some e) it r h = inr (e.value, e, refl, take_more_set (part s p Reads) size e (long r.0), it e refl ∙ sym h)

  unlocks : (x : Option ℕ) → Good (unlock_to q x)
  unlocks None = inl (refl, refl)
  unlocks (Some i) = inl (refl, refl)

  numbers : (i j : ℕ) → take size (after_note o.part (numbered q k i j) Reads) ≡ reads_in o
  numbers i j = cond_both (ltb (write_slot k i) q.sizes.writes) _ _ (λ (x : Note V). take size (after_note o.part x Reads) ≡ reads_in o) (λ e. refl) (λ e. refl)

  pub row_reads : (pl : Place) (r : Reply V) → SaneAt (part s p Reads) size (phase pl) → Asked pl → Good (next_at q k blank pl (recalled blank s.memory pl) r)
  row_reads Closed r a h = inl (refl, refl)
  row_reads Idle r a h = inl (refl, refl)
  row_reads (R1 i) r a h = inl (refl, refl)
  row_reads (R2 i j) r a h = cond_both (said r) _ _ Good (λ x. inl (refl, refl)) (λ x. inl (refl, refl))
  row_reads (R3 i) r a h = inl (refl, refl)
  row_reads (R4 i l) r a h = at_r4 i l (value_in blank r) a h
  row_reads (R5 i l) r a h = at_r5 i (owned blank s.memory l.owner i) (λ e x. owned_item blank s.memory l.owner i e x) a h
  row_reads (D1 j z) r a h = inl (refl, refl)
  row_reads (D2 j x z) r a h = cond_both (said r) _ _ Good (λ x. inl (refl, refl)) (λ x. inl (refl, refl))
  row_reads C r a h = inl (refl, refl)
  row_reads (L1 i) r a h = inl (refl, refl)
  row_reads (L2 i l) r a h = inl (refl, refl)
  row_reads (L3 i l) r a h = inl (refl, refl)
  row_reads (L4 i j) r a h = cond_both (said r) _ _ Good (λ x. inl (refl, numbers i (j + 1))) (λ x. inl (refl, refl))
  row_reads K r a h = cond_both (said r) _ _ Good (λ x. inl (refl, refl)) (λ x. inl (refl, refl))
  row_reads (W j) r a h = cond_both (ltb (j + 1) q.sizes.writes) _ _ Good (λ x. inl (refl, refl)) (λ x. unlocks (next_item k 0))
  row_reads (U i) r a h = unlocks (next_item k (i + 1))
  row_reads (A1 i z) r a h = inl (refl, refl)
  row_reads (A2 i j z) r a h = inl (refl, refl)
  row_reads (A3 z) r a h = inl (refl, refl)
