-- Scripts against sets, row by row.
use Rattle.std.proofs.Common.{◌≡◌, ℕ, ◌+◌, ◌<◌, Bool, true, eqb, ltb, List, [], ◌∷◌, ◌++◌, length, get_or, take, Some, None, Option, refl, sym, ap, ◌∙◌, subst, arith}
use Rattle.std.proofs.lemmas.Bool.{false≢true, cond_both, ltb-true}
use Rattle.std.proofs.lemmas.List.{take_more, take_more_set, take-set-le, length-take-le, get_or-take}
use Rattle.bank.specs.declared.lock.Lock.{Lock}
use Rattle.table.specs.Sets.{find, blank_entry}
use Rattle.table.specs.Tasks.{Task, in_reads, write_slot, next_item, sequence_or}
use Rattle.table.specs.declared.entry.Entry.{Entry}
use Rattle.table.specs.declared.entry.Part.TheVariants.{Reads, Writes}
use Rattle.rows.specs.Places.{lock_to, abort_to, count_from, compared, seen_to, released}
use Rattle.rows.specs.Primitives.{lock_in, value_in, count_in, said}
use Rattle.rows.specs.declared.asking.Reply.{Reply}
use Rattle.rows.specs.declared.place.Place.{Place}
use Rattle.rows.specs.declared.place.Place.TheVariants.{Closed, Idle, R1, R2, R3, R4, R5, D1, D2, C, L1, L2, L3, L4, K, W, U, A1, A2, A3}
use Rattle.process.specs.Moves.{Note, keep, put}
use Rattle.process.specs.Rows.{Turn, read_ends, settled, fetched, numbered, unlock_to, next_at}
use Rattle.process.specs.Tells.{Told, going, waiting, committed, aborted}
use Rattle.process.specs.Traits.{traits}
use Rattle.process.specs.declared.record.Process.{Process}
use Rattle.process.specs.declared.record.Status.{Status}
use Rattle.process.specs.declared.record.Status.TheVariants.{Committed, Aborted}
use Rattle.store.specs.Model.{State, process, task_of}
use Rattle.store.specs.Rows.{owned, recalled}
use Rattle.history.specs.Invariants.{Formed, Here, Own, own, part, reads_in, writes_in, past, phase, SaneAt, Sane}
use Rattle.history.specs.Notes.{Notes, value_told, step_noted}
use Rattle.history.proofs.Counting.{owned_item, lock_past, abort_past, out_past, compared_past, seen_past, released_past}
use Rattle.history.proofs.Finds.{value_found, value_found-like}
use Rattle.history.proofs.Scripts.{Reading, Scripted, scripted_kept, scripted_read}
use Rattle.history.proofs.Sums.{find_item, slot_found, slot_none}
use Rattle.history.proofs.Views.{after_note, take_set, part_long, entry_is, writes_are}

module _ {V : Type 0} (blank : V) (s : State V) (p : ℕ) (f : Formed s) (here : Here s p) (sn : Sane (own s p)) (m : ℕ) (n : Notes V) (t : Scripted n (own s p)) where
  abbrev o : Own V
  o = own s p

  abbrev q : Process
  q = process s.memory p

  abbrev k : Task V
  k = task_of blank s.memory p

  abbrev size : ℕ
  size = q.sizes.reads

  -- what a turn leaves of the process's own
  abbrev left : Turn V → Own V
  left u = record { process = u.process; part = after_note o.part u.note }

  abbrev pub Good : Turn V → Type 0
  Good u = Scripted (step_noted m (value_told u.tells) n) (left u)

  abbrev turn : Told V → Status → Place → Note V → Turn V
  turn w st pl x = record { tells = w; process = record { status = st; sizes = q.sizes; place = pl }; note = x }

  -- the reading that a place asks for
  abbrev At : Place → Type 0
  At pl = Reading n.reading (writes_in o) (phase pl)

  at_past : (pl : Place) → phase pl ≡ past → At pl
  at_past pl e = subst (Reading n.reading (writes_in o)) (sym e) tt

  -- the place alone changes
  keeps : (w : Told V) (st : Status) (pl : Place) → At pl → Scripted n (left (turn w st pl keep))
  keeps w st pl h = scripted_kept n o (left (turn w st pl keep)) refl (λ i. refl) h t

  -- the read of item i ends with an entry
  ends_read : (i : ℕ) (e : Entry V) (note : Note V) → take (size + 1) (after_note (part s p) note Reads) ≡ reads_in o ++ e ∷ []
      → take q.sizes.writes (after_note (part s p) note Writes) ≡ writes_in o → (n.reading ≡ i) × (find i (writes_in o) ≡ None) → e.item ≡ i
      → Good (read_ends q e.value note)
  ends_read i e note r w h it =
      scripted_read n o (left (read_ends q e.value note)) e _ r w refl (subst (λ (j : ℕ). find j (writes_in o) ≡ None) (sym h.0) h.1) (it ∙ sym h.0) t

  long : size < 8 → size < length (part s p Reads)
  long h = let l = part_long blank s p f here Reads in omega arith

  at_r4 : (i : ℕ) (l : Lock) (v : V) → size < 8 → (n.reading ≡ i) × (find i (writes_in o) ≡ None) → Good (fetched q k i l v)
  at_r4 i l v r h =
      let e : Entry V = record { item = i; sequence = l.sequence; value = v } in
      cond_both (eqb l.owner 0) _ _ Good
      (λ x. ends_read i e (put Reads size e) (take_more_set (part s p Reads) size e (long r)) refl h refl)
      (λ x. scripted_kept n o (left (turn going q.status (R5 i l) (put Reads size e))) (take-set-le size (part s p Reads) size e (omega arith)) (λ j. refl) h t)

  at_r5 : (i : ℕ) (x : Option (Entry V)) → ((e : Entry V) → x ≡ Some e → e.item ≡ i) → (size < 8) × ((d : Entry V) → (get_or (part s p Reads) size d).item ≡ i)
      → (n.reading ≡ i) × (find i (writes_in o) ≡ None) → Good (settled q k x)
  at_r5 i None it r h =
      let e : Entry V = get_or (part s p Reads) size (blank_entry blank) in
      subst (λ (y : Entry V). Good (read_ends q y.value keep)) (sym (entry_is blank s p Reads size r.0))
      (ends_read i e keep (take_more (part s p Reads) size (blank_entry blank) (long r.0)) refl h (r.1 (blank_entry blank)))
  at_r5 i (Some e) it r h = ends_read i e (put Reads size e) (take_more_set (part s p Reads) size e (long r.0)) refl h (it e refl)

  -- L4 puts a number into an entry of the write set
  numbers : (i j : ℕ) (pl : Place) → phase pl ≡ past → Scripted n (left (turn going q.status pl (numbered q k i j)))
  numbers i j pl e' =
      cond_both (ltb (write_slot k i) q.sizes.writes) _ _ (λ (x : Note V). Scripted n (left (turn going q.status pl x)))
      (λ l. puts (ltb-true _ _ l) (find i k.writes) refl)
      (λ l. keeps going q.status pl (at_past pl e'))
    where
      y : Entry V
      y = record { item = i; sequence = j; value = (k.entry Writes (write_slot k i)).value }

      puts : write_slot k i < q.sizes.writes → (x : Option (Entry V)) → find i k.writes ≡ x → Scripted n (left (turn going q.status pl (put Writes (write_slot k i) y)))
      puts l None h =
          let a = slot_none i k.writes h in
          let b : length k.writes ≡ q.sizes.writes =
          ap length (writes_are blank s p q.sizes.writes sn.writes)
          ∙ length-take-le q.sizes.writes (part s p Writes) (let w = part_long blank s p f here Writes in let z = sn.writes in omega arith) in
          absurd (omega (arith, a, b, l))
      puts l (Some e) h =
          let d : Entry V = blank_entry blank in
          let at : get_or (writes_in o) (write_slot k i) d ≡ e =
          ap (λ (es : List (Entry V)). get_or es (write_slot k i) d) (sym (writes_are blank s p q.sizes.writes sn.writes)) ∙ (slot_found i k.writes e d h).1 in
          let item : y.item ≡ (get_or (writes_in o) (write_slot k i) d).item = sym (ap (λ (z : Entry V). z.item) at ∙ find_item i k.writes e h) in
          let value : y.value ≡ (get_or (writes_in o) (write_slot k i) d).value =
          ap (λ (z : Entry V). z.value)
          (entry_is blank s p Writes (write_slot k i) (let z = sn.writes in omega arith)
          ∙ sym (get_or-take q.sizes.writes (part s p Writes) (write_slot k i) d l)) in
          scripted_kept n o (left (turn going q.status pl (put Writes (write_slot k i) y))) refl
          (λ a. ap (value_found a) (take_set q.sizes.writes (part s p Writes) (write_slot k i) y) ∙ value_found-like a (writes_in o) (write_slot k i) y d item value)
          (subst (Reading n.reading _) (sym e') tt) t

  unlocks : (x : Option ℕ) → Good (unlock_to q x)
  unlocks None = keeps committed Committed Closed tt
  unlocks (Some i) = keeps going q.status (U i) tt

  pub counts_from : (j : ℕ) (a : Bool) → At (count_from k j a)
  counts_from j a = cond_both (ltb j size) _ _ At (λ e. tt) (λ e. at_past _ (out_past k a))

  pub row_scripted : (pl : Place) (r : Reply V) → (traits pl).under_way ≡ true → SaneAt (part s p Reads) size (phase pl) → At pl
      → Good (next_at q k blank pl (recalled blank s.memory pl) r)
  row_scripted Closed r u a h = absurd (false≢true u)
  row_scripted Idle r u a h = absurd (false≢true u)
  row_scripted (R1 i) r u a h = keeps going q.status (R2 i (count_in r)) h
  row_scripted (R2 i j) r u a h = cond_both (said r) _ _ Good (λ x. keeps going q.status (R3 i) h) (λ x. keeps waiting q.status (R1 i) h)
  row_scripted (R3 i) r u a h = keeps going q.status (R4 i (lock_in r)) h
  row_scripted (R4 i l) r u a h = at_r4 i l (value_in blank r) a h
  row_scripted (R5 i l) r u a h = at_r5 i (owned blank s.memory l.owner i) (λ e x. owned_item blank s.memory l.owner i e x) a h
  row_scripted (D1 j z) r u a h = keeps going q.status (D2 j (count_in r) z) tt
  row_scripted (D2 j x z) r u a h = cond_both (said r) _ _ Good (λ x. keeps going q.status (count_from k (j + 1) z) (counts_from (j + 1) z)) (λ x. keeps waiting q.status (D1 j z) tt)
  row_scripted C r u a h = keeps committed Committed Closed tt
  row_scripted (L1 i) r u a h = keeps going q.status (L2 i (lock_in r)) tt
  row_scripted (L2 i l) r u a h = keeps going q.status (seen_to k i l) (at_past _ (seen_past k i l))
  row_scripted (L3 i l) r u a h =
      let x = sequence_or l.sequence (owned blank s.memory l.owner i) in
      keeps going q.status (compared k i x) (at_past _ (compared_past k i x (in_reads k i)))
  row_scripted (L4 i j) r u a h =
      cond_both (said r) _ _ Good
      (λ x. numbers i (j + 1) (lock_to (next_item k (i + 1))) (lock_past (next_item k (i + 1))))
      (λ x. keeps waiting q.status (L1 i) tt)
  row_scripted K r u a h = cond_both (said r) _ _ Good (λ x. keeps going Committed (W 0) tt) (λ x. keeps waiting q.status K tt)
  row_scripted (W j) r u a h = cond_both (ltb (j + 1) q.sizes.writes) _ _ Good (λ x. keeps going q.status (W (j + 1)) tt) (λ x. unlocks (next_item k 0))
  row_scripted (U i) r u a h = unlocks (next_item k (i + 1))
  row_scripted (A1 i z) r u a h = keeps going q.status (released k i (lock_in r) z) (at_past _ (released_past k i (lock_in r) z))
  row_scripted (A2 i j z) r u a h = keeps going q.status (abort_to z (next_item k (i + 1))) (at_past _ (abort_past z (next_item k (i + 1))))
  row_scripted (A3 z) r u a h = keeps (aborted z) Aborted Closed tt
