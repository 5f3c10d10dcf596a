-- Scripts against sets, after set-up and every list of calls.
use Rattle.std.proofs.Common.{◌≡◌, ℕ, ◌+◌, ◌<◌, Bool, true, false, [], ◌∷◌, ◌++◌, get_or, take, set, Some, None, Option, refl, sym, ap, ◌∙◌, subst, arith}
use Rattle.std.proofs.lemmas.Bool.{cond-false}
use Rattle.std.proofs.lemmas.List.{take_more_set}
use Rattle.table.specs.Sets.{find, slot}
use Rattle.table.specs.Tasks.{in_reads, in_writes, write_slot}
use Rattle.table.specs.declared.entry.Entry.{Entry}
use Rattle.table.specs.declared.entry.Part.TheVariants.{Writes}
use Rattle.rows.specs.Places.{count_from}
use Rattle.rows.specs.declared.place.Place.TheVariants.{R1}
use Rattle.process.specs.Moves.{Move}
use Rattle.process.specs.Tells.{value, refused}
use Rattle.process.specs.Traits.{traits}
use Rattle.store.specs.Calls.{called, older}
use Rattle.store.specs.Model.{State, process, task_of, accepted}
use Rattle.store.specs.Rows.{row}
use Rattle.store.specs.declared.calling.Call.{Call}
use Rattle.store.specs.declared.calling.Call.TheVariants.{Begin, Read, Write, TryCommit, Abort, Step}
use Rattle.history.specs.Invariants.{Here, Own, own, part, reads_in, writes_in, phase, Counts, Sane}
use Rattle.history.specs.Notes.{Notes, is_refused, caller}
use Rattle.history.specs.Reruns.{writes}
use Rattle.history.proofs.CountCalls.{writes_long}
use Rattle.history.proofs.Counting.{row_good}
use Rattle.history.proofs.Deeds.{Deeds, Ready, begin_move, start_move, write_move, by_deed}
use Rattle.history.proofs.Finds.{value_found, value_found-slot, value_found-other, value_found-last, value_found-before}
use Rattle.history.proofs.Noting.{OfAll, After, stays, moves}
use Rattle.history.proofs.Refused.{row_answers}
use Rattle.history.proofs.ScriptRows.{row_scripted, counts_from}
use Rattle.history.proofs.Scripts.{Scripted, scripted_kept, scripted_own, scripted_again, scripted_write}
use Rattle.history.proofs.Sums.{find_item, slot_found, slot_none}
use Rattle.history.proofs.Views.{after_own, part_long, reads_are, writes_are, take_set}

module _ {V : Type 0} (blank : V) (s : State V) (m : ℕ) (n : ℕ → Notes V) (v : Counts blank s) (f : OfAll Scripted s n) where
  module _ (p : ℕ) (r : Ready s p) where
    abbrev o : Own V
    o = own s p

    sane : Sane o
    sane = v.sane p r.at

    t : Scripted (n p) o
    t = f p r.at

    writes_same : (task_of blank s.memory p).writes ≡ writes_in o
    writes_same = writes_are blank s p (process s.memory p).sizes.writes sane.writes

    reads_same : (task_of blank s.memory p).reads ≡ reads_in o
    reads_same = reads_are blank s p (process s.memory p).sizes.reads sane.reads

    in_writes_same : (i : ℕ) (x : Option (Entry V)) → in_writes (task_of blank s.memory p) i ≡ x → find i (writes_in o) ≡ x
    in_writes_same i x h = ap (find i) (sym writes_same) ∙ h

    in_reads_same : (i : ℕ) (x : Option (Entry V)) → in_reads (task_of blank s.memory p) i ≡ x → find i (reads_in o) ≡ x
    in_reads_same i x h = ap (find i) (sym reads_same) ∙ h

    starts_read : (i : ℕ) → in_writes (task_of blank s.memory p) i ≡ None → Scripted (record (n p) { reading = i }) (after_own o (start_move (process s.memory p) (R1 i)))
    starts_read i w = record { wrote = t.wrote; gets = t.gets; mid = (refl, in_writes_same i None w) }

    ends : (a : Bool) → Scripted (n p) (after_own o (start_move (process s.memory p) (count_from (task_of blank s.memory p) 0 a)))
    ends a = scripted_kept (n p) o (after_own o (start_move (process s.memory p) (count_from (task_of blank s.memory p) 0 a))) refl (λ i. refl) (counts_from blank s p v.formed r.at sane m (n p) t 0 a) t

    module _ (i : ℕ) (x : V) where
      abbrev y : Entry V
      y = record { item = i; sequence = 0; value = x }

      abbrev wrote : ℕ → Move V
      wrote k = write_move (process s.memory p) (task_of blank s.memory p) i x k

      slot_within : (e : Entry V) → in_writes (task_of blank s.memory p) i ≡ Some e → write_slot (task_of blank s.memory p) i < 8
      slot_within e h = let a = (slot_found i (task_of blank s.memory p).writes e e h).0 in let l = writes_long blank s v p r.at in let z = sane.writes in omega arith

      slot_behind : in_writes (task_of blank s.memory p) i ≡ None → write_slot (task_of blank s.memory p) i ≡ (process s.memory p).sizes.writes
      slot_behind h = slot_none i (task_of blank s.memory p).writes h ∙ writes_long blank s v p r.at

      rewritten : (e : Entry V) → in_writes (task_of blank s.memory p) i ≡ Some e
          → Scripted (record (n p) { script = writes i x ∷ (n p).script }) (after_own o (wrote (process s.memory p).sizes.writes))
      rewritten e h =
          let z : write_slot (task_of blank s.memory p) i ≡ slot i (writes_in o) = ap (slot i) writes_same in
          let w : writes_in (after_own o (wrote (process s.memory p).sizes.writes)) ≡ set (writes_in o) (slot i (writes_in o)) y =
          take_set (process s.memory p).sizes.writes (part s p Writes) (write_slot (task_of blank s.memory p) i) y ∙ ap (λ (k : ℕ). set (writes_in o) k y) z in
          let g : find i (writes_in o) ≡ Some e = in_writes_same i (Some e) h in
          let at : (get_or (writes_in o) (slot i (writes_in o)) e).item ≡ i = ap (λ (u : Entry V). u.item) (slot_found i (writes_in o) e e g).1 ∙ find_item i (writes_in o) e g in
          scripted_write (n p) o (after_own o (wrote (process s.memory p).sizes.writes)) i x refl
          (ap (value_found i) w ∙ value_found-slot i (writes_in o) y e refl g)
          (λ j ne. ap (value_found j) w ∙ value_found-other i j (writes_in o) (slot i (writes_in o)) y e at refl ne)
          (ap phase r.rests) t

      written : in_writes (task_of blank s.memory p) i ≡ None → (process s.memory p).sizes.writes < 8
          → Scripted (record (n p) { script = writes i x ∷ (n p).script }) (after_own o (wrote ((process s.memory p).sizes.writes + 1)))
      written h l =
          let w : writes_in (after_own o (wrote ((process s.memory p).sizes.writes + 1))) ≡ writes_in o ++ y ∷ [] =
          ap (λ (k : ℕ). take ((process s.memory p).sizes.writes + 1) (set (part s p Writes) k y)) (slot_behind h)
          ∙ take_more_set (part s p Writes) (process s.memory p).sizes.writes y (let u = part_long blank s p v.formed r.at Writes in omega arith) in
          scripted_write (n p) o (after_own o (wrote ((process s.memory p).sizes.writes + 1))) i x refl
          (ap (value_found i) w ∙ value_found-last i (writes_in o) y (in_writes_same i None h) refl)
          (λ j ne. ap (value_found j) w ∙ value_found-before j (writes_in o) y ne)
          (ap phase r.rests) t

  steps : (p : ℕ) (h : Here s p) → (traits (process s.memory p).place).under_way ≡ true → After blank Scripted s m n (Step p) (accepted blank s p (row blank s p))
  steps p h u =
      let sn = v.sane p h in
      let a : is_refused (row blank s p).tells ≡ false = row_answers (process s.memory p) (task_of blank s.memory p) blank (process s.memory p).place _ _ in
      moves blank Scripted s m n f (Step p) s (row blank s p) (λ q. refl) refl v.formed h (row_good blank s p v.formed h sn.reads sn.writes (process s.memory p).place u sn.at).note
      (subst (λ (k : Notes V). Scripted k (after_own (own s p) (row blank s p))) (sym (cond-false _ _ _ a))
      (row_scripted blank s p v.formed h sn m (n p) (f p h) (process s.memory p).place _ u sn.at (f p h).mid))

  script_deeds : Deeds blank s (After blank Scripted s m n)
  script_deeds =
      record {
        refuses = λ c k. stays blank Scripted s m n f c (refused k) (λ h. f (caller c) h);
        begins = λ p h a b l.
            moves blank Scripted s m n f (Begin p) (older blank s) begin_move (λ q. refl) refl (record { sixteen = v.formed.sixteen; few = v.formed.few; long = v.formed.long }) h tt
            (record { wrote = λ i. refl; gets = λ held g. refl; mid = tt });
        finds_write = λ p i e r a b w. stays blank Scripted s m n f (Read p i) (value e.value) (λ h. scripted_own (n p) (own s p) i e (in_writes_same p r i (Some e) w) (f p h));
        finds_read = λ p i e r a b w k.
            stays blank Scripted s m n f (Read p i) (value e.value) (λ h. scripted_again (n p) (own s p) i e (in_writes_same p r i None w) (in_reads_same p r i (Some e) k) (f p h));
        reads = λ p i r a b w k l. moves blank Scripted s m n f (Read p i) s (start_move (process s.memory p) (R1 i)) (λ q. refl) refl v.formed r.at tt (starts_read p r i w);
        rewrites = λ p i x e r a b w. moves blank Scripted s m n f (Write p i x) s (wrote p r i x _) (λ q. refl) refl v.formed r.at (slot_within p r i x e w) (rewritten p r i x e w);
        writes = λ p i x r a b w k.
            moves blank Scripted s m n f (Write p i x) s (wrote p r i x _) (λ q. refl) refl v.formed r.at (let z = slot_behind p r i x w in omega arith) (written p r i x w k);
        tries = λ p r.
            let e = ends p r false in
            moves blank Scripted s m n f (TryCommit p) s (start_move (process s.memory p) (count_from (task_of blank s.memory p) 0 false)) (λ q. refl) refl v.formed r.at tt
            (record { wrote = e.wrote; gets = e.gets; mid = e.mid });
        aborts = λ p r.
            let e = ends p r true in
            moves blank Scripted s m n f (Abort p) s (start_move (process s.memory p) (count_from (task_of blank s.memory p) 0 true)) (λ q. refl) refl v.formed r.at tt
            (record { wrote = e.wrote; gets = e.gets; mid = e.mid });
        steps = steps;
      }

  pub script_call : (c : Call V) → After blank Scripted s m n c (called blank s c)
  script_call c = by_deed blank s (After blank Scripted s m n) script_deeds c
