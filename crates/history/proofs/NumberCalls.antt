-- Numbers stay storable, after set-up and every list of calls.
use Rattle.std.proofs.Common.{◌≡◌, ℕ, ◌+◌, ◌-◌, ◌^◌, ◌<◌, ◌≤◌, true, false, List, take, set, sym, refl, ap, ◌∙◌, subst, inl, arith}
use Rattle.std.proofs.lemmas.Bool.{both_ways}
use Rattle.std.proofs.lemmas.List.{take_more_set}
use Rattle.std.proofs.lemmas.List.Elements.{All-set, All-push, All-nil}
use Rattle.table.specs.Tasks.{Task, write_slot}
use Rattle.table.specs.declared.entry.Entry.{Entry}
use Rattle.table.specs.declared.entry.Part.TheVariants.{Reads, Writes}
use Rattle.rows.specs.declared.place.Place.{Place}
use Rattle.rows.specs.declared.place.Place.TheVariants.{Closed, Idle, R1, R2, R3, R4, R5, D1, D2, C, L1, L2, L3, L4, K, W, U, A1, A2, A3}
use Rattle.process.specs.Moves.{Move}
use Rattle.process.specs.Tells.{going}
use Rattle.process.specs.Traits.{traits}
use Rattle.store.specs.Calls.{called}
use Rattle.store.specs.Model.{State, process, task_of, moved}
use Rattle.store.specs.Rows.{row}
use Rattle.store.specs.declared.calling.Call.{Call}
use Rattle.history.specs.Invariants.{Here, part, phase, SaneAt, Counts, stage, live, AtMost, Numbers, lock_of}
use Rattle.history.proofs.Views.{take_set, RealTouch, RealNote, real_said, part_long}
use Rattle.history.proofs.Sums.{total_none, slot_found, slot_none}
use Rattle.history.proofs.Deeds.{Deeds, Ready, by_deed, begin_move, write_move, start_move}
use Rattle.history.proofs.Counting.{Good, row_good}
use Rattle.history.proofs.CountCalls.{Fresh, writes_long}
use Rattle.history.proofs.Numbering.{numbers_move, NumRow, num_row, go_row, Calm, calm, calm_from}

-- in mid-read there is room for one entry more
pub room_for : {V : Type 0} (pl : Place) (es : List (Entry V)) (n : ℕ) → SaneAt es n (phase pl) → (traits pl).ahead ≡ 1 → n < 8
room_for Closed es n h k = absurd (omega arith)
room_for Idle es n h k = absurd (omega arith)
room_for (R1 i) es n h k = h.0
room_for (R2 i m) es n h k = h.0
room_for (R3 i) es n h k = h
room_for (R4 i l) es n h k = h
room_for (R5 i l) es n h k = h.0
room_for (D1 i a) es n h k = absurd (omega arith)
room_for (D2 i m a) es n h k = absurd (omega arith)
room_for C es n h k = absurd (omega arith)
room_for (L1 i) es n h k = absurd (omega arith)
room_for (L2 i l) es n h k = absurd (omega arith)
room_for (L3 i l) es n h k = absurd (omega arith)
room_for (L4 i m) es n h k = absurd (omega arith)
room_for K es n h k = absurd (omega arith)
room_for (W i) es n h k = absurd (omega arith)
room_for (U i) es n h k = absurd (omega arith)
room_for (A1 i z) es n h k = absurd (omega arith)
room_for (A2 i m z) es n h k = absurd (omega arith)
room_for (A3 z) es n h k = absurd (omega arith)

pub open_from_under : (pl : Place) → (traits pl).under_way ≡ true → (traits pl).is_open ≡ true
open_from_under Closed e = e
open_from_under Idle e = refl
open_from_under (R1 i) e = refl
open_from_under (R2 i m) e = refl
open_from_under (R3 i) e = refl
open_from_under (R4 i l) e = refl
open_from_under (R5 i l) e = refl
open_from_under (D1 k a) e = refl
open_from_under (D2 k m a) e = refl
open_from_under C e = refl
open_from_under (L1 i) e = refl
open_from_under (L2 i l) e = refl
open_from_under (L3 i l) e = refl
open_from_under (L4 i n) e = refl
open_from_under K e = refl
open_from_under (W k) e = refl
open_from_under (U i) e = refl
open_from_under (A1 i z) e = refl
open_from_under (A2 i n z) e = refl
open_from_under (A3 z) e = refl

module _ {V : Type 0} (blank : V) where
  -- some number of commits bounds the numbers
  abbrev pub SomeNumbers : State V → Type 0
  SomeNumbers s = (c : ℕ) × Numbers blank c s

  by_row : (s : State V) (p : ℕ) (m : Move V) (v : Counts blank s) (h : Here s p) (n : SomeNumbers s) → RealTouch s.cells m.touch → RealNote m.note → NumRow blank s p n.0 v h n.1 m → SomeNumbers (moved blank s p m)
  by_row s p m v h n rt rn r = (r.next, numbers_move blank s p n.0 r.next s.memory.life m v.formed h rt rn r.locks r.own r.by (let x = r.lives in omega arith) n.1)

  numbers_step : (s : State V) (p : ℕ) → Counts blank s → SomeNumbers s → Here s p → (traits (process s.memory p).place).under_way ≡ true → SomeNumbers (moved blank s p (row blank s p))
  numbers_step s p v n h u =
      let sn = v.sane p h in
      let g : Good blank s p (process s.memory p).place (row blank s p) = row_good blank s p v.formed h sn.reads sn.writes (process s.memory p).place u sn.at in
      let r : NumRow blank s p n.0 v h n.1 (row blank s p) = num_row blank s p n.0 v h n.1 (open_from_under _ u) (process s.memory p).place refl u (room_for (process s.memory p).place (part s p Reads) _ sn.at) in
      by_row s p (row blank s p) v h n (real_said blank s.cells _) g.note r

  module _ (s : State V) (v : Counts blank s) (n : SomeNumbers s) where
    at_idle : (p : ℕ) (r : Ready s p) (pl : Place) → Calm blank s p n.0 v r.at n.1 pl → SomeNumbers (moved blank s p (start_move (process s.memory p) pl))
    at_idle p r pl k = by_row s p (start_move (process s.memory p) pl) v r.at n tt tt (go_row blank s p n.0 v r.at n.1 (ap (λ x. (traits x).is_open) r.rests) going pl (ap (λ x. (stage x).late) r.rests) k)

    wrote : (p i m : ℕ) (x : V) (r : Ready s p) → write_slot (task_of blank s.memory p) i < 8
        → AtMost (n.0 + 1) (take m (set (part s p Writes) (write_slot (task_of blank s.memory p) i) (record { item = i; sequence = 0; value = x })))
        → SomeNumbers (moved blank s p (write_move (process s.memory p) (task_of blank s.memory p) i x m))
    wrote p i m x r l ws =
        let y = n.1.each p r.at in
        let null = y.before (ap (λ x. (stage x).late) r.rests) (ap (λ x. (traits x).is_open) r.rests) in
        by_row s p (write_move (process s.memory p) (task_of blank s.memory p) i x m) v r.at n tt l
        (record {
          next = n.0;
          locks = n.1.locks;
          own = record {
            reads = y.reads;
            writes = ws;
            done = λ t. absurd (both_ways _ null t);
            place = y.place;
            before = λ _ _. null;
            after = λ t. absurd (both_ways _ (ap (λ x. (stage x).late) r.rests) t);
            only = λ t. absurd (both_ways _ (ap (λ x. (stage x).only) r.rests) t);
          };
          by = inl refl;
          lives = omega arith;
        })

    begun : (p : ℕ) → Here s p → (process s.memory p).place ≡ Closed → 0 < s.memory.life → SomeNumbers (record { cells = s.cells; memory = record { processes = set s.memory.processes (p - 1) (begin_move {V = V}).process; number = s.memory.number; life = s.memory.life - 1; entries = s.memory.entries } })
    begun p h e l = (
      n.0,
      numbers_move blank s p n.0 n.0 (s.memory.life - 1) begin_move v.formed h tt tt n.1.locks
          (record { reads = All-nil (λ (y : Entry V). y.sequence ≤ n.0); writes = All-nil (λ (y : Entry V). y.sequence ≤ n.0 + 1); done = λ t. absurd (both_ways true (sym t) refl); place = omega arith; before = λ _ _. refl; after = λ t. absurd (both_ways true (sym t) refl); only = λ t. absurd (both_ways true (sym t) refl) })
          (inl refl)
          (omega arith)
          n.1,
    )

    numbers_deeds : Deeds blank s (λ c o. SomeNumbers o.after)
    numbers_deeds =
        record {
          refuses = λ c k. n;
          begins = λ p h c m l. begun p h c l;
          finds_write = λ p i e r b c w. n;
          finds_read = λ p i e r b c w f. n;
          reads = λ p i r b c w f k. at_idle p r (R1 i) (calm blank s p n.0 v r.at n.1 (R1 i) (omega arith) refl refl refl);
          rewrites = λ p i x e r b c w.
              let t : Task V = task_of blank s.memory p in
              let y = n.1.each p r.at in
              let sl = (slot_found i t.writes e e w).0 in
              let l = writes_long blank s v p r.at in
              let z = (v.sane p r.at).writes in
              wrote p i _ x r (omega arith) (subst (AtMost (n.0 + 1)) (sym (take_set (process s.memory p).sizes.writes (part s p Writes) (write_slot t i) _)) (All-set (λ (e : Entry V). e.sequence ≤ n.0 + 1) _ (write_slot t i) _ (omega arith) y.writes));
          writes = λ p i x r b c w k.
              let t : Task V = task_of blank s.memory p in
              let y = n.1.each p r.at in
              let l = writes_long blank s v p r.at in
              let at : write_slot t i ≡ (process s.memory p).sizes.writes = slot_none i t.writes w ∙ l in
              wrote p i _ x r (omega arith) (subst (λ a. AtMost (n.0 + 1) (take ((process s.memory p).sizes.writes + 1) (set (part s p Writes) a (record { item = i; sequence = 0; value = x })))) (sym at)
              (subst (AtMost (n.0 + 1)) (sym (take_more_set (part s p Writes) (process s.memory p).sizes.writes _ (let u = part_long blank s p v.formed r.at Writes in omega arith))) (All-push (λ (e : Entry V). e.sequence ≤ n.0 + 1) _ _ y.writes (omega arith))));
          tries = λ p r. at_idle p r _ (calm_from blank s p n.0 v r.at n.1 0 false);
          aborts = λ p r. at_idle p r _ (calm_from blank s p n.0 v r.at n.1 0 true);
          steps = λ p h u. numbers_step s p v n h u;
        }

  pub numbers_call : (s : State V) (c : Call V) → Counts blank s → SomeNumbers s → SomeNumbers (called blank s c).after
  numbers_call s c v n = by_deed blank s (λ c o. SomeNumbers o.after) (numbers_deeds s v n) c

  pub numbers_fresh : (s : State V) → Fresh blank s → SomeNumbers s
  numbers_fresh s f = (
    0,
    record {
      locks = λ i. let a = f.numbers i in omega arith;
      each = λ p h. rw (f.none p) (record { reads = All-nil (λ (y : Entry V). y.sequence ≤ 0); writes = All-nil (λ (y : Entry V). y.sequence ≤ 0 + 1); done = λ t. absurd (both_ways true (sym t) refl); place = omega arith; before = λ _ _. refl; after = λ t. absurd (both_ways true (sym t) refl); only = λ _. refl });
      life = let a = total_none (λ p. live (process s.memory p)) s.memory.number (λ q. rw (f.none q) refl) in let b = f.life in omega arith;
    },
  )

  -- every item's number can be stored
  pub number_small : (s : State V) → SomeNumbers s → (i : ℕ) → (lock_of blank s i).sequence ≤ 2 ^ 56 - 1
  number_small s n i = let a = n.1.locks i in let b = n.1.life in omega arith
