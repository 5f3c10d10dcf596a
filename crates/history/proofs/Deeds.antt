-- What a call does: it is refused and leaves the state, it is answered at once, or it is a move of its process.
use Rattle.std.proofs.Common.{◌≡◌, ℕ, ◌+◌, ◌<◌, Bool, true, false, cond, eqb, ltb, leb, List, [], ◌∷◌, length, Some, None, Option, refl, arith}
use Rattle.std.proofs.lemmas.Bool.{both_ways, not-false, or_parts, eqb-false, ltb-false, leb-false}
use Rattle.table.specs.Tasks.{Task, in_reads, in_writes, write_slot}
use Rattle.table.specs.declared.entry.Entry.{Entry}
use Rattle.table.specs.declared.entry.Part.TheVariants.{Writes}
use Rattle.rows.specs.Places.{count_from}
use Rattle.rows.specs.Primitives.{still}
use Rattle.rows.specs.declared.place.Place.{Place}
use Rattle.rows.specs.declared.place.Place.TheVariants.{Closed, Idle, R1, R2, R3, R4, R5, D1, D2, C, L1, L2, L3, L4, K, W, U, A1, A2, A3}
use Rattle.process.specs.Moves.{keep, put, Move}
use Rattle.process.specs.Tells.{done, going, value, refused}
use Rattle.process.specs.Traits.{traits}
use Rattle.process.specs.declared.record.Process.{Process}
use Rattle.process.specs.declared.record.Status.TheVariants.{Null}
use Rattle.store.specs.Calls.{Ground, Reached, ground, first_ground, or_else, unless, over, unless_full, remembered, with_writes, no_process, begin_grounds, step_grounds, operation_grounds, no_item, item_refusal, older, read_by, write_by, called}
use Rattle.store.specs.Model.{State, Outcome, process, task_of, accepted}
use Rattle.store.specs.Rows.{row}
use Rattle.store.specs.declared.calling.Call.{Call}
use Rattle.store.specs.declared.calling.Call.TheVariants as call
use Rattle.history.specs.Invariants.{Here}

-- no ground holds
abbrev pub Passed : List Ground → Type 0
Passed [] = Unit {0}
Passed (g ∷ gs) = (g.holds ≡ false) × Passed gs

pub passed : (gs : List Ground) → first_ground gs ≡ None → Passed gs
passed [] e = tt
passed (g ∷ gs) e = go g.holds e (passed gs)
  where
    go : (b : Bool) → cond b (Some g.number) (first_ground gs) ≡ None → (first_ground gs ≡ None → Passed gs) → (b ≡ false) × Passed gs
    go true h k = let z : ◌≡◌ {A = ℕ} 0 1 = cc in absurd (omega arith)
    go false h k = (refl, k h)

pub passed_both : (f g : Option ℕ) → or_else f g ≡ None → (f ≡ None) × (g ≡ None)
passed_both None g h = (refl, h)
passed_both (Some r) g h = let z : ◌≡◌ {A = ℕ} 0 1 = cc in absurd (omega arith)

idle_place : (pl : Place) → (traits pl).is_open ≡ true → (traits pl).under_way ≡ false → pl ≡ Idle
idle_place Closed o h = absurd (both_ways false refl o)
idle_place Idle o h = refl
idle_place (R1 i) o h = absurd (both_ways true h refl)
idle_place (R2 i m) o h = absurd (both_ways true h refl)
idle_place (R3 i) o h = absurd (both_ways true h refl)
idle_place (R4 i l) o h = absurd (both_ways true h refl)
idle_place (R5 i l) o h = absurd (both_ways true h refl)
idle_place (D1 k a) o h = absurd (both_ways true h refl)
idle_place (D2 k m a) o h = absurd (both_ways true h refl)
idle_place C o h = absurd (both_ways true h refl)
idle_place (L1 i) o h = absurd (both_ways true h refl)
idle_place (L2 i l) o h = absurd (both_ways true h refl)
idle_place (L3 i l) o h = absurd (both_ways true h refl)
idle_place (L4 i n) o h = absurd (both_ways true h refl)
idle_place K o h = absurd (both_ways true h refl)
idle_place (W k) o h = absurd (both_ways true h refl)
idle_place (U i) o h = absurd (both_ways true h refl)
idle_place (A1 i z) o h = absurd (both_ways true h refl)
idle_place (A2 i n z) o h = absurd (both_ways true h refl)
idle_place (A3 z) o h = absurd (both_ways true h refl)

pub closed_place : (pl : Place) → (traits pl).is_open ≡ false → pl ≡ Closed
closed_place Closed o = refl
closed_place Idle o = absurd (both_ways true o refl)
closed_place (R1 i) o = absurd (both_ways true o refl)
closed_place (R2 i m) o = absurd (both_ways true o refl)
closed_place (R3 i) o = absurd (both_ways true o refl)
closed_place (R4 i l) o = absurd (both_ways true o refl)
closed_place (R5 i l) o = absurd (both_ways true o refl)
closed_place (D1 k a) o = absurd (both_ways true o refl)
closed_place (D2 k m a) o = absurd (both_ways true o refl)
closed_place C o = absurd (both_ways true o refl)
closed_place (L1 i) o = absurd (both_ways true o refl)
closed_place (L2 i l) o = absurd (both_ways true o refl)
closed_place (L3 i l) o = absurd (both_ways true o refl)
closed_place (L4 i n) o = absurd (both_ways true o refl)
closed_place K o = absurd (both_ways true o refl)
closed_place (W k) o = absurd (both_ways true o refl)
closed_place (U i) o = absurd (both_ways true o refl)
closed_place (A1 i z) o = absurd (both_ways true o refl)
closed_place (A2 i n z) o = absurd (both_ways true o refl)
closed_place (A3 z) o = absurd (both_ways true o refl)

module _ {V : Type 0} where
  -- the move of an accepted begin
  abbrev pub begin_move : Move V
  begin_move = record { tells = done; process = record { status = Null; sizes = record { reads = 0; writes = 0 }; place = Idle }; touch = still; note = keep }

  -- of an accepted write, which leaves n entries in the write set
  abbrev pub write_move : Process → Task V → ℕ → V → ℕ → Move V
  write_move q t i v n = record { tells = done; process = with_writes q n; touch = still; note = put Writes (write_slot t i) (record { item = i; sequence = 0; value = v }) }

  -- of a call that only starts an operation
  abbrev pub start_move : Process → Place → Move V
  start_move q pl = record { tells = going; process = record { status = q.status; sizes = q.sizes; place = pl }; touch = still; note = keep }

  -- what the calls of an open process with nothing under way have passed
  pub record Ready (s : State V) (p : ℕ) : Type 0 where
    pub at : Here s p
    pub rests : (process s.memory p).place ≡ Idle

module _ {V : Type 0} (blank : V) where
  -- a predicate on calls and their outcomes, deed by deed
  pub record Deeds (s : State V) (P : Call V → Outcome V → Type 0) : Type 0 where
    pub refuses : (c : Call V) (n : ℕ) → P c (record { tells = refused n; after = s })
    pub begins : (p : ℕ) → Here s p → (process s.memory p).place ≡ Closed → remembered s.memory.processes p ≡ false → 0 < s.memory.life → P (call.Begin p) (accepted blank (older blank s) p begin_move)
    pub finds_write : (p i : ℕ) (e : Entry V) → Ready s p → i < length s.cells → i < 64 → in_writes (task_of blank s.memory p) i ≡ Some e → P (call.Read p i) (record { tells = value e.value; after = s })
    pub finds_read : (p i : ℕ) (e : Entry V) → Ready s p → i < length s.cells → i < 64 → in_writes (task_of blank s.memory p) i ≡ None → in_reads (task_of blank s.memory p) i ≡ Some e → P (call.Read p i) (record { tells = value e.value; after = s })
    pub reads : (p i : ℕ) → Ready s p → i < length s.cells → i < 64 → in_writes (task_of blank s.memory p) i ≡ None → in_reads (task_of blank s.memory p) i ≡ None → (process s.memory p).sizes.reads < 8 → P (call.Read p i) (accepted blank s p (start_move (process s.memory p) (R1 i)))
    pub rewrites : (p i : ℕ) (v : V) (e : Entry V) → Ready s p → i < length s.cells → i < 64 → in_writes (task_of blank s.memory p) i ≡ Some e → P (call.Write p i v) (accepted blank s p (write_move (process s.memory p) (task_of blank s.memory p) i v (process s.memory p).sizes.writes))
    pub writes : (p i : ℕ) (v : V) → Ready s p → i < length s.cells → i < 64 → in_writes (task_of blank s.memory p) i ≡ None → (process s.memory p).sizes.writes < 8 → P (call.Write p i v) (accepted blank s p (write_move (process s.memory p) (task_of blank s.memory p) i v ((process s.memory p).sizes.writes + 1)))
    pub tries : (p : ℕ) → Ready s p → P (call.TryCommit p) (accepted blank s p (start_move (process s.memory p) (count_from (task_of blank s.memory p) 0 false)))
    pub aborts : (p : ℕ) → Ready s p → P (call.Abort p) (accepted blank s p (start_move (process s.memory p) (count_from (task_of blank s.memory p) 0 true)))
    pub steps : (p : ℕ) → Here s p → (traits (process s.memory p).place).under_way ≡ true → P (call.Step p) (accepted blank s p (row blank s p))

  pub here : (s : State V) (p : ℕ) → no_process s.memory p ≡ false → Here s p
  here s p h = let a = or_parts (eqb p 0) (ltb s.memory.number p) h in let b = eqb-false p 0 a.0 in let c = ltb-false s.memory.number p a.1 in record { low = omega arith; high = c }

  pub ready : (s : State V) (p : ℕ) → first_ground (operation_grounds s.memory p) ≡ None → Ready s p
  ready s p e =
      let a = passed (operation_grounds s.memory p) e in
      record { at = here s p a.1.0; rests = idle_place (process s.memory p).place (not-false _ a.1.1.0) a.1.1.1.0 }

  -- the item is one of the bank's and of the store's
  item_there : (s : State V) (i : ℕ) → no_item s.cells i ≡ false → (i < length s.cells) × (i < 64)
  item_there s i h = let a = or_parts _ _ h in (leb-false (length s.cells) i a.0, leb-false 64 i a.1)

  -- a refusal leaves the state
  refusal : (s : State V) (P : Outcome V → Type 0) (r : Option ℕ) (o : Outcome V) → ((n : ℕ) → P (record { tells = refused n; after = s })) → (r ≡ None → P o) → P (unless r s o)
  refusal s P None o h k = k refl
  refusal s P (Some n) o h k = h n

  -- and so where there is no room
  room : (s : State V) (P : Outcome V → Type 0) (n : ℕ) (r : Reached V) → ((n : ℕ) → P (record { tells = refused n; after = s })) → (n < 8 → P (over s.cells r)) → P (over s.cells (unless_full n s.memory r))
  room s P n r h k = go (leb 8 n) refl
    where
      go : (b : Bool) → leb 8 n ≡ b → P (over s.cells (cond b (record { tells = refused 10; memory = s.memory }) r))
      go true e = h 10
      go false e = k (leb-false 8 n e)

  by_read : (s : State V) (P : Call V → Outcome V → Type 0) (p i : ℕ) → Deeds s P → Ready s p → (i < length s.cells) × (i < 64) → (w r : Option (Entry V)) → in_writes (task_of blank s.memory p) i ≡ w → in_reads (task_of blank s.memory p) i ≡ r → P (call.Read p i) (over s.cells (read_by blank s.memory p i w r))
  by_read s P p i d r h (Some e) f a b = d.finds_write p i e r h.0 h.1 a
  by_read s P p i d r h None (Some e) a b = d.finds_read p i e r h.0 h.1 a b
  by_read s P p i d r h None None a b = room s (P (call.Read p i)) (process s.memory p).sizes.reads _ (d.refuses (call.Read p i)) (λ k. d.reads p i r h.0 h.1 a b k)

  by_write : (s : State V) (P : Call V → Outcome V → Type 0) (p i : ℕ) (v : V) → Deeds s P → Ready s p → (i < length s.cells) × (i < 64) → (w : Option (Entry V)) → in_writes (task_of blank s.memory p) i ≡ w → P (call.Write p i v) (over s.cells (write_by blank s.memory p i v w))
  by_write s P p i v d r h (Some e) a = d.rewrites p i v e r h.0 h.1 a
  by_write s P p i v d r h None a = room s (P (call.Write p i v)) (process s.memory p).sizes.writes _ (d.refuses (call.Write p i v)) (λ k. d.writes p i v r h.0 h.1 a k)

  pub by_deed : (s : State V) (P : Call V → Outcome V → Type 0) → Deeds s P → (c : Call V) → P c (called blank s c)
  by_deed s P d (call.Begin p) = refusal s (P (call.Begin p)) (first_ground (begin_grounds s.memory p)) _ (d.refuses (call.Begin p)) (λ e.
      let a = passed (begin_grounds s.memory p) e in
      d.begins p (here s p a.1.0) (closed_place (process s.memory p).place a.1.1.0) a.1.1.1.0 (let z = eqb-false s.memory.life 0 a.1.1.1.1.0 in omega arith))
  by_deed s P d (call.Read p i) = refusal s (P (call.Read p i)) (item_refusal s p i) _ (d.refuses (call.Read p i)) (λ e.
      let a = passed_both (first_ground (operation_grounds s.memory p)) _ e in
      by_read s P p i d (ready s p a.0) (item_there s i (passed (ground 9 (no_item s.cells i) ∷ []) a.1).0) _ _ refl refl)
  by_deed s P d (call.Write p i v) = refusal s (P (call.Write p i v)) (item_refusal s p i) _ (d.refuses (call.Write p i v)) (λ e.
      let a = passed_both (first_ground (operation_grounds s.memory p)) _ e in
      by_write s P p i v d (ready s p a.0) (item_there s i (passed (ground 9 (no_item s.cells i) ∷ []) a.1).0) _ refl)
  by_deed s P d (call.TryCommit p) = refusal s (P (call.TryCommit p)) (first_ground (operation_grounds s.memory p)) _ (d.refuses (call.TryCommit p)) (λ e. d.tries p (ready s p e))
  by_deed s P d (call.Abort p) = refusal s (P (call.Abort p)) (first_ground (operation_grounds s.memory p)) _ (d.refuses (call.Abort p)) (λ e. d.aborts p (ready s p e))
  by_deed s P d (call.Step p) = refusal s (P (call.Step p)) (first_ground (step_grounds s.memory p)) _ (d.refuses (call.Step p)) (λ e.
      let a = passed (step_grounds s.memory p) e in
      d.steps p (here s p a.1.0) (not-false _ a.1.1.1.0))
