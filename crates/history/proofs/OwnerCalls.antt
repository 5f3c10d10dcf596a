-- An item's owner is the process that has locked it, and all that the bank keeps is storable, after set-up and every list of calls.
use Rattle.std.proofs.Common.{◌≡◌, ℕ, ◌-◌, ◌^◌, ◌<◌, true, false, sym, refl, ap, subst, arith}
use Rattle.std.proofs.lemmas.Bool.{and_from, le-leb}
use Rattle.table.specs.Tasks.{write_slot}
use Rattle.table.specs.declared.entry.Part.TheVariants.{Writes}
use Rattle.rows.specs.Primitives.{still}
use Rattle.rows.specs.declared.place.Place.{Place}
use Rattle.rows.specs.declared.place.Place.TheVariants.{R1}
use Rattle.process.specs.Moves.{Note, keep, put}
use Rattle.process.specs.Tells.{Told, done, going}
use Rattle.process.specs.Traits.{traits}
use Rattle.process.specs.declared.record.Process.{Process}
use Rattle.store.specs.Calls.{older, called}
use Rattle.store.specs.Model.{State, process, task_of, moved}
use Rattle.store.specs.Rows.{row}
use Rattle.store.specs.declared.calling.Call.{Call}
use Rattle.history.specs.Invariants.{Formed, Here, own, none, grip, hold, HeldAt, data_set, Owner, Storable, Standing}
use Rattle.history.proofs.Views.{RealNote, real_said, after_own}
use Rattle.history.proofs.Sums.{slot_found, slot_none}
use Rattle.history.proofs.Deeds.{Deeds, Ready, by_deed, write_move, start_move}
use Rattle.history.proofs.Counting.{Good, row_good}
use Rattle.history.proofs.CountCalls.{counts_call, Fresh, counts_fresh, count_few, writes_long}
use Rattle.history.proofs.NumberCalls.{SomeNumbers, numbers_call, numbers_fresh, number_small}
use Rattle.history.proofs.Locking.{Kept, owner_move, row_kept, from_held}

module _ {V : Type 0} (blank : V) where
  owner_step : (s : State V) (p : ℕ) → Standing blank s → Here s p → (traits (process s.memory p).place).under_way ≡ true → Owner blank (moved blank s p (row blank s p))
  owner_step s p v h u =
      let sn = v.counts.sane p h in
      let g : Good blank s p (process s.memory p).place (row blank s p) = row_good blank s p v.counts.formed h sn.reads sn.writes (process s.memory p).place u sn.at in
      let k : Kept blank s p v.counts h (row blank s p) = row_kept blank s p v.counts h v.commits v.numbers (process s.memory p).place refl u (v.owner.each p h) (v.owner.held p h) in
      owner_move blank s p (row blank s p) v.counts.formed h (real_said blank s.cells _) g.note k.fair k.owns k.held v.owner

  -- a call of a process that has locked nothing, and has not then
  owner_still : (s : State V) (p : ℕ) (w : Told V) (q : Process) (n : Note V) → Formed s → Owner blank s → Here s p → RealNote n → grip (process s.memory p).place ≡ none
      → ((i : ℕ) → hold (grip q.place) (data_set (after_own (own s p) (record { tells = w; process = q; touch = still; note = n })) i) i ≡ 0)
      → HeldAt (data_set (after_own (own s p) (record { tells = w; process = q; touch = still; note = n }))) q.place
      → Owner blank (moved blank s p (record { tells = w; process = q; touch = still; note = n }))
  owner_still s p w q n f o h rn g k hd =
      owner_move blank s p (record { tells = w; process = q; touch = still; note = n }) f h tt rn tt
      (record { owner = λ i x. absurd (let y = rw g at ((o.each p h).owner i x) in omega arith); owned = λ i x. absurd (let y = k i in omega arith) })
      hd o

  pub older_owner : (s : State V) → Owner blank s → Owner blank (older blank s)
  older_owner s o = record { known = o.known; each = λ p h. o.each p (record { low = h.low; high = h.high }); held = λ p h. o.held p (record { low = h.low; high = h.high }) }

  module _ (s : State V) (v : Standing blank s) where
    rests : (p : ℕ) (r : Ready s p) (pl : Place) → ((i : ℕ) → hold (grip pl) (data_set (own s p) i) i ≡ 0) × HeldAt (data_set (own s p)) pl → Owner blank (moved blank s p (start_move (process s.memory p) pl))
    rests p r pl k = owner_still s p going _ keep v.counts.formed v.owner r.at tt (ap grip r.rests) k.0 k.1

    writes_owner : (p i m : ℕ) (x : V) (r : Ready s p) → write_slot (task_of blank s.memory p) i < 8 → Owner blank (moved blank s p (write_move (process s.memory p) (task_of blank s.memory p) i x m))
    writes_owner p i m x r l =
        owner_still s p done _ (put Writes (write_slot (task_of blank s.memory p) i) _) v.counts.formed v.owner r.at l (ap grip r.rests)
        (λ j. ap (λ g. hold g (data_set (after_own (own s p) (write_move (process s.memory p) (task_of blank s.memory p) i x m)) j) j) (ap grip r.rests))
        (subst (HeldAt _) (sym r.rests) tt)

    owner_deeds : Deeds blank s (λ c o. Owner blank o.after)
    owner_deeds =
        record {
          refuses = λ c k. v.owner;
          begins = λ p h e m l. owner_still (older blank s) p done _ keep (record { sixteen = v.counts.formed.sixteen; few = v.counts.formed.few; long = v.counts.formed.long }) (older_owner s v.owner) (record { low = h.low; high = h.high }) tt (ap grip e) (λ i. refl) tt;
          finds_write = λ p i e r b c w. v.owner;
          finds_read = λ p i e r b c w f. v.owner;
          reads = λ p i r b c w f k. rests p r (R1 i) (λ j. refl, tt);
          rewrites = λ p i x e r b c w. writes_owner p i _ x r (let a = (slot_found i (task_of blank s.memory p).writes e e w).0 in let l = writes_long blank s v.counts p r.at in let z = (v.counts.sane p r.at).writes in omega arith);
          writes = λ p i x r b c w k. writes_owner p i _ x r (let a = slot_none i (task_of blank s.memory p).writes w in let l = writes_long blank s v.counts p r.at in omega arith);
          tries = λ p r. rests p r _ (from_held blank s p v.counts r.at 0 false);
          aborts = λ p r. rests p r _ (from_held blank s p v.counts r.at 0 true);
          steps = λ p h u. owner_step s p v h u;
        }

  pub standing_call : (s : State V) (c : Call V) → Standing blank s → Standing blank (called blank s c).after
  standing_call s c v =
      let n : SomeNumbers blank (called blank s c).after = numbers_call blank s c v.counts (v.commits, v.numbers) in
      record { counts = counts_call blank s c v.counts; commits = n.0; numbers = n.1; owner = by_deed blank s (λ c o. Owner blank o.after) (owner_deeds s v) c }

  pub standing_fresh : (s : State V) → Fresh blank s → Standing blank s
  standing_fresh s f =
      let n : SomeNumbers blank s = numbers_fresh blank s f in
      record {
        counts = counts_fresh blank s f;
        commits = n.0;
        numbers = n.1;
        owner = record {
          known = λ i. let a = f.owners i in omega arith;
          each = λ p h. record { owner = λ i e. absurd (let a = f.owners i in let b = h.low in omega arith); owned = λ i x. absurd (let y = rw (f.none p) at x in omega arith) };
          held = λ p h. rw (f.none p) tt;
        };
      }

  pub storable_standing : (s : State V) → Standing blank s → Storable blank s
  storable_standing s v i = (
    le-leb _ 16 (count_few blank s v.counts i),
    and_from _ _ (le-leb _ 16 (let a = v.owner.known i in let b = v.counts.formed.few in omega arith)) (le-leb _ (2 ^ 56 - 1) (number_small blank s (v.commits, v.numbers) i)),
  )
