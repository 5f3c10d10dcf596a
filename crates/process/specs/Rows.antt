-- The rows: what follows from a process's place, the remembered owner's entry and the bank's reply.
use Rattle.std.specs.Prelude.{ℕ, ◌+◌, ◌-◌, Bool, true, false, cond, ◌||◌, List, Some, None, Option, ◌==◌, nat_lt, slice_index_or}
use Rattle.bank.specs.declared.lock.Lock.{Lock}
use Rattle.bank.specs.declared.record.Record.{Record}
use Rattle.table.specs.Tasks.{Task, write_slot, next_item, sequence_or}
use Rattle.table.specs.declared.entry.Entry.{Entry}
use Rattle.table.specs.declared.entry.Part.TheVariants.{Reads, Writes}
use Rattle.rows.specs.Places.{asked, lock_to, abort_to, count_from, compared, seen_to, released}
use Rattle.rows.specs.Primitives.{replied, lock_in, value_in, count_in, said, touching, if_said}
use Rattle.rows.specs.declared.asking.Reply.{Reply}
use Rattle.rows.specs.declared.place.Place.{Place}
use Rattle.rows.specs.declared.place.Place.TheVariants.{Closed, Idle, R1, R2, R3, R4, R5, D1, D2, C, L1, L2, L3, L4, K, W, U, A1, A2, A3}
use Rattle.process.specs.Moves.{Note, keep, put, Move}
use Rattle.process.specs.Tells.{Told, going, waiting, value, committed, aborted}
use Rattle.process.specs.Traits.{fresh}
use Rattle.process.specs.declared.record.Process.{Process}
use Rattle.process.specs.declared.record.Status.{Status}
use Rattle.process.specs.declared.record.Status.TheVariants.{Null, Committed, Aborted}

abbrev pub placed : Process → Place → Process
placed q pl = record { status = q.status; sizes = q.sizes; place = pl }

-- the status becomes st
abbrev pub decided : Process → Status → Place → Process
decided q st pl = record { status = st; sizes = q.sizes; place = pl }

-- the read set has one entry more
abbrev pub read_one : Process → Process
read_one q = record { status = q.status; sizes = record { reads = q.sizes.reads + 1; writes = q.sizes.writes }; place = Idle }

abbrev pub is_committed : Status → Bool
is_committed Null = false
is_committed Committed = true
is_committed Aborted = false

-- the w-th of so many processes; one that there is not is as one that never began
abbrev pub among : List Process → ℕ → ℕ → Process
among ps number w = cond (w == 0 || nat_lt number w) fresh (slice_index_or ps (w - 1) fresh)

-- what follows, but for the touch of the bank
pub record Turn (V : Type 0) : Type 0 where
  pub tells : Told V
  pub process : Process
  pub note : Note V

module _ {V : Type 0} (q : Process) where
  abbrev pub go : Place → Turn V
  go pl = record { tells = going; process = placed q pl; note = keep }

  abbrev pub wait : Place → Turn V
  wait pl = record { tells = waiting; process = placed q pl; note = keep }

  abbrev pub ends : Status → Told V → Turn V
  ends st said_last = record { tells = said_last; process = decided q st Closed; note = keep }

  -- the read ends with a value; the entry that the note leaves after the read set joins it
  abbrev pub read_ends : V → Note V → Turn V
  read_ends v n = record { tells = value v; process = read_one q; note = n }

  -- the next item of the data set is unlocked; after the last the transaction ends
  abbrev pub unlock_to : Option ℕ → Turn V
  unlock_to None = ends Committed committed
  unlock_to (Some i) = go (U i)

module _ {V : Type 0} (q : Process) (t : Task V) where
  -- R4: the value goes into the entry after the read set, with item and number
  abbrev pub fetched : ℕ → Lock → V → Turn V
  fetched i l v =
      let n : Note V = put Reads t.sizes.reads (record { item = i; sequence = l.sequence; value = v }) in
      cond (l.owner == 0) (read_ends q v n) (record { tells = going; process = placed q (R5 i l); note = n })

  -- R5: the owner's entry, if it has one, goes there in its place
  abbrev pub settled : Option (Entry V) → Turn V
  settled None = read_ends q (t.entry Reads t.sizes.reads).value keep
  settled (Some e) = read_ends q e.value (put Reads t.sizes.reads e)

  -- the item's entry of the write set, if there is one, takes the number
  abbrev pub numbered : ℕ → ℕ → Note V
  numbered i n =
      cond (nat_lt (write_slot t i) t.sizes.writes) (put Writes (write_slot t i) (record { item = i; sequence = n; value = (t.entry Writes (write_slot t i)).value })) keep

  -- L4, if the lock was taken
  abbrev pub locked : ℕ → ℕ → Turn V
  locked i n = record { tells = going; process = placed q (lock_to (next_item t (i + 1))); note = numbered i (n + 1) }

  -- W: the next entry of the write set; after the last the items are unlocked
  abbrev pub written_to : ℕ → Turn V
  written_to k = cond (nat_lt (k + 1) t.sizes.writes) (go q (W (k + 1))) (unlock_to q (next_item t 0))

  abbrev pub next_at : V → Place → Option (Entry V) → Reply V → Turn V
  next_at blank Closed e r = go q Closed
  next_at blank Idle e r = go q Idle
  next_at blank (R1 i) e r = go q (R2 i (count_in r))
  next_at blank (R2 i m) e r = cond (said r) (go q (R3 i)) (wait q (R1 i))
  next_at blank (R3 i) e r = go q (R4 i (lock_in r))
  next_at blank (R4 i l) e r = fetched i l (value_in blank r)
  next_at blank (R5 i l) e r = settled e
  next_at blank (D1 k abort) e r = go q (D2 k (count_in r) abort)
  next_at blank (D2 k m abort) e r = cond (said r) (go q (count_from t (k + 1) abort)) (wait q (D1 k abort))
  next_at blank C e r = ends q Committed committed
  next_at blank (L1 i) e r = go q (L2 i (lock_in r))
  next_at blank (L2 i l) e r = go q (seen_to t i l)
  next_at blank (L3 i l) e r = go q (compared t i (sequence_or l.sequence e))
  next_at blank (L4 i n) e r = cond (said r) (locked i n) (wait q (L1 i))
  next_at blank K e r = cond (said r) (record { tells = going; process = decided q Committed (W 0); note = keep }) (wait q K)
  next_at blank (W k) e r = written_to k
  next_at blank (U i) e r = unlock_to q (next_item t (i + 1))
  next_at blank (A1 i cause) e r = go q (released t i (lock_in r) cause)
  next_at blank (A2 i n cause) e r = go q (abort_to cause (next_item t (i + 1)))
  next_at blank (A3 cause) e r = ends q Aborted (aborted cause)

module _ {V : Type 0} (blank : V) where
  -- the move of a process over the cells of the bank
  abbrev pub move : List (Record V) → Process → Task V → Option (Entry V) → Move V
  move cs q t e =
      let r : Reply V = replied blank cs (asked t q.place) in
      let u : Turn V = next_at q t blank q.place e r in
      record { tells = u.tells; process = u.process; touch = if_said (said r) (touching (asked t q.place)); note = u.note }
