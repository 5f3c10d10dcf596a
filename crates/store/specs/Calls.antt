-- The calls: on which grounds each is refused, in order, and what an accepted one does.
use Rattle.std.specs.Prelude.{ℕ, ◌+◌, ◌-◌, ◌*◌, Bool, true, false, cond, not, ◌&&◌, ◌||◌, List, [], ◌∷◌, ◌++◌, map, length, replicate, Some, None, Option, ◌==◌, nat_le, nat_lt}
use Rattle.std.specs.List.{list_any, enumerate_from}
use Rattle.bank.specs.Limits.{most_items, most_processes, most_sequence, set_size}
use Rattle.bank.specs.declared.record.Record.{Record}
use Rattle.table.specs.Tasks.{in_reads, in_writes, write_slot}
use Rattle.table.specs.declared.entry.Entry.{Entry}
use Rattle.table.specs.declared.entry.Part.TheVariants.{Writes}
use Rattle.rows.specs.Places.{count_from}
use Rattle.rows.specs.Primitives.{still}
use Rattle.rows.specs.declared.place.Place.{Place}
use Rattle.rows.specs.declared.place.Place.TheVariants.{Idle, R1}
use Rattle.upkeep.specs.Upkeep.{cleared}
use Rattle.store.specs.Model.{Memory, State, Outcome, process, task_of, with_own, accepted}
use Rattle.process.specs.Moves.{keep, put}
use Rattle.store.specs.Rows.{row}
use Rattle.process.specs.Rows.{placed}
use Rattle.process.specs.Tells.{Told, done, going, value, refused}
use Rattle.process.specs.Traits.{traits, fresh}
use Rattle.store.specs.declared.calling.Call.{Call}
use Rattle.store.specs.declared.calling.Call.TheVariants as call
use Rattle.process.specs.declared.record.Process.{Process}
use Rattle.process.specs.declared.record.Status.TheVariants.{Null}

-- a ground for a refusal: its number, and whether it holds
pub record Ground : Type 0 where
  pub number : ℕ
  pub holds : Bool

abbrev pub ground : ℕ → Bool → Ground
ground n b = record { number = n; holds = b }

-- the number of the first ground that holds
abbrev pub first_ground : List Ground → Option ℕ
first_ground [] = None
first_ground (g ∷ gs) = cond g.holds (Some g.number) (first_ground gs)

-- the first refusal, else the second
abbrev pub or_else : Option ℕ → Option ℕ → Option ℕ
or_else None second = second
or_else (Some n) second = Some n

-- a process, numbered `at`, remembers p and is not p itself
abbrev pub holds_up : ℕ → Process → ℕ → Bool
holds_up at q p = not (at == p) && (traits q.place).owner == p

-- one of the processes, numbered from 1 on, holds up p
abbrev pub remembered : List Process → ℕ → Bool
remembered qs p = list_any (λ x. holds_up (x.0 + 1) x.1 p) (enumerate_from 0 qs)

abbrev pub outside : ℕ → ℕ → ℕ → Bool
outside low high n = nat_lt n low || nat_lt high n

-- the write set has n entries
abbrev pub with_writes : Process → ℕ → Process
with_writes q n = record { status = q.status; sizes = record { reads = q.sizes.reads; writes = n }; place = q.place }

module _ {V : Type 0} where
  -- a refusal changes nothing
  abbrev pub unless : Option ℕ → State V → Outcome V → Outcome V
  unless (Some n) s o = record { tells = refused n; after = s }
  unless None s o = o

  abbrev pub short_table : List (Entry V) → ℕ → Bool
  short_table es number = nat_lt (length es) (2 * set_size * number)

  abbrev pub no_process : Memory V → ℕ → Bool
  no_process s p = p == 0 || nat_lt s.number p

  abbrev pub open_at : Memory V → ℕ → Bool
  open_at s p = (traits (process s p).place).is_open

  abbrev pub under_way_at : Memory V → ℕ → Bool
  under_way_at s p = (traits (process s p).place).under_way

  -- of every call of a process
  abbrev pub known_grounds : Memory V → ℕ → List Ground
  known_grounds s p = ground 1 (short_table s.entries s.number) ∷ ground 2 (no_process s p) ∷ []

  -- of every call of an open transaction
  abbrev pub open_grounds : Memory V → ℕ → List Ground
  open_grounds s p = known_grounds s p ++ ground 4 (not (open_at s p)) ∷ []

  abbrev pub begin_grounds : Memory V → ℕ → List Ground
  begin_grounds s p = known_grounds s p ++ ground 3 (open_at s p) ∷ ground 7 (remembered s.processes p) ∷ ground 8 (s.life == 0) ∷ []

  abbrev pub step_grounds : Memory V → ℕ → List Ground
  step_grounds s p = open_grounds s p ++ ground 6 (not (under_way_at s p)) ∷ []

  -- of read, write, try-commit and abort
  abbrev pub operation_grounds : Memory V → ℕ → List Ground
  operation_grounds s p = open_grounds s p ++ ground 5 (under_way_at s p) ∷ []

  abbrev pub no_item : List (Record V) → ℕ → Bool
  no_item cs i = nat_le (length cs) i || nat_le most_items i

  -- what read and write have in common
  abbrev pub item_refusal : State V → ℕ → ℕ → Option ℕ
  item_refusal s p i = or_else (first_ground (operation_grounds s.memory p)) (first_ground (ground 9 (no_item s.cells i) ∷ []))

-- what a call that leaves the bank alone tells, and what it leaves of the rest
pub record Reached (V : Type 0) : Type 0 where
  pub tells : Told V
  pub memory : Memory V

module _ {V : Type 0} where
  abbrev pub reached : Told V → Memory V → Reached V
  reached t s = record { tells = t; memory = s }

  abbrev pub over : List (Record V) → Reached V → Outcome V
  over cs r = record { tells = r.tells; after = record { cells = cs; memory = r.memory } }

  -- refusal 10: a new entry is needed, and the set has no room
  abbrev pub unless_full : ℕ → Memory V → Reached V → Reached V
  unless_full size s r = cond (nat_le set_size size) (record { tells = refused 10; memory = s }) r

module _ {V : Type 0} (blank : V) where
  -- one begin fewer is left
  abbrev pub older : State V → State V
  older s =
      record {
        cells = s.cells;
        memory = record { processes = s.memory.processes; number = s.memory.number; life = s.memory.life - 1; entries = s.memory.entries };
      }

  -- the sets are emptied and the status is null
  abbrev pub begin : State V → ℕ → Outcome V
  begin s p =
      unless (first_ground (begin_grounds s.memory p)) s
      (accepted blank (older s) p (record { tells = done; process = record { status = Null; sizes = record { reads = 0; writes = 0 }; place = Idle }; touch = still; note = keep }))

  -- the process goes on at a place
  abbrev pub starts : State V → ℕ → Place → Outcome V
  starts s p pl = accepted blank s p (record { tells = going; process = placed (process s.memory p) pl; touch = still; note = keep })

  -- an item in the write set or the read set is answered at once; else the read starts, if the read set has room
  abbrev pub read_by : Memory V → ℕ → ℕ → Option (Entry V) → Option (Entry V) → Reached V
  read_by s p i (Some e) found = record { tells = value e.value; memory = s }
  read_by s p i None (Some e) = record { tells = value e.value; memory = s }
  read_by s p i None None = unless_full (process s p).sizes.reads s (record { tells = going; memory = with_own s p (placed (process s p) (R1 i)) keep })

  abbrev pub read : State V → ℕ → ℕ → Outcome V
  read s p i = unless (item_refusal s p i) s (over s.cells (read_by s.memory p i (in_writes (task_of blank s.memory p) i) (in_reads (task_of blank s.memory p) i)))

  -- the value goes into the item's entry of the write set, or into a new one, if there is room
  abbrev pub written : Memory V → ℕ → ℕ → V → ℕ → Reached V
  written s p i v n =
      record {
        tells = done;
        memory = with_own s p (with_writes (process s p) n) (put Writes (write_slot (task_of blank s p) i) (record { item = i; sequence = 0; value = v }));
      }

  abbrev pub write_by : Memory V → ℕ → ℕ → V → Option (Entry V) → Reached V
  write_by s p i v (Some e) = written s p i v (process s p).sizes.writes
  write_by s p i v None = unless_full (process s p).sizes.writes s (written s p i v ((process s p).sizes.writes + 1))

  abbrev pub write : State V → ℕ → ℕ → V → Outcome V
  write s p i v = unless (item_refusal s p i) s (over s.cells (write_by s.memory p i v (in_writes (task_of blank s.memory p) i)))

  -- the end of the transaction starts: the read set is counted out, and then to abort or to commit
  abbrev pub closes : State V → ℕ → Bool → Outcome V
  closes s p aborting = unless (first_ground (operation_grounds s.memory p)) s (starts s p (count_from (task_of blank s.memory p) 0 aborting))

  abbrev pub try_commit : State V → ℕ → Outcome V
  try_commit s p = closes s p false

  abbrev pub abort : State V → ℕ → Outcome V
  abort s p = closes s p true

  abbrev pub step : State V → ℕ → Outcome V
  step s p = unless (first_ground (step_grounds s.memory p)) s (accepted blank s p (row blank s p))

module _ {V : Type 0} where
  abbrev pub set_up_grounds : State V → ℕ → ℕ → List Ground
  set_up_grounds s number life =
      ground 11 (outside 1 most_items (length s.cells) || (outside 1 most_processes number || outside 1 most_sequence life))
      ∷ ground 1 (short_table s.memory.entries number)
      ∷ []

  -- every lock and count is 0, the values stay, and no transaction is open
  abbrev pub set_up : State V → ℕ → ℕ → Outcome V
  set_up s number life =
      unless (first_ground (set_up_grounds s number life)) s
      (record {
        tells = done;
        after =
            record {
              cells = map cleared s.cells;
              memory = record { processes = replicate most_processes fresh; number = number; life = life; entries = s.memory.entries };
            };
      })

module _ {V : Type 0} (blank : V) where
  -- a call as a value
  abbrev pub called : State V → Call V → Outcome V
  called s (call.Begin p) = begin blank s p
  called s (call.Read p i) = read blank s p i
  called s (call.Write p i v) = write blank s p i v
  called s (call.TryCommit p) = try_commit blank s p
  called s (call.Abort p) = abort blank s p
  called s (call.Step p) = step blank s p
