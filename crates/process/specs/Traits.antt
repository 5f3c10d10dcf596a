-- What a place says of its process: one table for all questions about places.
use Rattle.std.specs.Prelude.{ℕ, ◌+◌, ◌≤◌, Bool, true, false, nat_lt}
use Rattle.bank.specs.Limits.{set_size}
use Rattle.rows.specs.declared.place.Place.{Place}
use Rattle.rows.specs.declared.place.Place.TheVariants.{Closed, Idle, R1, R2, R3, R4, R5, D1, D2, C, L1, L2, L3, L4, K, W, U, A1, A2, A3}
use Rattle.process.specs.declared.record.Process.{Process}
use Rattle.process.specs.declared.record.Status.TheVariants.{Null}

-- whether a transaction is open, whether an operation is under way, which owner the process remembers (0 for none),
-- and how many entries the operation under way will add to the read set
pub record Traits : Type 0 where
  pub is_open : Bool
  pub under_way : Bool
  pub owner : ℕ
  pub ahead : ℕ

abbrev pub reading : ℕ → Traits
reading owner = record { is_open = true; under_way = true; owner = owner; ahead = 1 }

abbrev pub ending : ℕ → Traits
ending owner = record { is_open = true; under_way = true; owner = owner; ahead = 0 }

abbrev pub traits : Place → Traits
traits Closed = record { is_open = false; under_way = false; owner = 0; ahead = 0 }
traits Idle = record { is_open = true; under_way = false; owner = 0; ahead = 0 }
traits (R1 i) = reading 0
traits (R2 i m) = reading 0
traits (R3 i) = reading 0
traits (R4 i l) = reading l.owner
traits (R5 i l) = reading l.owner
traits (D1 k abort) = ending 0
traits (D2 k m abort) = ending 0
traits C = ending 0
traits (L1 i) = ending 0
traits (L2 i l) = ending l.owner
traits (L3 i l) = ending l.owner
traits (L4 i n) = ending 0
traits K = ending 0
traits (W k) = ending 0
traits (U i) = ending 0
traits (A1 i cause) = ending 0
traits (A2 i n cause) = ending 0
traits (A3 cause) = ending 0

-- a process that never began
abbrev pub fresh : Process
fresh = record { status = Null; sizes = record { reads = 0; writes = 0 }; place = Closed }

-- neither set is larger than eight, and a read under way has room for its entry
abbrev pub Fits : Process → Type 0
Fits q = (q.sizes.reads + (traits q.place).ahead ≤ set_size) × (q.sizes.writes ≤ set_size)

-- a read is under way, and its entry finds no room
abbrev pub full : Process → Bool
full q = nat_lt set_size (q.sizes.reads + (traits q.place).ahead)
