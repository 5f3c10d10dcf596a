-- What the end of all transactions rests on: every item that is asked of the bank is one of the bank's, and what a transaction has left to do is a number.
use Rattle.std.specs.Prelude.{◌≡◌, ℕ, ◌+◌, ◌-◌, ◌*◌, ◌<◌, Bool, true, false, List, [], ◌∷◌, length, nat_le}
use Rattle.bank.specs.Limits.{set_size}
use Rattle.table.specs.declared.entry.Entry.{Entry}
use Rattle.rows.specs.declared.place.Place.{Place}
use Rattle.rows.specs.declared.place.Place.TheVariants.{Closed, Idle, R1, R2, R3, R4, R5, D1, D2, C, L1, L2, L3, L4, K, W, U, A1, A2, A3}
use Rattle.process.specs.Traits.{traits}
use Rattle.store.specs.Calls.{called}
use Rattle.store.specs.Model.{State, process}
use Rattle.store.specs.declared.calling.Call.TheVariants.{Step}
use Rattle.history.specs.Invariants.{Here, Own, own, reads_in, writes_in, Phase, resting, asking, inside, settling, leaving, past, phase, total, one, data_set}

-- the item of a read under way is one of n
abbrev pub Within : ℕ → Phase → Type 0
Within n resting = Unit {0}
Within n (asking j) = j < n
Within n (inside j) = j < n
Within n (settling j) = j < n
Within n (leaving k) = Unit {0}
Within n past = Unit {0}

module _ {V : Type 0} where
  -- the items of the data set, and the item of a read under way, are among n items
  pub record Celled (n : ℕ) (o : Own V) : Type 0 where
    pub sets : (i : ℕ) → 0 < data_set o i → i < n
    pub reading : Within n (phase o.process.place)

  -- Every item of a data set, and every item that is being read, is one of the bank's: read and write refuse the others, the bank has as many cells
  -- after a call as before, and a read adds the item that it was asked for.
  abbrev pub AllCelled : State V → Type 0
  AllCelled s = (p : ℕ) → Here s p → Celled (length s.cells) (own s p)

-- what a process needs for its next advance: nothing of others, counts of 0, or that an item's lock is free
pub data Need : Type 0 where
  resting_or_reading : Need
  out : Need
  freely : Need
  zeros : Need
  lock : ℕ → Need

abbrev pub need : Place → Need
need Closed = resting_or_reading
need Idle = resting_or_reading
need (R1 i) = resting_or_reading
need (R2 i m) = resting_or_reading
need (R3 i) = resting_or_reading
need (R4 i l) = resting_or_reading
need (R5 i l) = resting_or_reading
need (D1 k a) = out
need (D2 k m a) = out
need C = freely
need (L1 i) = lock i
need (L2 i l) = lock i
need (L3 i l) = lock i
need (L4 i n) = lock i
need K = zeros
need (W k) = freely
need (U i) = freely
need (A1 i z) = freely
need (A2 i n z) = freely
need (A3 z) = freely

abbrev pub ends_by : Need → Bool
ends_by resting_or_reading = false
ends_by out = true
ends_by freely = true
ends_by zeros = true
ends_by (lock i) = true

-- past an accepted try-commit or abort, and not yet ended
abbrev pub is_ending : Place → Bool
is_ending pl = ends_by (need pl)

-- what is left to do at a place, where of each number it is known how many entries of the data set have an item not below it
abbrev pub cost : (ℕ → ℕ) → Place → ℕ
cost l Closed = 0
cost l Idle = 0
cost l (R1 i) = 0
cost l (R2 i m) = 0
cost l (R3 i) = 0
cost l (R4 i k) = 0
cost l (R5 i k) = 0
cost l (D1 k a) = 49 + (set_size - k)
cost l (D2 k m a) = 49 + (set_size - k)
cost l C = 1
cost l (L1 i) = 34 + l (i + 1)
cost l (L2 i k) = 34 + l (i + 1)
cost l (L3 i k) = 34 + l (i + 1)
cost l (L4 i n) = 34 + l (i + 1)
cost l K = 26
cost l (W k) = 17 + (set_size - k)
cost l (U i) = 1 + l (i + 1)
cost l (A1 i z) = 3 + 2 * l (i + 1)
cost l (A2 i n z) = 2 + 2 * l (i + 1)
cost l (A3 z) = 1

module _ {V : Type 0} where
  -- how many of the entries have an item not below i
  abbrev pub from_on : ℕ → List (Entry V) → ℕ
  from_on i [] = 0
  from_on i (e ∷ es) = one (nat_le i e.item) + from_on i es

  -- of the data set
  abbrev pub left : Own V → ℕ → ℕ
  left o i = from_on i (reads_in o) + from_on i (writes_in o)

  abbrev pub weight : Own V → ℕ
  weight o = cost (left o) o.process.place

  -- what all processes have left to do
  abbrev pub todo : State V → ℕ
  todo s = total (λ p. weight (own s p)) s.memory.number

  -- every open transaction is past an accepted try-commit or abort
  abbrev pub AllEnding : State V → Type 0
  AllEnding s = (p : ℕ) → Here s p → (traits (process s.memory p).place).is_open ≡ true → is_ending (process s.memory p).place ≡ true

module _ {V : Type 0} (blank : V) where
  -- what steps of processes leave, the latest first
  abbrev pub stepped_by : State V → List ℕ → State V
  stepped_by s [] = s
  stepped_by s (p ∷ ps) = (called blank (stepped_by s ps) (Step p)).after

  -- some list of steps leaves no transaction open
  pub record Ends (s : State V) : Type 0 where
    pub steps : List ℕ
    pub closed : (p : ℕ) → Here (stepped_by s steps) p → (traits (process (stepped_by s steps).memory p).place).is_open ≡ false
