-- What stands in every state that set-up and any list of calls leave.
use Rattle.std.specs.Prelude.{◌≡◌, ◌⊎◌, ℕ, zero, suc, ◌+◌, ◌*◌, ◌<◌, ◌≤◌, Bool, true, false, cond, not, ◌&&◌, List, [], ◌∷◌, length, take, drop, Some, None, Option, ◌==◌, nat_le, nat_lt, slice_index_or}
use Rattle.std.specs.List.{All}
use Rattle.bank.specs.Cells.{cell_at, storable, storable_count}
use Rattle.bank.specs.Limits.{most_processes, most_sequence, set_size}
use Rattle.bank.specs.declared.lock.Lock.{Lock}
use Rattle.table.specs.Sets.{set_of, find}
use Rattle.table.specs.declared.entry.Entry.{Entry}
use Rattle.table.specs.declared.entry.Part.{Part}
use Rattle.table.specs.declared.entry.Part.TheVariants.{Reads, Writes}
use Rattle.rows.specs.declared.place.Place.{Place}
use Rattle.rows.specs.declared.place.Place.TheVariants.{Closed, Idle, R1, R2, R3, R4, R5, D1, D2, C, L1, L2, L3, L4, K, W, U, A1, A2, A3}
use Rattle.process.specs.Rows.{is_committed}
use Rattle.process.specs.Traits.{traits}
use Rattle.process.specs.declared.record.Process.{Process}
use Rattle.store.specs.Calls.{called}
use Rattle.store.specs.Model.{State, process}
use Rattle.store.specs.Rows.{owned}
use Rattle.store.specs.declared.calling.Call.{Call}

-- the memory is that of a store that was set up: sixteen records, and a part of the table for each process
pub record Formed {V : Type 0} (s : State V) : Type 0 where
  pub sixteen : length s.memory.processes ≡ most_processes
  pub few : s.memory.number ≤ most_processes
  pub long : 2 * set_size * s.memory.number ≤ length s.memory.entries

-- p is a process of the store
pub record Here {V : Type 0} (s : State V) (p : ℕ) : Type 0 where
  pub low : 0 < p
  pub high : p ≤ s.memory.number

-- a process's own: its record, and its two parts of eight entries
pub record Own (V : Type 0) : Type 0 where
  pub process : Process
  pub part : Part → List (Entry V)

module _ {V : Type 0} where
  abbrev pub part : State V → ℕ → Part → List (Entry V)
  part s p a = set_of s.memory.entries p a set_size

  abbrev pub own : State V → ℕ → Own V
  own s p = record { process = process s.memory p; part = part s p }

  -- its sets: the first entries of each part
  abbrev pub reads_in : Own V → List (Entry V)
  reads_in o = take o.process.sizes.reads (o.part Reads)

  abbrev pub writes_in : Own V → List (Entry V)
  writes_in o = take o.process.sizes.writes (o.part Writes)

module _ {V : Type 0} (blank : V) where
  -- what the bank keeps of an item
  abbrev pub count_of : State V → ℕ → ℕ
  count_of s i = (cell_at blank s.cells i).count

  abbrev pub lock_of : State V → ℕ → Lock
  lock_of s i = (cell_at blank s.cells i).lock

  abbrev pub value_of : State V → ℕ → V
  value_of s i = (cell_at blank s.cells i).value

-- how far a process is with its reads
pub data Phase : Type 0 where
  resting : Phase
  asking : ℕ → Phase
  inside : ℕ → Phase
  settling : ℕ → Phase
  leaving : ℕ → Phase
  past : Phase

-- which of the items of its data set a process has locked: none, those below one, all, those from one on, or those from one on and below another
pub data Grip : Type 0 where
  none : Grip
  below : ℕ → Grip
  whole : Grip
  above : ℕ → Grip
  window : ℕ → ℕ → Grip

-- a transaction that aborts because of item c has locked those below c
abbrev pub window_to : ℕ → Option ℕ → Grip
window_to i None = none
window_to i (Some c) = window i c

-- which item a place names: none, one of the data set, one whose number was compared with the read set's, or one that the process has locked
pub data Named : Type 0 where
  nameless : Named
  wanted : ℕ → Named
  compared : ℕ → Named
  gripped : ℕ → Named

-- whether a process is between the lock and the end of a read, with the item and the lock that it remembers
pub data Look : Type 0 where
  away : Look
  fetching : ℕ → Lock → Look
  weighing : ℕ → Lock → Look

-- What a place says of its process, beside its traits: phase and grip; the item that it names; the number that it remembers; whether the transaction is
-- past K's yes; whether a read has put an entry behind the read set; whether a transaction that writes nothing ends here; how many
-- entries the write set has at least; how many of w writes the bank has; and what a read under way remembers.
pub record Stage : Type 0 where
  pub phase : Phase
  pub grip : Grip
  pub named : Named
  pub number : ℕ
  pub late : Bool
  pub noted : ℕ
  pub only : Bool
  pub least : ℕ
  pub written : ℕ → ℕ
  pub look : Look

-- while it reads, or counts out its read set
abbrev pub reads_at : Phase → ℕ → Stage
reads_at ph n = record { phase = ph; grip = none; named = nameless; number = n; late = false; noted = 0; only = false; least = 0; written = λ w. 0; look = away }

-- while it locks items, or gives them up
abbrev pub grips_at : ℕ → Grip → Named → ℕ → Stage
grips_at l g i n = record { phase = past; grip = g; named = i; number = n; late = false; noted = 0; only = false; least = l; written = λ w. 0; look = away }

-- once it has committed
abbrev pub writes_at : ℕ → (ℕ → ℕ) → Grip → Named → Stage
writes_at l f g i = record { phase = past; grip = g; named = i; number = 0; late = true; noted = 0; only = false; least = l; written = f; look = away }

abbrev pub stage : Place → Stage
stage Closed = reads_at past 0
stage Idle = reads_at resting 0
stage (R1 i) = reads_at (asking i) 0
stage (R2 i m) = reads_at (asking i) 0
stage (R3 i) = reads_at (inside i) 0
stage (R4 i l) = record { phase = inside i; grip = none; named = nameless; number = l.sequence; late = false; noted = 0; only = false; least = 0; written = λ w. 0; look = fetching i l }
stage (R5 i l) = record { phase = settling i; grip = none; named = nameless; number = l.sequence; late = false; noted = 1; only = false; least = 0; written = λ w. 0; look = weighing i l }
stage (D1 k abort) = reads_at (leaving k) 0
stage (D2 k m abort) = reads_at (leaving k) 0
stage C = record { phase = past; grip = none; named = nameless; number = 0; late = false; noted = 0; only = true; least = 0; written = λ w. 0; look = away }
stage (L1 i) = grips_at 1 (below i) (wanted i) 0
stage (L2 i l) = grips_at 1 (below i) (wanted i) l.sequence
stage (L3 i l) = grips_at 1 (below i) (wanted i) l.sequence
stage (L4 i n) = grips_at 1 (below i) (compared i) n
stage K = grips_at 1 whole nameless 0
stage (W k) = writes_at (k + 1) (λ w. k) whole nameless
stage (U i) = writes_at 0 (λ w. w) (above i) (wanted i)
stage (A1 i cause) = grips_at 0 (window_to i cause) nameless 0
stage (A2 i n cause) = grips_at 0 (window_to i cause) (gripped i) n
stage (A3 cause) = grips_at 0 none nameless 0

abbrev pub phase : Place → Phase
phase pl = (stage pl).phase

abbrev pub grip : Place → Grip
grip pl = (stage pl).grip

-- the sum over the processes 1 to n
abbrev pub total : (ℕ → ℕ) → ℕ → ℕ
total f zero = 0
total f (suc n) = f (suc n) + total f n

abbrev pub one : Bool → ℕ
one true = 1
one false = 0

-- how many of the entries have the item
abbrev pub times : {V : Type 0} → ℕ → List (Entry V) → ℕ
times i [] = 0
times i (e ∷ es) = one (e.item == i) + times i es

module _ {V : Type 0} where
  -- how often a process with this read set is counted in on the item
  abbrev pub counting : List (Entry V) → Phase → ℕ → ℕ
  counting es resting i = times i es
  counting es (asking j) i = times i es
  counting es (inside j) i = one (j == i) + times i es
  counting es (settling j) i = one (j == i) + times i es
  counting es (leaving k) i = times i (drop k es)
  counting es past i = 0

  -- how often the process is counted in on the item: it is in the read set and not counted out by D2, or in mid-read past R2's yes
  abbrev pub counted : Own V → ℕ → ℕ
  counted o i = counting (reads_in o) (phase o.process.place) i

  -- how many processes are counted in on the item
  abbrev pub counted_in : State V → ℕ → ℕ
  counted_in s i = total (λ p. counted (own s p) i) s.memory.number

  -- of a read part with n entries in its set: a read under way has room, asks for an item that is not in the set, and has noted the item that it
  -- reads behind it; what is counted out is an entry of the set
  abbrev pub SaneAt : List (Entry V) → ℕ → Phase → Type 0
  SaneAt es n resting = Unit {0}
  SaneAt es n (asking j) = (n < set_size) × (times j (take n es) ≡ 0)
  SaneAt es n (inside j) = n < set_size
  SaneAt es n (settling j) = (n < set_size) × ((d : Entry V) → (slice_index_or es n d).item ≡ j)
  SaneAt es n (leaving k) = k < n
  SaneAt es n past = Unit {0}

  -- A process's sets are within their sizes, and its place fits them: read and write look for the item and for room before they add an entry, and
  -- a read adds one at a time.
  pub record Sane (o : Own V) : Type 0 where
    pub reads : o.process.sizes.reads ≤ set_size
    pub writes : o.process.sizes.writes ≤ set_size
    pub at : SaneAt (o.part Reads) o.process.sizes.reads (phase o.process.place)

  -- A process is counted in on no item twice: a read that comes in asks for an item that is not in the read set, and from there on its items only
  -- become fewer.
  abbrev pub Once : Own V → Type 0
  Once o = (i : ℕ) → counted o i ≤ 1

module _ {V : Type 0} (blank : V) where
  -- The count of an item is how many processes are counted in on it: R2 and D2 swap the count from what it is exactly when the process comes in or
  -- goes out, and no other row touches a count or changes who is in.
  abbrev pub Count : State V → Type 0
  Count s = (i : ℕ) → count_of blank s i ≡ counted_in s i

  -- counts, and what they rest on
  pub record Counts (s : State V) : Type 0 where
    pub formed : Formed s
    pub count : Count s
    pub sane : (p : ℕ) → Here s p → Sane (own s p)
    pub once : (p : ℕ) → Here s p → Once (own s p)

-- an open transaction that has not committed
abbrev pub live : Process → ℕ
live q = one ((traits q.place).is_open && not (is_committed q.status))

module _ {V : Type 0} where
  abbrev pub AtMost : ℕ → List (Entry V) → Type 0
  AtMost c es = All (λ (e : Entry V). e.sequence ≤ c) es

  -- Where c transactions have committed, a process has read and remembers numbers of at most c, and would write at most c + 1, as L4 adds one to what
  -- it found. From K's yes on it is committed, and not before: that is one commit more, so what it writes is at most as many as have committed.
  pub record Numbered (c : ℕ) (o : Own V) : Type 0 where
    pub reads : AtMost c (take (o.process.sizes.reads + (stage o.process.place).noted) (o.part Reads))
    pub writes : AtMost (c + 1) (writes_in o)
    pub done : is_committed o.process.status ≡ true → AtMost c (writes_in o)
    pub place : (stage o.process.place).number ≤ c
    pub before : (stage o.process.place).late ≡ false → (traits o.process.place).is_open ≡ true → is_committed o.process.status ≡ false
    pub after : (stage o.process.place).late ≡ true → is_committed o.process.status ≡ true
    pub only : (stage o.process.place).only ≡ true → o.process.sizes.writes ≡ 0

-- of an item that the data set has h times, how many of these are locked
abbrev pub hold : Grip → ℕ → ℕ → ℕ
hold none h i = 0
hold (below j) h i = cond (nat_lt i j) h 0
hold whole h i = h
hold (above j) h i = cond (nat_le j i) h 0
hold (window j c) h i = cond (nat_le j i) (cond (nat_lt i c) h 0) 0

-- the item that a place names is of the data set, or locked
abbrev pub HeldBy : (ℕ → ℕ) → Grip → Named → Type 0
HeldBy h g nameless = Unit {0}
HeldBy h g (wanted i) = 0 < h i
HeldBy h g (compared i) = 0 < h i
HeldBy h g (gripped i) = 0 < hold g (h i) i

abbrev pub HeldAt : (ℕ → ℕ) → Place → Type 0
HeldAt h pl = HeldBy h (stage pl).grip (stage pl).named

-- the items with owner p are those that p has locked
pub record Owns (locks : ℕ → Lock) (h : ℕ → ℕ) (g : Grip) (p : ℕ) : Type 0 where
  pub owner : (i : ℕ) → (locks i).owner ≡ p → 0 < hold g (h i) i
  pub owned : (i : ℕ) → 0 < hold g (h i) i → (locks i).owner ≡ p

module _ {V : Type 0} where
  -- how many entries of the data set have the item
  abbrev pub data_set : Own V → ℕ → ℕ
  data_set o i = times i (reads_in o) + times i (writes_in o)

  abbrev pub OwnsItems : (ℕ → Lock) → Own V → ℕ → Type 0
  OwnsItems locks o p = Owns locks (data_set o) (grip o.process.place) p

module _ {V : Type 0} where
  -- what a place says of its item's number n: L4 remembers what the read set has, and A2 what the lock has
  abbrev pub NumberIs : (ℕ → Lock) → ℕ → List (Entry V) → Named → ℕ → Type 0
  NumberIs locks p es nameless n = Unit {0}
  NumberIs locks p es (wanted i) n = Unit {0}
  NumberIs locks p es (compared i) n = (x : Entry V) → find i es ≡ Some x → x.sequence ≡ n
  NumberIs locks p es (gripped i) n = (locks i).owner ≡ p → n ≡ (locks i).sequence

  -- What a process and the items that it has locked say of each other: the entries of each set are of distinct items; of a locked item the read set has
  -- the lock's number and the write set the next, as L4 put it there; what was written so far is the bank's value. Nobody else touches such an item.
  pub record Tied (locks : ℕ → Lock) (values : ℕ → V) (p : ℕ) (o : Own V) : Type 0 where
    pub reads_once : (i : ℕ) → times i (reads_in o) ≤ 1
    pub writes_once : (i : ℕ) → times i (writes_in o) ≤ 1
    pub enough : (stage o.process.place).least ≤ o.process.sizes.writes
    pub next : (i : ℕ) (x : Entry V) → (locks i).owner ≡ p → find i (writes_in o) ≡ Some x → x.sequence ≡ (locks i).sequence + 1
    pub same : (i : ℕ) (x : Entry V) → (locks i).owner ≡ p → find i (reads_in o) ≡ Some x → x.sequence ≡ (locks i).sequence
    pub kept : (i : ℕ) (x : Entry V) → (locks i).owner ≡ p → find i (take ((stage o.process.place).written o.process.sizes.writes) (o.part Writes)) ≡ Some x → values i ≡ x.value
    pub told : NumberIs locks p (reads_in o) (stage o.process.place).named (stage o.process.place).number

module _ {V : Type 0} (blank : V) where
  -- Numbers stay below 2 ^ 56: at most as many transactions commit as begin, each begin takes one of the life, and no item's number is above how many
  -- have committed.
  pub record Numbers (c : ℕ) (s : State V) : Type 0 where
    pub locks : (i : ℕ) → (lock_of blank s i).sequence ≤ c
    pub each : (p : ℕ) → Here s p → Numbered c (own s p)
    pub life : c + total (λ p. live (process s.memory p)) s.memory.number + s.memory.life ≤ most_sequence

  -- An item's lock has owner p exactly where p has locked it: L4 takes only what is free, U and A2 give up only what is the process's own, and what
  -- they write is always storable; the data set does not change while it is locked.
  pub record Owner (s : State V) : Type 0 where
    pub known : (i : ℕ) → (lock_of blank s i).owner ≤ s.memory.number
    pub each : (p : ℕ) → Here s p → OwnsItems (lock_of blank s) (own s p) p
    pub held : (p : ℕ) → Here s p → HeldAt (data_set (own s p)) (process s.memory p).place

  abbrev pub Ties : State V → Type 0
  Ties s = (p : ℕ) → Here s p → Tied (lock_of blank s) (value_of blank s) p (own s p)

  -- Every count, owner and number is one that the bank stores: no count is above the number of processes, an owner is one of them, and a number is
  -- at most how many transactions have committed.
  abbrev pub Storable : State V → Type 0
  Storable s = (i : ℕ) → (storable_count (count_of blank s i) ≡ true) × (storable (lock_of blank s i) ≡ true)

  -- the invariants together
  pub record Standing (s : State V) : Type 0 where
    pub counts : Counts blank s
    pub commits : ℕ
    pub numbers : Numbers commits s
    pub owner : Owner s

  -- what calls leave, made one after the other, the first of the list first
  abbrev pub left_by : State V → List (Call V) → State V
  left_by s [] = s
  left_by s (c ∷ cs) = left_by (called blank s c).after cs

-- an item's value and number
pub record Shown (V : Type 0) : Type 0 where
  pub value : V
  pub number : ℕ

module _ {V : Type 0} where
  abbrev pub shown : Option (Entry V) → V → ℕ → Shown V
  shown None v n = record { value = v; number = n }
  shown (Some e) v n = record { value = e.value; number = e.sequence }

  -- what a process that has committed has written of the item
  abbrev pub committed_in : Own V → ℕ → Option (Entry V)
  committed_in o i = cond (is_committed o.process.status) (find i (writes_in o)) None

module _ {V : Type 0} (blank : V) where
  -- the current value and number of an item: those that its owner has committed, if it has written it, else the bank's
  abbrev pub current : State V → ℕ → Shown V
  current s i = shown (owned blank s.memory (lock_of blank s i).owner i) (value_of blank s i) (lock_of blank s i).sequence

  -- from s to t a process has committed: it was before K, nobody was counted in on what it writes, and exactly the items that it writes have its values
  -- now, with numbers one higher
  pub record Commits (s t : State V) : Type 0 where
    pub by : ℕ
    pub here : Here s by
    pub place : (process s.memory by).place ≡ K
    pub clear : (i : ℕ) → 0 < times i (writes_in (own s by)) → (q : ℕ) → Here s q → counted (own s q) i ≡ 0
    pub locked : (i : ℕ) → 0 < times i (writes_in (own s by)) → (lock_of blank s i).owner ≡ by
    pub new : (i : ℕ) (x : Entry V) → find i (writes_in (own s by)) ≡ Some x → current t i ≡ record { value = x.value; number = (current s i).number + 1 }
    pub old : (i : ℕ) → find i (writes_in (own s by)) ≡ None → current t i ≡ current s i

  -- A call changes no current value and number, but where a transaction commits: each row is of one of six sorts, of which only K's yes puts an entry
  -- in the bank's place; what is written to the bank then, and what is unlocked, was current before.
  abbrev pub Changes : State V → State V → Type 0
  Changes s t = ((i : ℕ) → current t i ≡ current s i) ⊎ Commits s t

module _ {V : Type 0} where
  abbrev pub as_shown : Entry V → Shown V
  as_shown x = record { value = x.value; number = x.sequence }

  -- the entries of the read set that the process is counted in on
  abbrev pub counted_entries : List (Entry V) → Phase → List (Entry V)
  counted_entries es resting = es
  counted_entries es (asking j) = es
  counted_entries es (inside j) = es
  counted_entries es (settling j) = es
  counted_entries es (leaving k) = drop k es
  counted_entries es past = []

module _ {V : Type 0} (blank : V) where
  -- each entry is the current value and number of its item
  abbrev pub AllCurrent : State V → List (Entry V) → Type 0
  AllCurrent s [] = Unit {0}
  AllCurrent s (e ∷ es) = (as_shown e ≡ current blank s e.item) × AllCurrent s es

  -- a remembered owner is past its reads, or has ended and not begun anew; what it has committed of the item is current
  pub record Remembers (s : State V) (i o : ℕ) : Type 0 where
    pub known : o ≤ s.memory.number
    pub behind : 0 < o → phase (process s.memory o).place ≡ past
    pub some : (x : Entry V) → owned blank s.memory o i ≡ Some x → as_shown x ≡ current blank s i

  -- in mid-read: if the remembered owner has committed nothing of the item, the bank's value and the number read, or the entry noted, are current
  abbrev pub Mid : State V → List (Entry V) → ℕ → Look → Type 0
  Mid s es r away = Unit {0}
  Mid s es r (fetching i l) = Remembers s i l.owner × (owned blank s.memory l.owner i ≡ None → (owned blank s.memory (lock_of blank s i).owner i ≡ None) × ((current blank s i).number ≡ l.sequence))
  Mid s es r (weighing i l) = Remembers s i l.owner × (owned blank s.memory l.owner i ≡ None → (d : Entry V) → as_shown (slice_index_or es r d) ≡ current blank s i)

  -- What a process has read is current while it is counted in, and so is what a read under way will end with: nobody commits a write of an item on
  -- which somebody is counted in, and no owner that is remembered begins anew.
  pub record Fresh (s : State V) (o : Own V) : Type 0 where
    pub entries : AllCurrent s (counted_entries (reads_in o) (phase o.process.place))
    pub mid : Mid s (o.part Reads) o.process.sizes.reads (stage o.process.place).look

  abbrev pub Freshes : State V → Type 0
  Freshes s = (p : ℕ) → Here s p → Fresh s (own s p)
