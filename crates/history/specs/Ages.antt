-- What the numbers that a process has read say of those of now.
use Rattle.std.specs.Prelude.{◌≡◌, ℕ, ◌≤◌, List, [], ◌∷◌, Some}
use Rattle.bank.specs.declared.lock.Lock.{Lock}
use Rattle.table.specs.Sets.{find}
use Rattle.table.specs.Tasks.{sequence_or}
use Rattle.table.specs.declared.entry.Entry.{Entry}
use Rattle.rows.specs.declared.place.Place.{Place}
use Rattle.rows.specs.declared.place.Place.TheVariants.{L2, L3}
use Rattle.store.specs.Model.{State}
use Rattle.store.specs.Rows.{owned}
use Rattle.history.specs.Invariants.{Here, Own, own, reads_in, current}

-- what is said of the item and the lock that L2 and L3 remember
abbrev pub Sight : (ℕ → Lock → Type 0) → Place → Type 0
Sight P (L2 i l) = P i l
Sight P (L3 i l) = P i l
Sight P pl = Unit {0}

module _ {V : Type 0} (blank : V) where
  -- no entry has a number above its item's
  abbrev pub NotNewer : State V → List (Entry V) → Type 0
  NotNewer s [] = Unit {0}
  NotNewer s (e ∷ es) = (e.sequence ≤ (current blank s e.item).number) × NotNewer s es

  -- the number that a remembered lock stands for
  abbrev pub seen : State V → ℕ → Lock → ℕ
  seen s i l = sequence_or l.sequence (owned blank s.memory l.owner i)

  -- it is between that of the entry, which was read before, and that of now
  pub record Seen (s : State V) (es : List (Entry V)) (i : ℕ) (l : Lock) : Type 0 where
    pub entry : (e : Entry V) → find i es ≡ Some e → e.sequence ≤ seen s i l
    pub now : seen s i l ≤ (current blank s i).number

  pub record Aged (s : State V) (o : Own V) : Type 0 where
    pub entries : NotNewer s (reads_in o)
    pub sight : Sight (Seen s (reads_in o)) o.process.place

  -- Numbers that a process has read are at most those of now: they were current when they were read, numbers only grow, and no owner that is
  -- remembered begins anew.
  abbrev pub Ages : State V → Type 0
  Ages s = (p : ℕ) → Here s p → Aged s (own s p)
