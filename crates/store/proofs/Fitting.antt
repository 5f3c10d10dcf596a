-- No row and no call makes a set larger than eight.
use Rattle.std.proofs.Common.{◌≡◌, ℕ, zero, suc, ◌+◌, ◌≤◌, Bool, true, false, cond, eqb, ltb, List, [], ◌∷◌, get_or, set, replicate, Some, None, Option, refl, arith}
use Rattle.bank.specs.declared.lock.Lock.{Lock}
use Rattle.bank.specs.declared.record.Record.{Record}
use Rattle.table.specs.Tasks.{Task, in_reads, next_item, sequence_or}
use Rattle.table.specs.declared.entry.Entry.{Entry}
use Rattle.rows.specs.Places.{asked, lock_to, abort_to, counted_out, count_from, compared_with, compared, seen_to, released}
use Rattle.rows.specs.Primitives.{replied, lock_in, count_in, said}
use Rattle.rows.specs.declared.asking.Reply.{Reply}
use Rattle.rows.specs.declared.place.Place.{Place}
use Rattle.rows.specs.declared.place.Place.TheVariants.{Closed, Idle, R1, R2, R3, R4, R5, D1, D2, C, L1, L2, L3, L4, K, W, U, A1, A2, A3}
use Rattle.process.specs.Rows.{Turn, placed, go, wait, locked, unlock_to, next_at, move}
use Rattle.process.specs.Traits.{traits, fresh, full, Fits}
use Rattle.process.specs.Turns.{Stepped, stepped}
use Rattle.process.specs.declared.record.Process.{Process}

pub fits_set : (ps : List Process) (i : ℕ) (q : Process) → ((k : ℕ) → Fits (get_or ps k fresh)) → Fits q → (k : ℕ) → Fits (get_or (set ps i q) k fresh)
fits_set [] i q h f k = h k
fits_set (p ∷ ps) zero q h f zero = f
fits_set (p ∷ ps) zero q h f (suc k) = h (suc k)
fits_set (p ∷ ps) (suc i) q h f zero = h zero
fits_set (p ∷ ps) (suc i) q h f (suc k) = fits_set ps i q (λ j. h (suc j)) f k

pub fits_fresh : (n k : ℕ) → Fits (get_or (replicate n fresh) k fresh)
fits_fresh zero k = (omega arith, omega arith)
fits_fresh (suc n) zero = (omega arith, omega arith)
fits_fresh (suc n) (suc k) = fits_fresh n k

-- places from which nothing is added to the read set
abbrev pub Quiet : Place → Type 0
Quiet pl = (traits pl).ahead ≡ 0

either : (b : Bool) (x y : Place) → Quiet x → Quiet y → Quiet (cond b x y)
either true x y h k = h
either false x y h k = k

lock_quiet : (x : Option ℕ) → Quiet (lock_to x)
lock_quiet None = refl
lock_quiet (Some i) = refl

abort_quiet : (z x : Option ℕ) → Quiet (abort_to z x)
abort_quiet z None = refl
abort_quiet z (Some i) = refl

module _ {V : Type 0} (t : Task V) where
  out_quiet : (a : Bool) → Quiet (counted_out t a)
  out_quiet true = abort_quiet None (next_item t 0)
  out_quiet false = either (eqb t.sizes.writes 0) C (lock_to (next_item t 0)) refl (lock_quiet (next_item t 0))

  pub count_quiet : (k : ℕ) (a : Bool) → Quiet (count_from t k a)
  count_quiet k a = either (ltb k t.sizes.reads) (D1 k a) (counted_out t a) refl (out_quiet a)

  compared_quiet : (i n : ℕ) (e : Option (Entry V)) → Quiet (compared_with t i n e)
  compared_quiet i n None = refl
  compared_quiet i n (Some e) = either (eqb e.sequence n) (L4 i n) (abort_to (Some i) (next_item t 0)) refl (abort_quiet (Some i) (next_item t 0))

  seen_quiet : (i : ℕ) (l : Lock) → Quiet (seen_to t i l)
  seen_quiet i l = either (eqb l.owner 0) (compared t i l.sequence) (L3 i l) (compared_quiet i l.sequence (in_reads t i)) refl

  released_quiet : (i : ℕ) (l : Lock) (z : Option ℕ) → Quiet (released t i l z)
  released_quiet i l z = either (eqb l.owner t.me) (A2 i l.sequence z) (abort_to z (next_item t (i + 1))) refl (abort_quiet z (next_item t (i + 1)))

module _ {V : Type 0} (q : Process) (t : Task V) (f : Fits q) where
  quiet : (pl : Place) → Quiet pl → Fits (placed q pl)
  quiet pl e = (omega (arith, f.0), f.1)

  both : (b : Bool) (x y : Turn V) → Fits x.process → Fits y.process → Fits (cond b x y).process
  both true x y h k = h
  both false x y h k = k

  unlock_fits : (x : Option ℕ) → Fits (unlock_to {V = V} q x).process
  unlock_fits None = (omega (arith, f.0), f.1)
  unlock_fits (Some i) = quiet (U i) refl

  row_fits : (blank : V) (pl : Place) (e : Option (Entry V)) (r : Reply V) → q.sizes.reads + (traits pl).ahead ≤ 8 → Fits (next_at q t blank pl e r).process
  row_fits b Closed e r h = quiet Closed refl
  row_fits b Idle e r h = quiet Idle refl
  row_fits b (R1 i) e r h = (h, f.1)
  row_fits b (R2 i m) e r h = both (said r) (go q (R3 i)) (wait q (R1 i)) ((h, f.1)) ((h, f.1))
  row_fits b (R3 i) e r h = (h, f.1)
  row_fits b (R4 i l) e r h = both (eqb l.owner 0) _ _ ((omega arith, f.1)) ((h, f.1))
  row_fits b (R5 i l) None r h = (omega arith, f.1)
  row_fits b (R5 i l) (Some e) r h = (omega arith, f.1)
  row_fits b (D1 k a) e r h = quiet (D2 k (count_in r) a) refl
  row_fits b (D2 k m a) e r h = both (said r) (go q (count_from t (k + 1) a)) (wait q (D1 k a)) (quiet (count_from t (k + 1) a) (count_quiet t (k + 1) a)) (quiet (D1 k a) refl)
  row_fits b C e r h = (h, f.1)
  row_fits b (L1 i) e r h = quiet (L2 i (lock_in r)) refl
  row_fits b (L2 i l) e r h = quiet (seen_to t i l) (seen_quiet t i l)
  row_fits b (L3 i l) e r h = quiet (compared t i (sequence_or l.sequence e)) (compared_quiet t i (sequence_or l.sequence e) (in_reads t i))
  row_fits b (L4 i n) e r h = both (said r) (locked q t i n) (wait q (L1 i)) (quiet (lock_to (next_item t (i + 1))) (lock_quiet (next_item t (i + 1)))) (quiet (L1 i) refl)
  row_fits b K e r h = both (said r) _ (wait q K) ((h, f.1)) (quiet K refl)
  row_fits b (W k) e r h = both (ltb (k + 1) t.sizes.writes) (go q (W (k + 1))) (unlock_to q (next_item t 0)) (quiet (W (k + 1)) refl) (unlock_fits (next_item t 0))
  row_fits b (U i) e r h = unlock_fits (next_item t (i + 1))
  row_fits b (A1 i z) e r h = quiet (released t i (lock_in r) z) (released_quiet t i (lock_in r) z)
  row_fits b (A2 i n z) e r h = quiet (abort_to z (next_item t (i + 1))) (abort_quiet z (next_item t (i + 1)))
  row_fits b (A3 z) e r h = (h, f.1)

  pub move_fits : (blank : V) (cs : List (Record V)) (e : Option (Entry V)) → Fits (move blank cs q t e).process
  move_fits blank cs e = row_fits blank q.place e (replied blank cs (asked t q.place)) f.0

  -- and so of what a step leaves
  pub stepped_fits : (blank : V) (cs : List (Record V)) (es : List (Entry V)) (p : ℕ) (e : Option (Entry V)) → Fits (stepped blank cs q es p (move blank cs q t e)).process
  stepped_fits blank cs es p e = go (full q) _ _ f (move_fits blank cs e)
    where
      go : (b : Bool) (x y : Stepped V) → Fits x.process → Fits y.process → Fits (cond b x y).process
      go true x y h k = h
      go false x y h k = k
