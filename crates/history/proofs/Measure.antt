-- What a transaction that ends has left to do: it is more than nothing, and it falls from one item of the data set to the next.
use Rattle.std.proofs.Common.{◌≡◌, ℕ, zero, suc, ◌+◌, ◌*◌, ◌<◌, ◌≤◌, Bool, true, false, eqb, leb, List, [], ◌∷◌, length, get_or, set, Some, None, Option, sym, refl, ap, arith}
use Rattle.std.proofs.lemmas.Bool.{both_ways}
use Rattle.std.proofs.lemmas.Bool.Decides.{nat_tests}
use Rattle.table.specs.declared.entry.Entry.{Entry}
use Rattle.rows.specs.Places.{lock_to, abort_to}
use Rattle.rows.specs.declared.place.Place.{Place}
use Rattle.rows.specs.declared.place.Place.TheVariants.{Closed, Idle, R1, R2, R3, R4, R5, D1, D2, C, L1, L2, L3, L4, K, W, U, A1, A2, A3}
use Rattle.history.specs.Invariants.{Own, reads_in, writes_in, one, times, data_set}
use Rattle.history.specs.Endings.{is_ending, cost, from_on, left}
use Rattle.history.proofs.Next.{Lowest}

pub positive : (l : ℕ → ℕ) (pl : Place) → is_ending pl ≡ true → 0 < cost l pl
positive l Closed h = absurd (both_ways true (sym h) refl)
positive l Idle h = absurd (both_ways true (sym h) refl)
positive l (R1 i) h = absurd (both_ways true (sym h) refl)
positive l (R2 i m) h = absurd (both_ways true (sym h) refl)
positive l (R3 i) h = absurd (both_ways true (sym h) refl)
positive l (R4 i _) h = absurd (both_ways true (sym h) refl)
positive l (R5 i _) h = absurd (both_ways true (sym h) refl)
positive l (D1 k a) h = omega arith
positive l (D2 k m a) h = omega arith
positive l C h = omega arith
positive l (L1 i) h = omega arith
positive l (L2 i _) h = omega arith
positive l (L3 i _) h = omega arith
positive l (L4 i n) h = omega arith
positive l K h = omega arith
positive l (W k) h = omega arith
positive l (U i) h = omega arith
positive l (A1 i z) h = omega arith
positive l (A2 i n z) h = omega arith
positive l (A3 z) h = omega arith

at_most : (b : Bool) → one b ≤ 1
at_most true = omega arith
at_most false = omega arith

parted : (x i j : ℕ) → i ≤ j → one (leb (j + 1) x) + one (eqb x j) ≤ one (leb i x)
parted x i j h = grind (arith, nat_tests)

module _ {V : Type 0} where
  pub from_most : (es : List (Entry V)) (i : ℕ) → from_on i es ≤ length es
  from_most [] i = omega arith
  from_most (e ∷ es) i = let a = from_most es i in let b = at_most (leb i e.item) in omega arith

  from_less : (es : List (Entry V)) (i j : ℕ) → i ≤ j → from_on (j + 1) es + times j es ≤ from_on i es
  from_less [] i j h = omega arith
  from_less (e ∷ es) i j h = let a = from_less es i j h in let b = parted e.item i j h in omega arith

  -- an entry of the same item
  pub from_like : (i : ℕ) (es : List (Entry V)) (k : ℕ) (e d : Entry V) → e.item ≡ (get_or es k d).item → from_on i (set es k e) ≡ from_on i es
  from_like i [] k e d h = refl
  from_like i (x ∷ es) zero e d h = ap (λ a. one (leb i a) + from_on i es) h
  from_like i (x ∷ es) (suc k) e d h = ap (λ a. one (leb i x.item) + a) (from_like i es k e d h)

  module _ (o : Own V) where
    left_less : (i j : ℕ) → i ≤ j → 0 < data_set o j → left o (j + 1) + 1 ≤ left o i
    left_less i j h k = let x = from_less (reads_in o) i j h in let y = from_less (writes_in o) i j h in omega arith

    module _ (from : ℕ) where
      pub lock_cost : (x : Option ℕ) → Lowest (data_set o) from x → cost (left o) (lock_to x) ≤ 33 + left o from
      lock_cost None l = omega arith
      lock_cost (Some j) l = let x = left_less from j l.0 l.1 in omega arith

      pub abort_cost : (z x : Option ℕ) → Lowest (data_set o) from x → cost (left o) (abort_to z x) ≤ 1 + 2 * left o from
      abort_cost z None l = omega arith
      abort_cost z (Some j) l = let x = left_less from j l.0 l.1 in omega arith

      pub unlock_cost : (j : ℕ) → Lowest (data_set o) from (Some j) → cost (left o) (U j) ≤ left o from
      unlock_cost j l = let x = left_less from j l.0 l.1 in omega arith
