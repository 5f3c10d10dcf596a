-- Where every open transaction is past try-commit or abort, one of them can advance: one that counts out, one that needs nothing of others, one that asks
-- for counts of 0 when nobody is counted in any more, or that which wants the highest item, since its owner would want a higher one.
use Rattle.std.proofs.Common.{◌≡◌, ℕ, zero, suc, ◌<◌, ◌≤◌, Bool, true, false, cond, eqb, ltb, ◌⊎◌, List, refl, ◌∙◌, inl, inr, arith}
use Rattle.std.proofs.lemmas.Bool.{both_ways, eq-eqb, eqb-true, ltb-true}
use Rattle.bank.specs.Cells.{cell_at}
use Rattle.bank.specs.declared.record.Record.{Record}
use Rattle.rows.specs.declared.place.Place.{Place}
use Rattle.rows.specs.declared.place.Place.TheVariants.{Closed, Idle, R1, R2, R3, R4, R5, D1, D2, C, L1, L2, L3, L4, K, W, U, A1, A2, A3}
use Rattle.process.specs.Traits.{traits}
use Rattle.store.specs.Model.{State, process}
use Rattle.history.specs.Invariants.{Here, own, none, below, past, phase, grip, hold, counted, data_set, lock_of}
use Rattle.history.specs.Endings.{Need, resting_or_reading, out, freely, zeros, lock, need, ends_by, is_ending}
use Rattle.history.proofs.Deeds.{closed_place}
use Rattle.history.proofs.Highest.{Highest, highest, total_nil}
use Rattle.history.proofs.Advancing.{Can}
use Rattle.history.proofs.AllEnding.{Closing}

-- the sorts of needs, and the item that is wanted
abbrev sort : Need → ℕ
sort resting_or_reading = 0
sort out = 1
sort freely = 2
sort zeros = 3
sort (lock i) = 4

abbrev wanted : Need → ℕ
wanted resting_or_reading = 0
wanted out = 0
wanted freely = 0
wanted zeros = 0
wanted (lock i) = i

sorted : (n : Need) (k : ℕ) → sort n ≡ k → 0 < k → ends_by n ≡ true
sorted resting_or_reading k h l = absurd (omega arith)
sorted out k h l = refl
sorted freely k h l = refl
sorted zeros k h l = refl
sorted (lock i) k h l = refl

other_sorts : (n : Need) → ends_by n ≡ true → (sort n ≡ 1 → ⊥) → (sort n ≡ 2 → ⊥) → (sort n ≡ 3 → ⊥) → sort n ≡ 4
other_sorts resting_or_reading h a b c = absurd (both_ways false refl h)
other_sorts out h a b c = absurd (a refl)
other_sorts freely h a b c = absurd (b refl)
other_sorts zeros h a b c = absurd (c refl)
other_sorts (lock i) h a b c = refl

-- who does not count out is counted out, or has no transaction
out_of : (pl : Place) → ((traits pl).is_open ≡ true → is_ending pl ≡ true) → (sort (need pl) ≡ 1 → ⊥) → phase pl ≡ past
out_of Closed h n = refl
out_of Idle h n = absurd (both_ways false refl (h refl))
out_of (R1 i) h n = absurd (both_ways false refl (h refl))
out_of (R2 i m) h n = absurd (both_ways false refl (h refl))
out_of (R3 i) h n = absurd (both_ways false refl (h refl))
out_of (R4 i l) h n = absurd (both_ways false refl (h refl))
out_of (R5 i l) h n = absurd (both_ways false refl (h refl))
out_of (D1 k a) h n = absurd (n refl)
out_of (D2 k m a) h n = absurd (n refl)
out_of C h n = refl
out_of (L1 i) h n = refl
out_of (L2 i l) h n = refl
out_of (L3 i l) h n = refl
out_of (L4 i m) h n = refl
out_of K h n = refl
out_of (W k) h n = refl
out_of (U i) h n = refl
out_of (A1 i z) h n = refl
out_of (A2 i m z) h n = refl
out_of (A3 z) h n = refl

wanting : (pl : Place) → sort (need pl) ≡ 4 → (need pl ≡ lock (wanted (need pl))) × (grip pl ≡ below (wanted (need pl)))
wanting Closed h = absurd (omega arith)
wanting Idle h = absurd (omega arith)
wanting (R1 i) h = absurd (omega arith)
wanting (R2 i m) h = absurd (omega arith)
wanting (R3 i) h = absurd (omega arith)
wanting (R4 i l) h = absurd (omega arith)
wanting (R5 i l) h = absurd (omega arith)
wanting (D1 k a) h = absurd (omega arith)
wanting (D2 k m a) h = absurd (omega arith)
wanting C h = absurd (omega arith)
wanting (L1 i) h = (refl, refl)
wanting (L2 i l) h = (refl, refl)
wanting (L3 i l) h = (refl, refl)
wanting (L4 i n) h = (refl, refl)
wanting K h = absurd (omega arith)
wanting (W k) h = absurd (omega arith)
wanting (U i) h = absurd (omega arith)
wanting (A1 i z) h = absurd (omega arith)
wanting (A2 i n z) h = absurd (omega arith)
wanting (A3 z) h = absurd (omega arith)

closed_none : (pl : Place) → (traits pl).is_open ≡ false → grip pl ≡ none
closed_none pl h = rw (closed_place pl h) refl

over : (i j d : ℕ) → 0 < cond (ltb i j) d 0 → i < j
over i j d y = go (ltb i j) refl y
  where
    go : (b : Bool) → ltb i j ≡ b → 0 < cond b d 0 → i < j
    go true e y = ltb-true i j e
    go false e y = absurd (omega arith)

module _ {V : Type 0} (blank : V) where
  out_can : (cs : List (Record V)) (k : Need) → sort k ≡ 1 → Can blank cs k
  out_can cs resting_or_reading h = absurd (omega arith)
  out_can cs out h = tt
  out_can cs freely h = absurd (omega arith)
  out_can cs zeros h = absurd (omega arith)
  out_can cs (lock i) h = absurd (omega arith)

  freely_can : (cs : List (Record V)) (k : Need) → sort k ≡ 2 → Can blank cs k
  freely_can cs resting_or_reading h = absurd (omega arith)
  freely_can cs out h = absurd (omega arith)
  freely_can cs freely h = tt
  freely_can cs zeros h = absurd (omega arith)
  freely_can cs (lock i) h = absurd (omega arith)

  zeros_can : (cs : List (Record V)) (k : Need) → sort k ≡ 3 → ((i : ℕ) → (cell_at blank cs i).count ≡ 0) → Can blank cs k
  zeros_can cs resting_or_reading h c = absurd (omega arith)
  zeros_can cs out h c = absurd (omega arith)
  zeros_can cs freely h c = absurd (omega arith)
  zeros_can cs zeros h c = c
  zeros_can cs (lock i) h c = absurd (omega arith)

  -- one that ends and can advance
  pub record Able (s : State V) : Type 0 where
    pub who : ℕ
    pub here : Here s who
    pub ends : is_ending (process s.memory who).place ≡ true
    pub can : Can blank s.cells (need (process s.memory who).place)

  module _ (s : State V) (c : Closing blank s) where
    abbrev sort_of : ℕ → ℕ
    sort_of q = sort (need (process s.memory q).place)

    abbrev wants : ℕ → ℕ
    wants q = wanted (need (process s.memory q).place)

    abbrev test : ℕ → ℕ → Bool
    test n q = eqb (sort_of q) n

    abbrev NoneOf : ℕ → Type 0
    NoneOf n = (q : ℕ) → Here s q → sort_of q ≡ n → ⊥

    none_of : (n : ℕ) → ((q : ℕ) → 0 < q → q ≤ s.memory.number → test n q ≡ false) → NoneOf n
    none_of n h q hq e = both_ways (test n q) (h q hq.low hq.high) (eq-eqb _ n e)

    counts_nil : NoneOf 1 → (i : ℕ) → (cell_at blank s.cells i).count ≡ 0
    counts_nil n1 i = c.standing.counts.count i ∙ total_nil (λ q. counted (own s q) i) s.memory.number (λ q l k. let h : Here s q = record { low = l; high = k } in rw (out_of (process s.memory q).place (c.ending q h) (n1 q h)) refl)

    -- the owner of an item that none of those who want one wants a higher one than
    owner_none : NoneOf 1 → NoneOf 2 → NoneOf 3 → (i : ℕ) → ((q : ℕ) → 0 < q → q ≤ s.memory.number → test 4 q ≡ true → wants q ≤ i) → (o : ℕ) → (lock_of blank s i).owner ≡ o → o ≡ 0
    owner_none n1 n2 n3 i top zero e = refl
    owner_none n1 n2 n3 i top (suc o) e =
        let ho : Here s (suc o) = record { low = omega arith; high = (let k = c.standing.owner.known i in omega arith) } in
        absurd (held (suc o) ho (traits (process s.memory (suc o)).place).is_open refl ((c.standing.owner.each (suc o) ho).owner i e))
      where
        held : (o : ℕ) → Here s o → (b : Bool) → (traits (process s.memory o).place).is_open ≡ b → 0 < hold (grip (process s.memory o).place) (data_set (own s o) i) i → ⊥
        held o ho false e x = let y = rw (closed_none (process s.memory o).place e) at x in omega arith
        held o ho true e x =
            let k = other_sorts (need (process s.memory o).place) (c.ending o ho e) (n1 o ho) (n2 o ho) (n3 o ho) in
            let w = wanting (process s.memory o).place k in
            let y = over i (wants o) (data_set (own s o) i) (rw w.1 at x) in
            let z = top o ho.low ho.high (eq-eqb _ 4 k) in
            omega arith

    found : (n : ℕ) (g : ℕ → ℕ) → 0 < n → (w : Highest (test n) g s.memory.number) → Can blank s.cells (need (process s.memory w.who).place) → Able s
    found n g l w k = record { who = w.who; here = record { low = w.low; high = w.high }; ends = sorted (need (process s.memory w.who).place) n (eqb-true _ n w.yes) l; can = k }

    pub able : (p : ℕ) → Here s p → is_ending (process s.memory p).place ≡ true → Able s
    able p h e = first (highest (test 1) (λ _. 0) s.memory.number)
      where
        fourth : NoneOf 1 → NoneOf 2 → NoneOf 3 → Highest (test 4) wants s.memory.number ⊎ ((q : ℕ) → 0 < q → q ≤ s.memory.number → test 4 q ≡ false) → Able s
        fourth n1 n2 n3 (inl w) = found 4 wants (omega arith) w (rw (wanting (process s.memory w.who).place (eqb-true _ 4 w.yes)).0 (owner_none n1 n2 n3 (wants w.who) w.top (lock_of blank s (wants w.who)).owner refl))
        fourth n1 n2 n3 (inr z) = absurd (none_of 4 z p h (other_sorts (need (process s.memory p).place) e (n1 p h) (n2 p h) (n3 p h)))

        third : NoneOf 1 → NoneOf 2 → Highest (test 3) (λ _. 0) s.memory.number ⊎ ((q : ℕ) → 0 < q → q ≤ s.memory.number → test 3 q ≡ false) → Able s
        third n1 n2 (inl w) = found 3 (λ _. 0) (omega arith) w (zeros_can s.cells _ (eqb-true _ 3 w.yes) (counts_nil n1))
        third n1 n2 (inr z) = fourth n1 n2 (none_of 3 z) (highest (test 4) wants s.memory.number)

        second : NoneOf 1 → Highest (test 2) (λ _. 0) s.memory.number ⊎ ((q : ℕ) → 0 < q → q ≤ s.memory.number → test 2 q ≡ false) → Able s
        second n1 (inl w) = found 2 (λ _. 0) (omega arith) w (freely_can s.cells _ (eqb-true _ 2 w.yes))
        second n1 (inr z) = third n1 (none_of 2 z) (highest (test 3) (λ _. 0) s.memory.number)

        first : Highest (test 1) (λ _. 0) s.memory.number ⊎ ((q : ℕ) → 0 < q → q ≤ s.memory.number → test 1 q ≡ false) → Able s
        first (inl w) = found 1 (λ _. 0) (omega arith) w (out_can s.cells _ (eqb-true _ 1 w.yes))
        first (inr z) = second (none_of 1 z) (highest (test 2) (λ _. 0) s.memory.number)
