-- What a process and an item have in a state, and what of it a move changes.
use Rattle.std.proofs.Common.{◌≡◌, ℕ, zero, suc, ◌+◌, ◌-◌, ◌*◌, ◌<◌, ◌≤◌, Bool, true, false, cond, ◌&&◌, eqb, ◌⊎◌, List, [], ◌∷◌, length, get_or, take, drop, set, sym, refl, ap, ◌∙◌, inl, inr, arith, length-set, length-drop, get_or-set_other, get_or-set_same}
use mathlib.Core.Path.{fun_ext}
use Rattle.std.proofs.Math.Nat.{min-eq_left}
use Rattle.std.proofs.lemmas.Bool.{cases_eq, cases_lt, eq-eqb, ne_eqb, ltb-true}
use Rattle.std.proofs.lemmas.List.{length-take, take-take, take-set-le, drop-set-lt, drop-set-add, get_or-take, get_or-drop}
use Rattle.bank.specs.Cells.{absent, cell_at, has, with_lock, with_value, with_count}
use Rattle.bank.specs.declared.lock.Lock.{Lock}
use Rattle.bank.specs.declared.record.Record.{Record}
use Rattle.table.specs.Sets.{start, set_of, blank_entry}
use Rattle.table.specs.declared.entry.Entry.{Entry}
use Rattle.table.specs.declared.entry.Part.{Part}
use Rattle.table.specs.declared.entry.Part.TheVariants.{Reads, Writes}
use Rattle.rows.specs.Primitives.{Primitive, nothing, read_lock, read_value, read_count, write_lock, write_value, swap_lock, swap_count, ask_zero, Touch, still, relock, revalue, recount, replied, said, touching, if_said, touched}
use Rattle.process.specs.Moves.{Note, keep, put, Move, noted}
use Rattle.process.specs.Traits.{fresh}
use Rattle.store.specs.Model.{State, process, task_of, moved}
use Rattle.history.specs.Invariants.{Formed, Here, Own, part, own}

-- a function with one value changed
abbrev pub upd : {A : Type 0} → (ℕ → A) → ℕ → A → ℕ → A
upd f i a j = cond (eqb j i) a (f j)

pub upd_same : {A : Type 0} (f : ℕ → A) (i : ℕ) (a : A) → upd f i a i ≡ a
upd_same f i a = rw (eq-eqb i i refl)

pub upd_other : {A : Type 0} (f : ℕ → A) (i j : ℕ) (a : A) → (j ≡ i → ⊥) → upd f i a j ≡ f j
upd_other f i j a h = rw (ne_eqb j i h)

pub take_set : {A : Type 0} (n : ℕ) (l : List A) (k : ℕ) (a : A) → take n (set l k a) ≡ set (take n l) k a
take_set zero [] k a = refl
take_set zero (x ∷ l) zero a = refl
take_set zero (x ∷ l) (suc k) a = refl
take_set (suc n) [] k a = refl
take_set (suc n) (x ∷ l) zero a = refl
take_set (suc n) (x ∷ l) (suc k) a = ap (λ y. x ∷ y) (take_set n l k a)

module _ {V : Type 0} where
  abbrev pub after_count : (ℕ → ℕ) → Touch V → ℕ → ℕ
  after_count f still = f
  after_count f (recount i n) = upd f i n
  after_count f (relock i l) = f
  after_count f (revalue i v) = f

  abbrev pub after_lock : (ℕ → Lock) → Touch V → ℕ → Lock
  after_lock f still = f
  after_lock f (recount i n) = f
  after_lock f (relock i l) = upd f i l
  after_lock f (revalue i v) = f

  abbrev pub after_value : (ℕ → V) → Touch V → ℕ → V
  after_value f still = f
  after_value f (recount i n) = f
  after_value f (relock i l) = f
  after_value f (revalue i v) = upd f i v

  -- a part, where an entry of part a changes
  abbrev pub part_put : Part → ℕ → Entry V → (Part → List (Entry V)) → Part → List (Entry V)
  part_put Reads k e f Reads = set (f Reads) k e
  part_put Reads k e f Writes = f Writes
  part_put Writes k e f Reads = f Reads
  part_put Writes k e f Writes = set (f Writes) k e

  abbrev pub after_note : (Part → List (Entry V)) → Note V → Part → List (Entry V)
  after_note f keep b = f b
  after_note f (put a k e) b = part_put a k e f b

  abbrev pub after_own : Own V → Move V → Own V
  after_own o m = record { process = m.process; part = after_note o.part m.note }

  -- a move touches a cell that the bank has, and an entry within the part
  abbrev pub RealTouch : List (Record V) → Touch V → Type 0
  RealTouch cs still = Unit {0}
  RealTouch cs (recount i n) = has cs i ≡ true
  RealTouch cs (relock i l) = has cs i ≡ true
  RealTouch cs (revalue i v) = has cs i ≡ true

  abbrev pub RealNote : Note V → Type 0
  RealNote keep = Unit {0}
  RealNote (put a k e) = k < 8

module _ {V : Type 0} (blank : V) where
  -- what is read of the cells after one was made anew
  anew_view : {A : Type 0} (g : Record V → A) (cs : List (Record V)) (i : ℕ) (c : Record V) (a : A) → has cs i ≡ true → g c ≡ a → (j : ℕ) → g (cell_at blank (set cs i c) j) ≡ upd (λ j. g (cell_at blank cs j)) i a j
  anew_view g cs i c a h k j = elim (cases_eq j i) [
    | inl e ↦ rw e (ap g (get_or-set_same cs i c (absent blank) (ltb-true i (length cs) h)) ∙ (k ∙ sym (upd_same (λ j. g (cell_at blank cs j)) i a)))
    | inr n ↦ ap g (get_or-set_other cs i j c (absent blank) n) ∙ sym (upd_other (λ j. g (cell_at blank cs j)) i j a n)
  ]

  -- what a field says after another was changed
  anew_still : {A : Type 0} (g : Record V → A) (cs : List (Record V)) (i : ℕ) (c : Record V) → has cs i ≡ true → g c ≡ g (cell_at blank cs i) → (j : ℕ) → g (cell_at blank (set cs i c) j) ≡ g (cell_at blank cs j)
  anew_still g cs i c h k j = elim (cases_eq j i) [
    | inl e ↦ rw e (ap g (get_or-set_same cs i c (absent blank) (ltb-true i (length cs) h)) ∙ k)
    | inr n ↦ ap g (get_or-set_other cs i j c (absent blank) n)
  ]

  pub counts_after : (cs : List (Record V)) (t : Touch V) → RealTouch cs t → (j : ℕ) → (cell_at blank (touched blank cs t) j).count ≡ after_count (λ i. (cell_at blank cs i).count) t j
  counts_after cs still h j = refl
  counts_after cs (recount i n) h j = anew_view (λ c. c.count) cs i (with_count n (cell_at blank cs i)) n h refl j
  counts_after cs (relock i l) h j = anew_still (λ c. c.count) cs i (with_lock l (cell_at blank cs i)) h refl j
  counts_after cs (revalue i v) h j = anew_still (λ c. c.count) cs i (with_value v (cell_at blank cs i)) h refl j

  pub locks_after : (cs : List (Record V)) (t : Touch V) → RealTouch cs t → (j : ℕ) → (cell_at blank (touched blank cs t) j).lock ≡ after_lock (λ i. (cell_at blank cs i).lock) t j
  locks_after cs still h j = refl
  locks_after cs (recount i n) h j = anew_still (λ c. c.lock) cs i (with_count n (cell_at blank cs i)) h refl j
  locks_after cs (relock i l) h j = anew_view (λ c. c.lock) cs i (with_lock l (cell_at blank cs i)) l h refl j
  locks_after cs (revalue i v) h j = anew_still (λ c. c.lock) cs i (with_value v (cell_at blank cs i)) h refl j

  pub values_after : (cs : List (Record V)) (t : Touch V) → RealTouch cs t → (j : ℕ) → (cell_at blank (touched blank cs t) j).value ≡ after_value (λ i. (cell_at blank cs i).value) t j
  values_after cs still h j = refl
  values_after cs (recount i n) h j = anew_still (λ c. c.value) cs i (with_count n (cell_at blank cs i)) h refl j
  values_after cs (relock i l) h j = anew_still (λ c. c.value) cs i (with_lock l (cell_at blank cs i)) h refl j
  values_after cs (revalue i v) h j = anew_view (λ c. c.value) cs i (with_value v (cell_at blank cs i)) v h refl j

  -- no move makes the bank longer or shorter
  pub items_after : (cs : List (Record V)) (t : Touch V) → length (touched blank cs t) ≡ length cs
  items_after cs still = refl
  items_after cs (recount i n) = length-set cs i _
  items_after cs (relock i l) = length-set cs i _
  items_after cs (revalue i v) = length-set cs i _

  -- where the bank says yes, it has the cell that is touched
  pub real_said : (cs : List (Record V)) (a : Primitive V) → RealTouch cs (if_said (said (replied blank cs a)) (touching a))
  real_said cs nothing = tt
  real_said cs (read_lock i) = tt
  real_said cs (read_value i) = tt
  real_said cs (read_count i) = tt
  real_said cs (write_lock i l) = yes (has cs i) _ refl
    where
      yes : (b c : Bool) → has cs i ≡ b → RealTouch cs (if_said (b && c) (relock i l))
      yes true true h = h
      yes true false h = tt
      yes false c h = tt
  real_said cs (write_value i v) = yes (has cs i) refl
    where
      yes : (b : Bool) → has cs i ≡ b → RealTouch cs (if_said b (revalue i v))
      yes true h = h
      yes false h = tt
  real_said cs (swap_lock i l k) = yes (has cs i) _ _ refl
    where
      yes : (b c d : Bool) → has cs i ≡ b → RealTouch cs (if_said (b && c && d) (relock i k))
      yes true true true h = h
      yes true true false h = tt
      yes true false d h = tt
      yes false c d h = tt
  real_said cs (swap_count i m n) = yes (has cs i) _ _ refl
    where
      yes : (b c d : Bool) → has cs i ≡ b → RealTouch cs (if_said (b && c && d) (recount i n))
      yes true true true h = h
      yes true true false h = tt
      yes true false d h = tt
      yes false c d h = tt
  real_said cs (ask_zero is) = no _
    where
      no : (b : Bool) → RealTouch cs (if_said b still)
      no true = tt
      no false = tt

-- what lies in the part of one process lies outside that of another
apart : (p q a x : ℕ) → 0 < p → 0 < q → (q ≡ p → ⊥) → 16 * (p - 1) ≤ x → x < 16 * (p - 1) + 16 → 16 * (q - 1) ≤ a → a ≤ 16 * (q - 1) + 8 → (x < a) ⊎ (a + 8 ≤ x)
apart p q a x l k d e f g h = elim (cases_lt p q) [ inl u ↦ inl (omega arith) | inr u ↦ inr (omega arith) ]

module _ {V : Type 0} where
  -- an entry outside of eight does not show in them
  cut_other : (es : List (Entry V)) (a x : ℕ) (e : Entry V) → (x < a) ⊎ (a + 8 ≤ x) → take 8 (drop a (set es x e)) ≡ take 8 (drop a es)
  cut_other es a x e (inl h) = ap (take 8) (drop-set-lt a es x e h)
  cut_other es a x e (inr h) =
      let n : a + (x - a) ≡ x = omega arith in
      rw (← n) (ap (take 8) (drop-set-add a es (x - a) e) ∙ take-set-le 8 (drop a es) (x - a) e (omega arith))

  cut_same : (es : List (Entry V)) (a k : ℕ) (e : Entry V) → take 8 (drop a (set es (a + k) e)) ≡ set (take 8 (drop a es)) k e
  cut_same es a k e = ap (take 8) (drop-set-add a es k e) ∙ take_set 8 (drop a es) k e

  own_part : (es : List (Entry V)) (p : ℕ) (n : Note V) → RealNote n → (b : Part) → set_of (noted es p n) p b 8 ≡ after_note (λ b. set_of es p b 8) n b
  own_part es p keep h b = refl
  own_part es p (put Reads k e) h Reads = cut_same es (start p Reads) k e
  own_part es p (put Reads k e) h Writes = cut_other es (start p Writes) (start p Reads + k) e (inl (omega arith))
  own_part es p (put Writes k e) h Reads = cut_other es (start p Reads) (start p Writes + k) e (inr (omega arith))
  own_part es p (put Writes k e) h Writes = cut_same es (start p Writes) k e

  other_part : (es : List (Entry V)) (p q : ℕ) (n : Note V) → RealNote n → 0 < p → 0 < q → (q ≡ p → ⊥) → (b : Part) → set_of (noted es p n) q b 8 ≡ set_of es q b 8
  other_part es p q keep h l k d b = refl
  other_part es p q (put Reads j e) h l k d Reads = cut_other es (start q Reads) (start p Reads + j) e (apart p q (start q Reads) (start p Reads + j) l k d (omega arith) (omega arith) (omega arith) (omega arith))
  other_part es p q (put Reads j e) h l k d Writes = cut_other es (start q Writes) (start p Reads + j) e (apart p q (start q Writes) (start p Reads + j) l k d (omega arith) (omega arith) (omega arith) (omega arith))
  other_part es p q (put Writes j e) h l k d Reads = cut_other es (start q Reads) (start p Writes + j) e (apart p q (start q Reads) (start p Writes + j) l k d (omega arith) (omega arith) (omega arith) (omega arith))
  other_part es p q (put Writes j e) h l k d Writes = cut_other es (start q Writes) (start p Writes + j) e (apart p q (start q Writes) (start p Writes + j) l k d (omega arith) (omega arith) (omega arith) (omega arith))

module _ {V : Type 0} (blank : V) where
  -- what p does is seen in its own
  pub mine_after : (s : State V) (p : ℕ) (m : Move V) → Formed s → Here s p → RealNote m.note → own (moved blank s p m) p ≡ after_own (own s p) m
  mine_after s p m f h r =
      let a : process (moved blank s p m).memory p ≡ m.process = get_or-set_same s.memory.processes (p - 1) m.process fresh (omega (arith, f.sixteen, f.few, h.low, h.high)) in
      let b : part (moved blank s p m) p ≡ after_note (part s p) m.note = fun_ext (own_part s.memory.entries p m.note r) in
      λ i. record { process = a i; part = b i }

  -- and not in another's
  pub others_after : (s : State V) (p q : ℕ) (m : Move V) → Here s p → 0 < q → (q ≡ p → ⊥) → RealNote m.note → own (moved blank s p m) q ≡ own s q
  others_after s p q m h k d r =
      let a : process (moved blank s p m).memory q ≡ process s.memory q = get_or-set_other s.memory.processes (p - 1) (q - 1) m.process fresh (let l = h.low in omega arith) in
      let b : part (moved blank s p m) q ≡ part s q = fun_ext (other_part s.memory.entries p q m.note r h.low k d) in
      λ i. record { process = a i; part = b i }

  -- eight entries a part
  pub part_long : (s : State V) (p : ℕ) → Formed s → Here s p → (b : Part) → length (part s p b) ≡ 8
  part_long s p f h Reads = length-take 8 (drop (start p Reads) s.memory.entries) ∙ min-eq_left (let l = length-drop (start p Reads) s.memory.entries in let a = f.long in let u = h.low in let w = h.high in omega arith)
  part_long s p f h Writes = length-take 8 (drop (start p Writes) s.memory.entries) ∙ min-eq_left (let l = length-drop (start p Writes) s.memory.entries in let a = f.long in let u = h.low in let w = h.high in omega arith)

  -- the sets and the entries of a task are in its parts
  pub reads_are : (s : State V) (p n : ℕ) → n ≤ 8 → set_of s.memory.entries p Reads n ≡ take n (part s p Reads)
  reads_are s p n h = sym (take-take n 8 (drop (start p Reads) s.memory.entries) h)

  pub writes_are : (s : State V) (p n : ℕ) → n ≤ 8 → set_of s.memory.entries p Writes n ≡ take n (part s p Writes)
  writes_are s p n h = sym (take-take n 8 (drop (start p Writes) s.memory.entries) h)

  pub entry_is : (s : State V) (p : ℕ) (b : Part) (k : ℕ) → k < 8 → (task_of blank s.memory p).entry b k ≡ get_or (part s p b) k (blank_entry blank)
  entry_is s p b k h = sym (get_or-take 8 (drop (start p b) s.memory.entries) k (blank_entry blank) h ∙ get_or-drop (start p b) s.memory.entries k (blank_entry blank))

  pub formed_after : (s : State V) (p : ℕ) (m : Move V) → Formed s → Formed (moved blank s p m)
  formed_after s p m f = record { sixteen = length-set _ _ _ ∙ f.sixteen; few = f.few; long = longer m.note }
    where
      longer : (n : Note V) → 16 * s.memory.number ≤ length (noted s.memory.entries p n)
      longer keep = f.long
      longer (put b k e) = rw (length-set s.memory.entries (start p b + k) e) f.long
