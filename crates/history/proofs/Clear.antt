-- Where K says yes, nobody is counted in on what it will write; and no item is locked twice.
use Rattle.std.proofs.Common.{◌≡◌, ℕ, ◌+◌, ◌<◌, Bool, true, false, eqb, List, [], ◌∷◌, length, map, take, sym, refl, ap, ◌∙◌, subst, arith}
use Rattle.std.proofs.lemmas.Bool.{and_parts, eqb-true}
use Rattle.std.proofs.lemmas.List.{take_all, length-map, length-take-le}
use Rattle.bank.specs.Cells.{cell_at, all_zero}
use Rattle.bank.specs.declared.record.Record.{Record}
use Rattle.table.specs.Sets.{item_of}
use Rattle.table.specs.declared.entry.Entry.{Entry}
use Rattle.table.specs.declared.entry.Part.TheVariants.{Writes}
use Rattle.store.specs.Model.{State, process, task_of}
use Rattle.history.specs.Invariants.{Here, part, own, writes_in, grip, hold, one, times, counted, Counts, Owner, data_set, count_of}
use Rattle.history.proofs.Sums.{total_part}
use Rattle.history.proofs.Views.{part_long, writes_are}

module _ {V : Type 0} (blank : V) where
  zero_at : (cs : List (Record V)) (es : List (Entry V)) (i : ℕ) → all_zero blank cs (map item_of es) ≡ true → 0 < times i es → (cell_at blank cs i).count ≡ 0
  zero_at cs [] i h k = absurd (omega arith)
  zero_at cs (e ∷ es) i h k = let both = and_parts (eqb (cell_at blank cs e.item).count 0) _ h in go (eqb e.item i) refl k both.0 (zero_at cs es i both.1)
    where
      go : (b : Bool) → eqb e.item i ≡ b → 0 < one b + times i es → eqb (cell_at blank cs e.item).count 0 ≡ true → (0 < times i es → (cell_at blank cs i).count ≡ 0) → (cell_at blank cs i).count ≡ 0
      go true q l z f = ap (λ j. (cell_at blank cs j).count) (sym (eqb-true e.item i q)) ∙ eqb-true _ 0 z
      go false q l z f = f (omega arith)

  -- at K's yes
  pub clear : (s : State V) (p : ℕ) → Counts blank s → Here s p → all_zero blank s.cells (take 8 (map item_of (task_of blank s.memory p).writes)) ≡ true
      → (i : ℕ) → 0 < times i (writes_in (own s p)) → (q : ℕ) → Here s q → counted (own s q) i ≡ 0
  clear s p v h z i w q hq =
      let fit = (v.sane p h).writes in
      let same = writes_are blank s p (process s.memory p).sizes.writes fit in
      let long : length (task_of blank s.memory p).writes ≡ (process s.memory p).sizes.writes = ap length same ∙ length-take-le _ (part s p Writes) (let l = part_long blank s p v.formed h Writes in omega arith) in
      let all : all_zero blank s.cells (map item_of (task_of blank s.memory p).writes) ≡ true = subst (λ is. all_zero blank s.cells is ≡ true) (take_all 8 _ (let l = length-map (task_of blank s.memory p).writes item_of in omega arith)) z in
      let none : count_of blank s i ≡ 0 = zero_at s.cells (task_of blank s.memory p).writes i all (subst (λ es. 0 < times i es) (sym same) w) in
      let a = total_part (λ q. counted (own s q) i) s.memory.number q hq.low hq.high in
      let b = v.count i in
      omega arith

  -- two processes have not locked one item
  pub locked_once : (s : State V) (p q i : ℕ) → Owner blank s → Here s p → Here s q → 0 < hold (grip (process s.memory p).place) (data_set (own s p) i) i → 0 < hold (grip (process s.memory q).place) (data_set (own s q) i) i → p ≡ q
  locked_once s p q i o hp hq a b = sym ((o.each p hp).owned i a) ∙ (o.each q hq).owned i b
