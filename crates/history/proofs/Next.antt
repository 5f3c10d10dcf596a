-- The next item of a data set is the lowest that is not below a number.
use Rattle.std.proofs.Common.{◌≡◌, ℕ, ◌+◌, ◌<◌, ◌≤◌, false, cond, eqb, ltb, List, [], ◌∷◌, Some, None, Option, refl, ap, ◌∙◌, arith}
use Rattle.std.proofs.lemmas.Bool.{eq-eqb, ne_eqb, cond_both, ltb-true, ltb-false}
use Rattle.table.specs.Sets.{lower, lowest}
use Rattle.table.specs.Tasks.{Task, next_item}
use Rattle.table.specs.declared.entry.Entry.{Entry}
use Rattle.store.specs.Model.{State, process, task_of}
use Rattle.history.specs.Invariants.{own, one, times, data_set}
use Rattle.history.proofs.Views.{reads_are, writes_are}

-- the lowest item not below `from` of which there is any
abbrev pub Lowest : (ℕ → ℕ) → ℕ → Option ℕ → Type 0
Lowest h from None = (i : ℕ) → from ≤ i → h i ≡ 0
Lowest h from (Some j) = (from ≤ j) × (0 < h j) × ((i : ℕ) → from ≤ i → i < j → h i ≡ 0)

lower_lowest : (h g : ℕ → ℕ) (from x : ℕ) (o : Option ℕ) → ((i : ℕ) → g i ≡ one (eqb x i) + h i) → Lowest h from o → Lowest g from (lower from x o)
lower_lowest h g from x None e l = cond_both (ltb x from) None (Some x) (Lowest g from) (λ t i k. let a = e i in let b = l i k in let c : eqb x i ≡ false = ne_eqb x i (let y = ltb-true x from t in omega arith) in let d : one (eqb x i) ≡ 0 = rw c in omega arith) (λ t. (ltb-false x from t, (let a = e x in let c : one (eqb x x) ≡ 1 = rw (eq-eqb x x refl) in omega arith), λ i k u. let a = e i in let b = l i k in let c : eqb x i ≡ false = ne_eqb x i (omega arith) in let d : one (eqb x i) ≡ 0 = rw c in omega arith))
lower_lowest h g from x (Some b) e l =
    cond_both (ltb x from) (Some b) (Some (cond (ltb x b) x b)) (Lowest g from)
    (λ t. (l.0, (let a = e b in let c = l.1 in omega arith), λ i k u. let a = e i in let w = l.2 i k u in let c : eqb x i ≡ false = ne_eqb x i (let y = ltb-true x from t in omega arith) in let d : one (eqb x i) ≡ 0 = rw c in omega arith))
    (λ t. cond_both (ltb x b) x b (λ y. Lowest g from (Some y))
    (λ u. (ltb-false x from t, (let a = e x in let c : one (eqb x x) ≡ 1 = rw (eq-eqb x x refl) in omega arith), λ i k w. let a = e i in let z = l.2 i k (let v = ltb-true x b u in omega arith) in let c : eqb x i ≡ false = ne_eqb x i (omega arith) in let d : one (eqb x i) ≡ 0 = rw c in omega arith))
    (λ u. (l.0, (let a = e b in let c = l.1 in omega arith), λ i k w. let a = e i in let z = l.2 i k w in let c : eqb x i ≡ false = ne_eqb x i (let v = ltb-false x b u in omega arith) in let d : one (eqb x i) ≡ 0 = rw c in omega arith)))

lowest_same : (h g : ℕ → ℕ) (from : ℕ) (o : Option ℕ) → ((i : ℕ) → g i ≡ h i) → Lowest h from o → Lowest g from o
lowest_same h g from None e l = λ i k. e i ∙ l i k
lowest_same h g from (Some j) e l = (l.0, (let a = e j in let b = l.1 in omega arith), λ i k u. e i ∙ l.2 i k u)

module _ {V : Type 0} where
  pub lowest_lowest : (es : List (Entry V)) (from : ℕ) (h g : ℕ → ℕ) (o : Option ℕ) → ((i : ℕ) → g i ≡ times i es + h i) → Lowest h from o → Lowest g from (lowest from o es)
  lowest_lowest [] from h g o e l = lowest_same h g from o (λ i. let a = e i in omega arith) l
  lowest_lowest (x ∷ es) from h g o e l = lowest_lowest es from (λ i. one (eqb x.item i) + h i) g (lower from x.item o) (λ i. let a = e i in omega arith) (lower_lowest h (λ i. one (eqb x.item i) + h i) from x.item o (λ i. refl) l)

module _ {V : Type 0} (blank : V) (s : State V) (p : ℕ) where
  pub next_lowest : (from : ℕ) → (process s.memory p).sizes.reads ≤ 8 → (process s.memory p).sizes.writes ≤ 8 → Lowest (data_set (own s p)) from (next_item (task_of blank s.memory p) from)
  next_lowest from r w =
      let t : Task V = task_of blank s.memory p in
      let a : Lowest (λ i. times i t.reads) from (lowest from None t.reads) = lowest_lowest t.reads from (λ _. 0) (λ i. times i t.reads) None (λ i. omega arith) (λ i k. refl) in
      let b : Lowest (λ i. times i t.writes + times i t.reads) from (next_item t from) = lowest_lowest t.writes from (λ i. times i t.reads) (λ i. times i t.writes + times i t.reads) (lowest from None t.reads) (λ i. refl) a in
      lowest_same (λ i. times i t.writes + times i t.reads) (data_set (own s p)) from _ (λ i. let x = ap (times i) (reads_are blank s p (process s.memory p).sizes.reads r) in let y = ap (times i) (writes_are blank s p (process s.memory p).sizes.writes w) in omega arith) b
