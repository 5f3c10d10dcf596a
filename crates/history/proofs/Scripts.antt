-- Scripts against sets, of one process alone: what its script wrote last is what its write set holds, and run alone over any held values that agree
-- with its read set its script gives what it got. A write puts its entry, a read that ends adds its entry or finds one, and no other row changes a value of a set.
use Rattle.std.proofs.Common.{◌≡◌, ℕ, Bool, true, false, cond, eqb, List, [], ◌∷◌, ◌++◌, Some, None, Option, option_map, is_some, unwrap_or, refl, sym, ap, ◌∙◌, subst, inl, inr}
use Rattle.std.proofs.lemmas.Bool.{true≢false, cond-true, cond-false, eqb-true, eq-eqb, ne_eqb, cases_eq}
use Rattle.table.specs.Sets.{find}
use Rattle.table.specs.declared.entry.Entry.{Entry}
use Rattle.history.specs.Invariants.{Own, reads_in, writes_in, Phase, resting, asking, inside, settling, leaving, past, phase}
use Rattle.history.specs.Notes.{Notes, BankRead}
use Rattle.history.specs.Reruns.{reads, writes, last_write, view, alone}
use Rattle.history.proofs.Finds.{value_found}

module _ {V : Type 0} where
  -- held values agree with entries
  abbrev pub Agrees : (ℕ → V) → List (Entry V) → Type 0
  Agrees held [] = Unit {0}
  Agrees held (e ∷ es) = (held e.item ≡ e.value) × Agrees held es

  -- a read under way is of the noted item, and of one that is not in the write set
  abbrev pub Reading : ℕ → List (Entry V) → Phase → Type 0
  Reading r ws (asking i) = (r ≡ i) × (find i ws ≡ None)
  Reading r ws (inside i) = (r ≡ i) × (find i ws ≡ None)
  Reading r ws (settling i) = (r ≡ i) × (find i ws ≡ None)
  Reading r ws resting = Unit {0}
  Reading r ws (leaving k) = Unit {0}
  Reading r ws past = Unit {0}

  pub record Scripted (n : Notes V) (o : Own V) : Type 0 where
    pub wrote : (i : ℕ) → last_write n.script i ≡ value_found i (writes_in o)
    pub gets : (held : ℕ → V) → Agrees held (reads_in o) → alone held n.script ≡ n.got
    pub mid : Reading n.reading (writes_in o) (phase o.process.place)

  pub agrees_first : (held : ℕ → V) (es : List (Entry V)) (e : Entry V) → Agrees held (es ++ e ∷ []) → Agrees held es × (held e.item ≡ e.value)
  agrees_first held [] e a = (tt, a.0)
  agrees_first held (x ∷ es) e a = let r = agrees_first held es e a.1 in ((a.0, r.0), r.1)

  pub agrees_found : (held : ℕ → V) (es : List (Entry V)) (i : ℕ) (e : Entry V) → Agrees held es → find i es ≡ Some e → held i ≡ e.value
  agrees_found held [] i e a h = absurd (true≢false (ap is_some (sym h)))
  agrees_found held (x ∷ es) i e a h = by (eqb x.item i) refl h (agrees_found held es i e a.1)
    where
      by : (b : Bool) → eqb x.item i ≡ b → cond b (Some x) (find i es) ≡ Some e → (find i es ≡ Some e → held i ≡ e.value) → held i ≡ e.value
      by true q k f = ap held (sym (eqb-true x.item i q)) ∙ a.0 ∙ ap (λ (y : Option (Entry V)). unwrap_or (option_map (λ z. z.value) y) x.value) k
      by false q k f = f k

  -- nothing is noted, and the read set and the values of the write set stay
  pub scripted_kept : (n : Notes V) (o o' : Own V) → reads_in o' ≡ reads_in o → ((i : ℕ) → value_found i (writes_in o') ≡ value_found i (writes_in o))
      → Reading n.reading (writes_in o') (phase o'.process.place) → Scripted n o → Scripted n o'
  scripted_kept n o o' r w m t = record { wrote = λ i. t.wrote i ∙ sym (w i); gets = λ held a. t.gets held (subst (Agrees held) r a); mid = m }

  -- a read from the bank ends
  pub scripted_read : (n : Notes V) (o o' : Own V) (e : Entry V) (bs : List BankRead) → reads_in o' ≡ reads_in o ++ e ∷ [] → writes_in o' ≡ writes_in o
      → phase o'.process.place ≡ resting → find n.reading (writes_in o) ≡ None → e.item ≡ n.reading → Scripted n o
      → Scripted (record n { script = reads n.reading ∷ n.script; got = e.value ∷ n.got; bank_reads = bs }) o'
  scripted_read n o o' e bs r w ph none it t =
      record {
        wrote = λ i. t.wrote i ∙ ap (value_found i) (sym w);
        gets = λ held a.
            let f = agrees_first held (reads_in o) e (subst (Agrees held) r a) in
            let u : view held n.script n.reading ≡ e.value =
            ap (λ (x : Option V). unwrap_or x (held n.reading)) (t.wrote n.reading ∙ ap (option_map (λ (z : Entry V). z.value)) none)
            ∙ ap held (sym it)
            ∙ f.1 in
            λ j. u j ∷ t.gets held f.0 j;
        mid = subst (Reading n.reading (writes_in o')) (sym ph) tt;
      }

  -- a read that is answered from the write set, or from the read set
  pub scripted_own : (n : Notes V) (o : Own V) (i : ℕ) (e : Entry V) → find i (writes_in o) ≡ Some e → Scripted n o → Scripted (record n { script = reads i ∷ n.script; got = e.value ∷ n.got }) o
  scripted_own n o i e h t =
      record {
        wrote = t.wrote;
        gets = λ held a.
            let u : view held n.script i ≡ e.value = ap (λ (x : Option V). unwrap_or x (held i)) (t.wrote i ∙ ap (option_map (λ (z : Entry V). z.value)) h) in
            λ j. u j ∷ t.gets held a j;
        mid = t.mid;
      }

  pub scripted_again : (n : Notes V) (o : Own V) (i : ℕ) (e : Entry V) → find i (writes_in o) ≡ None → find i (reads_in o) ≡ Some e → Scripted n o
      → Scripted (record n { script = reads i ∷ n.script; got = e.value ∷ n.got }) o
  scripted_again n o i e none h t =
      record {
        wrote = t.wrote;
        gets = λ held a.
            let u : view held n.script i ≡ e.value =
            ap (λ (x : Option V). unwrap_or x (held i)) (t.wrote i ∙ ap (option_map (λ (z : Entry V). z.value)) none)
            ∙ agrees_found held (reads_in o) i e a h in
            λ j. u j ∷ t.gets held a j;
        mid = t.mid;
      }

  -- a write
  pub scripted_write : (n : Notes V) (o o' : Own V) (i : ℕ) (v : V) → reads_in o' ≡ reads_in o → value_found i (writes_in o') ≡ Some v
      → ((j : ℕ) → (i ≡ j → ⊥) → value_found j (writes_in o') ≡ value_found j (writes_in o)) → phase o'.process.place ≡ resting → Scripted n o
      → Scripted (record n { script = writes i v ∷ n.script }) o'
  scripted_write n o o' i v r w others ph t =
      record {
        wrote = λ j. elim (cases_eq i j) [ inl e ↦ mine j e | inr ne ↦ cond-false _ _ _ (ne_eqb i j ne) ∙ t.wrote j ∙ sym (others j ne) ];
        gets = λ held a. t.gets held (subst (Agrees held) r a);
        mid = subst (Reading n.reading (writes_in o')) (sym ph) tt;
      }
    where
      mine : (j : ℕ) → i ≡ j → cond (eqb i j) (Some v) (last_write n.script j) ≡ value_found j (writes_in o')
      mine j e = cond-true _ _ _ (eq-eqb i j e) ∙ sym w ∙ ap (λ (k : ℕ). value_found k (writes_in o')) e
