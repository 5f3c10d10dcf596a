-- Where every open transaction is past try-commit or abort, a step lowers what all have left to do, or changes one place only.
use Rattle.std.proofs.Common.{◌≡◌, ℕ, ◌+◌, ◌*◌, ◌<◌, true, false, eqb, ltb, ◌⊎◌, length, sym, refl, ap, ◌∙◌, subst, ap₂, inl, inr, arith}
use Rattle.std.proofs.lemmas.Bool.{both_ways, cases_eq, ne_eqb, le-ltb, or_from}
use Rattle.table.specs.Sets.{start, entry_at}
use Rattle.table.specs.declared.entry.Part.TheVariants.{Reads}
use Rattle.rows.specs.Primitives.{touched}
use Rattle.rows.specs.declared.place.Place.{Place}
use Rattle.rows.specs.declared.place.Place.TheVariants.{Closed, Idle, R1, R2, R3, R4, R5, D1, D2, C, L1, L2, L3, L4, K, W, U, A1, A2, A3}
use Rattle.process.specs.Moves.{Move, noted}
use Rattle.process.specs.Traits.{traits}
use Rattle.store.specs.Calls.{called, short_table, no_process}
use Rattle.store.specs.Model.{State, process, moved}
use Rattle.store.specs.Rows.{row}
use Rattle.store.specs.declared.calling.Call.TheVariants as call
use Rattle.history.specs.Invariants.{Formed, Here, Own, part, own, total, Standing}
use Rattle.history.specs.Endings.{AllCelled, AllEnding, need, ends_by, is_ending, weight, todo}
use Rattle.history.proofs.Views.{RealNote, after_note, after_own, mine_after, others_after}
use Rattle.history.proofs.Sums.{total_one}
use Rattle.history.proofs.Counting.{Good, row_good}
use Rattle.history.proofs.OwnerCalls.{standing_call}
use Rattle.history.proofs.Celling.{celled_call}
use Rattle.history.proofs.Advancing.{Can, patience, item_at, Advances, row_advances}

pub busy : (pl : Place) → is_ending pl ≡ true → ((traits pl).is_open ≡ true) × ((traits pl).under_way ≡ true)
busy Closed h = absurd (both_ways false refl h)
busy Idle h = absurd (both_ways false refl h)
busy (R1 i) h = (refl, refl)
busy (R2 i m) h = (refl, refl)
busy (R3 i) h = (refl, refl)
busy (R4 i l) h = (refl, refl)
busy (R5 i l) h = (refl, refl)
busy (D1 k a) h = (refl, refl)
busy (D2 k m a) h = (refl, refl)
busy C h = (refl, refl)
busy (L1 i) h = (refl, refl)
busy (L2 i l) h = (refl, refl)
busy (L3 i l) h = (refl, refl)
busy (L4 i n) h = (refl, refl)
busy K h = (refl, refl)
busy (W k) h = (refl, refl)
busy (U i) h = (refl, refl)
busy (A1 i z) h = (refl, refl)
busy (A2 i n z) h = (refl, refl)
busy (A3 z) h = (refl, refl)

module _ {V : Type 0} (blank : V) where
  -- all that the calls keep, where every open transaction is past an accepted try-commit or abort
  pub record Closing (s : State V) : Type 0 where
    pub standing : Standing blank s
    pub celled : AllCelled s
    pub ending : AllEnding s

  -- a step that is not refused
  pub stepped : (s : State V) (p : ℕ) → Formed s → Here s p → is_ending (process s.memory p).place ≡ true → (called blank s (call.Step p)).after ≡ moved blank s p (row blank s p)
  stepped s p f h e =
      let a : short_table s.memory.entries s.memory.number ≡ false = le-ltb (length s.memory.entries) (16 * s.memory.number) f.long in
      let b : no_process s.memory p ≡ false = or_from (eqb p 0) (ltb s.memory.number p) (ne_eqb p 0 (λ x. let l = h.low in omega arith)) (le-ltb s.memory.number p h.high) in
      let c = busy (process s.memory p).place e in
      rw (a, b, c.0, c.1) refl

  module _ (s : State V) (p : ℕ) (m : Move V) (f : Formed s) (h : Here s p) (rn : RealNote m.note) where
    todo_move : todo (moved blank s p m) + weight (own s p) ≡ todo s + weight (after_own (own s p) m)
    todo_move =
        let was : ℕ → ℕ = λ q. weight (own s q) in
        let new : ℕ → ℕ = λ q. weight (own (moved blank s p m) q) in
        let a : total new s.memory.number + was p ≡ total was s.memory.number + new p = total_one was new p s.memory.number h.low h.high (λ q l d. ap weight (sym (others_after blank s p q m h l d rn))) in
        let b : new p ≡ weight (after_own (own s p) m) = ap weight (mine_after blank s p m f h rn) in
        omega arith

    ending_move : ((traits m.process.place).is_open ≡ true → is_ending m.process.place ≡ true) → AllEnding s → AllEnding (moved blank s p m)
    ending_move e a q hq = elim (cases_eq q p) [
      | inl x ↦ rw x (subst (λ (o : Own V). (traits o.process.place).is_open ≡ true → is_ending o.process.place ≡ true) (sym (mine_after blank s p m f h rn)) e)
      | inr d ↦ subst (λ (o : Own V). (traits o.process.place).is_open ≡ true → is_ending o.process.place ≡ true) (sym (others_after blank s p q m h hq.low d rn)) (a q (record { low = hq.low; high = hq.high }))
    ]

  abbrev pub patience_of : State V → ℕ → ℕ
  patience_of s p = patience blank s.cells (item_at blank s p) (process s.memory p).place

  -- a step that was no real advance: of all, only the place of p has changed
  pub record Quiet (s : State V) (p : ℕ) (t : State V) : Type 0 where
    pub todo_same : todo t ≡ todo s
    pub cells_same : t.cells ≡ s.cells
    pub ends : is_ending (process t.memory p).place ≡ true
    pub like : need (process t.memory p).place ≡ need (process s.memory p).place
    pub sooner : Can blank s.cells (need (process s.memory p).place) → patience_of t p < patience_of s p

  -- any step of a process that ends
  pub record Stepped (s : State V) (p : ℕ) (t : State V) : Type 0 where
    pub after : Closing t
    pub number : t.memory.number ≡ s.memory.number
    pub way : (todo t < todo s) ⊎ Quiet s p t

  module _ (s : State V) (c : Closing s) (p : ℕ) (h : Here s p) (e : is_ending (process s.memory p).place ≡ true) where
    by : (m : Move V) → RealNote m.note → Standing blank (moved blank s p m) → AllCelled (moved blank s p m) → Advances blank s p (process s.memory p).place m → Stepped s p (moved blank s p m)
    by m rn st cl (inl f) =
        let w = todo_move s p m c.standing.counts.formed h rn in
        let l = f.less in
        record { after = record { standing = st; celled = cl; ending = ending_move s p m c.standing.counts.formed h rn f.ends c.ending }; number = refl; way = inl (omega arith) }
    by m rn st cl (inr f) =
        let w = todo_move s p m c.standing.counts.formed h rn in
        let g : is_ending f.to ≡ true = ap ends_by f.like ∙ e in
        let a : m.process.place ≡ f.to = ap (λ q. q.place) f.becomes in
        let mine : (process (moved blank s p m).memory p).place ≡ f.to = ap (λ (o : Own V). o.process.place) (mine_after blank s p m c.standing.counts.formed h rn) ∙ a in
        let same : weight (after_own (own s p) m) ≡ weight (own s p) = ap₂ (λ q n. weight (record { process = q; part = after_note (part s p) n })) f.becomes f.note ∙ f.equal in
        let cells : touched blank s.cells m.touch ≡ s.cells = ap (touched blank s.cells) f.touch in
        let entries : noted s.memory.entries p m.note ≡ s.memory.entries = ap (noted s.memory.entries p) f.note in
        let pat : patience_of (moved blank s p m) p ≡ patience blank s.cells (item_at blank s p) f.to =
        ap (patience blank (touched blank s.cells m.touch) (item_at blank (moved blank s p m) p)) mine ∙ ap₂ (λ cs es. patience blank cs (λ k. (entry_at blank es (start p Reads + k)).item) f.to) cells entries in
        record {
          after = record { standing = st; celled = cl; ending = ending_move s p m c.standing.counts.formed h rn (λ _. ap is_ending a ∙ g) c.ending };
          number = refl;
          way = inr (record { todo_same = omega arith; cells_same = cells; ends = ap is_ending mine ∙ g; like = ap need mine ∙ f.like; sooner = λ can. rw pat (f.sooner can) });
        }

    pub step_any : Stepped s p (called blank s (call.Step p)).after
    step_any =
        let v = c.standing in
        let q = stepped s p v.counts.formed h e in
        let sn = v.counts.sane p h in
        let g : Good blank s p (process s.memory p).place (row blank s p) = row_good blank s p v.counts.formed h sn.reads sn.writes (process s.memory p).place (busy _ e).1 sn.at in
        let st : Standing blank (moved blank s p (row blank s p)) = subst (Standing blank) q (standing_call blank s (call.Step p) v) in
        let cl : AllCelled (moved blank s p (row blank s p)) = subst AllCelled q (celled_call blank s (call.Step p) v.counts c.celled) in
        subst (Stepped s p) (sym q) (by (row blank s p) g.note st cl (row_advances blank s p v h (process s.memory p).place refl e (c.celled p h)))
