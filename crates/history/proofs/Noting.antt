-- What stands between each process's notes and its own: a call changes both for its caller only.
use Rattle.std.proofs.Common.{◌≡◌, ℕ, cond, eqb, ◌≤◌, inl, inr, sym, ap, ◌∙◌, subst}
use Rattle.std.proofs.lemmas.Bool.{cond-true, cond-false, eq-eqb, ne_eqb, cases_eq}
use Rattle.process.specs.Moves.{Move}
use Rattle.process.specs.Tells.{Told}
use Rattle.store.specs.Model.{State, Outcome, moved, accepted}
use Rattle.store.specs.declared.calling.Call.{Call}
use Rattle.history.specs.Invariants.{Formed, Here, Own, own}
use Rattle.history.specs.Notes.{Notes, caller, call_noted}
use Rattle.history.proofs.Views.{after_own, RealNote, mine_after, others_after}

module _ {V : Type 0} (P : Notes V → Own V → Type 0) where
  -- of each process of the store
  abbrev pub OfAll : State V → (ℕ → Notes V) → Type 0
  OfAll s n = (p : ℕ) → Here s p → P (n p) (own s p)

module _ {V : Type 0} (blank : V) (P : Notes V → Own V → Type 0) (s : State V) (m : ℕ) (n : ℕ → Notes V) where
  -- after a call
  abbrev pub After : Call V → Outcome V → Type 0
  After c o = OfAll P o.after (λ p. cond (eqb p (caller c)) (call_noted m c o.tells (n p)) (n p))

  noted_own : (c : Call V) (x : Told V) (p : ℕ) → p ≡ caller c → cond (eqb p (caller c)) (call_noted m c x (n p)) (n p) ≡ call_noted m c x (n (caller c))
  noted_own c x p e = cond-true (eqb p (caller c)) _ _ (eq-eqb p (caller c) e) ∙ ap (λ (q : ℕ). call_noted m c x (n q)) e

  noted_other : (c : Call V) (x : Told V) (p : ℕ) → (p ≡ caller c → ⊥) → cond (eqb p (caller c)) (call_noted m c x (n p)) (n p) ≡ n p
  noted_other c x p ne = cond-false (eqb p (caller c)) _ _ (ne_eqb p (caller c) ne)

  module _ (f : OfAll P s n) where
    -- nobody moves
    pub stays : (c : Call V) (x : Told V) → (Here s (caller c) → P (call_noted m c x (n (caller c))) (own s (caller c))) → After c (record { tells = x; after = s })
    stays c x h p there =
        elim (cases_eq p (caller c)) [
          | inl e ↦
              subst (λ (k : Notes V). P k (own s p)) (sym (noted_own c x p e))
              (subst (λ (q : ℕ). P (call_noted m c x (n (caller c))) (own s q)) (sym e) (h (subst (Here s) e there)))
          | inr ne ↦ subst (λ (k : Notes V). P k (own s p)) (sym (noted_other c x p ne)) (f p there)
        ]

    -- the caller moves, from a state with the same processes
    pub moves : (c : Call V) (r : State V) (u : Move V) → ((q : ℕ) → own r q ≡ own s q) → r.memory.number ≡ s.memory.number → Formed r → Here s (caller c) → RealNote u.note
        → P (call_noted m c u.tells (n (caller c))) (after_own (own s (caller c)) u) → After c (accepted blank r (caller c) u)
    moves c r u same num form h real g p there =
        let h' : Here r (caller c) = record { low = h.low; high = subst (λ (k : ℕ). caller c ≤ k) (sym num) h.high } in
        elim (cases_eq p (caller c)) [
          | inl e ↦
              subst (λ (k : Notes V). P k (own (moved blank r (caller c) u) p)) (sym (noted_own c u.tells p e))
              (subst (λ (q : ℕ). P (call_noted m c u.tells (n (caller c))) (own (moved blank r (caller c) u) q)) (sym e)
              (subst (P (call_noted m c u.tells (n (caller c)))) (sym (mine_after blank r (caller c) u form h' real ∙ ap (λ (o : Own V). after_own o u) (same (caller c)))) g))
          | inr ne ↦
              subst (λ (k : Notes V). P k (own (moved blank r (caller c) u) p)) (sym (noted_other c u.tells p ne))
              (subst (P (n p)) (sym (others_after blank r (caller c) p u h' there.low ne real ∙ same p)) (f p (record { low = there.low; high = subst (λ (k : ℕ). p ≤ k) num there.high })))
        ]
