-- Of the numbers from 1 to n that pass a test, one has the highest measure, or none passes.
use Rattle.std.proofs.Common.{◌≡◌, ℕ, zero, suc, ◌<◌, ◌≤◌, Bool, true, false, ◌⊎◌, ap, ◌∙◌, refl, inl, inr, arith}
use Rattle.std.proofs.lemmas.Bool.{both_ways, cases_Bool, cases_eq, cases_lt}
use Rattle.history.specs.Invariants.{total}

pub record Highest (f : ℕ → Bool) (g : ℕ → ℕ) (n : ℕ) : Type 0 where
  pub who : ℕ
  pub low : 0 < who
  pub high : who ≤ n
  pub yes : f who ≡ true
  pub top : (q : ℕ) → 0 < q → q ≤ n → f q ≡ true → g q ≤ g who

pub highest : (f : ℕ → Bool) (g : ℕ → ℕ) (n : ℕ) → Highest f g n ⊎ ((q : ℕ) → 0 < q → q ≤ n → f q ≡ false)
highest f g zero = inr (λ q l k. absurd (omega arith))
highest f g (suc n) = more (highest f g n) (cases_Bool (f (suc n)))
  where
    more : Highest f g n ⊎ ((q : ℕ) → 0 < q → q ≤ n → f q ≡ false) → (f (suc n) ≡ true) ⊎ (f (suc n) ≡ false) → Highest f g (suc n) ⊎ ((q : ℕ) → 0 < q → q ≤ suc n → f q ≡ false)
    more (inl w) (inr fails) = inl (record { who = w.who; low = w.low; high = (let x = w.high in omega arith); yes = w.yes; top = λ q l k y. elim (cases_eq q (suc n)) [ inl e ↦ absurd (both_ways (f q) (ap f e ∙ fails) y) | inr d ↦ w.top q l (omega arith) y ] })
    more (inr z) (inr fails) = inr (λ q l k. elim (cases_eq q (suc n)) [ inl e ↦ ap f e ∙ fails | inr d ↦ z q l (omega arith) ])
    more (inr z) (inl passes) = inl (record { who = suc n; low = omega arith; high = omega arith; yes = passes; top = λ q l k y. elim (cases_eq q (suc n)) [ inl e ↦ rw e (omega arith) | inr d ↦ absurd (both_ways (f q) (z q l (omega arith)) y) ] })
    more (inl w) (inl passes) = elim (cases_lt (g w.who) (g (suc n))) [
      | inl less ↦ inl (record { who = suc n; low = omega arith; high = omega arith; yes = passes; top = λ q l k y. elim (cases_eq q (suc n)) [ inl e ↦ rw e (omega arith) | inr d ↦ (let x = w.top q l (omega arith) y in omega arith) ] })
      | inr least ↦ inl (record { who = w.who; low = w.low; high = (let x = w.high in omega arith); yes = w.yes; top = λ q l k y. elim (cases_eq q (suc n)) [ inl e ↦ rw e least | inr d ↦ w.top q l (omega arith) y ] })
    ]

pub total_nil : (f : ℕ → ℕ) (n : ℕ) → ((q : ℕ) → 0 < q → q ≤ n → f q ≡ 0) → total f n ≡ 0
total_nil f zero h = refl
total_nil f (suc n) h = let a = h (suc n) (omega arith) (omega arith) in let b = total_nil f n (λ q l k. h q l (omega arith)) in omega arith
