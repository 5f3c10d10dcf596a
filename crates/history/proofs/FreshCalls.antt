-- What a process has read stays current while it is counted in, through every call.
use Rattle.std.proofs.Common.{◌≡◌, ℕ, zero, suc, ◌+◌, ◌-◌, ◌<◌, Bool, true, false, eqb, List, [], ◌∷◌, length, get_or, Some, None, Option, sym, refl, ap, ◌∙◌, subst, inl, inr, arith}
use Rattle.std.specs.List.{list_any, enumerate_from}
use Rattle.std.proofs.lemmas.Bool.{cases_eq, both_ways, or_parts, ne_eqb, eq-eqb}
use Rattle.table.specs.Sets.{blank_entry, find, item_of}
use Rattle.table.specs.declared.entry.Entry.{Entry}
use Rattle.table.specs.declared.entry.Part.TheVariants.{Reads}
use Rattle.rows.specs.Places.{count_from}
use Rattle.rows.specs.Primitives.{still}
use Rattle.rows.specs.declared.place.Place.{Place}
use Rattle.rows.specs.declared.place.Place.TheVariants.{Closed, Idle, R1, R2, R3, R4, R5, D1, D2, C, L1, L2, L3, L4, K, W, U, A1, A2, A3}
use Rattle.process.specs.Moves.{Move}
use Rattle.process.specs.Tells.{going}
use Rattle.process.specs.Traits.{traits, fresh}
use Rattle.process.specs.declared.record.Process.{Process}
use Rattle.store.specs.Calls.{older, called, remembered, holds_up}
use Rattle.store.specs.Model.{State, process, task_of, moved}
use Rattle.store.specs.Rows.{row}
use Rattle.store.specs.declared.calling.Call.{Call}
use Rattle.history.specs.Invariants.{Here, Own, own, reads_in, writes_in, phase, counting, counted, Standing, Ties, Look, away, fetching, weighing, stage, current, counted_entries, AllCurrent, Remembers, Mid, Fresh, Freshes}
use Rattle.history.proofs.Views.{RealTouch, RealNote, real_said, after_own, mine_after, others_after}
use Rattle.history.proofs.Sums.{slot_found, slot_none}
use Rattle.history.proofs.Finding.{times_some, find_index}
use Rattle.history.proofs.Deeds.{Deeds, Ready, by_deed, begin_move, write_move, start_move}
use Rattle.history.proofs.Counting.{Good, row_good}
use Rattle.history.proofs.CountCalls.{counts_call, writes_long, older_counts}
use Rattle.history.proofs.OwnerCalls.{older_owner}
use Rattle.history.proofs.TieCalls.{older_ties}
use Rattle.history.proofs.NumberCalls.{open_from_under}
use Rattle.history.proofs.Clear.{clear}
use Rattle.history.proofs.Current.{Fit}
use Rattle.history.proofs.Sorts.{Sort, plain, begun, grabs, decides, puts, frees, commits, is_begun}
use Rattle.history.proofs.Changing.{fits, step_sort, start_sort, begin_sort, write_sort}
use Rattle.history.proofs.Freshness.{LooksAt, entries_counted, Quiet, fresh_after}
use Rattle.history.proofs.FreshRows.{OwnFresh, not_past, own_go, own_from, past_row, row_own}

looks_both : (g : Look) (P Q : ℕ → ℕ → Type 0) → LooksAt g P → LooksAt g Q → LooksAt g (λ i o. P i o × Q i o)
looks_both away P Q a b = tt
looks_both (fetching i l) P Q a b = (a, b)
looks_both (weighing i l) P Q a b = (a, b)

looks_map : (g : Look) (P Q : ℕ → ℕ → Type 0) → ((i o : ℕ) → P i o → Q i o) → LooksAt g P → LooksAt g Q
looks_map away P Q f a = tt
looks_map (fetching i l) P Q f a = f i l.owner a
looks_map (weighing i l) P Q f a = f i l.owner a

looks_all : (g : Look) (P : ℕ → ℕ → Type 0) → ((i o : ℕ) → P i o) → LooksAt g P
looks_all away P f = tt
looks_all (fetching i l) P f = f i l.owner
looks_all (weighing i l) P f = f i l.owner

-- the remembered owner is the one of the traits
looks_owner : (pl : Place) → LooksAt (stage pl).look (λ i o. (traits pl).owner ≡ o)
looks_owner Closed = tt
looks_owner Idle = tt
looks_owner (R1 i) = tt
looks_owner (R2 i m) = tt
looks_owner (R3 i) = tt
looks_owner (R4 i l) = refl
looks_owner (R5 i l) = refl
looks_owner (D1 k a) = tt
looks_owner (D2 k m a) = tt
looks_owner C = tt
looks_owner (L1 i) = tt
looks_owner (L2 i l) = tt
looks_owner (L3 i l) = tt
looks_owner (L4 i n) = tt
looks_owner K = tt
looks_owner (W k) = tt
looks_owner (U i) = tt
looks_owner (A1 i z) = tt
looks_owner (A2 i n z) = tt
looks_owner (A3 z) = tt

-- a read under way is counted in on its item
looks_counted : {V : Type 0} (es : List (Entry V)) (pl : Place) → LooksAt (stage pl).look (λ i o. 0 < counting es (phase pl) i)
looks_counted es Closed = tt
looks_counted es Idle = tt
looks_counted es (R1 i) = tt
looks_counted es (R2 i m) = tt
looks_counted es (R3 i) = tt
looks_counted es (R4 i l) = rw (eq-eqb i i refl) (omega arith)
looks_counted es (R5 i l) = rw (eq-eqb i i refl) (omega arith)
looks_counted es (D1 k a) = tt
looks_counted es (D2 k m a) = tt
looks_counted es C = tt
looks_counted es (L1 i) = tt
looks_counted es (L2 i l) = tt
looks_counted es (L3 i l) = tt
looks_counted es (L4 i n) = tt
looks_counted es K = tt
looks_counted es (W k) = tt
looks_counted es (U i) = tt
looks_counted es (A1 i z) = tt
looks_counted es (A2 i n z) = tt
looks_counted es (A3 z) = tt

-- a process that begins is remembered by no other
pub unremembered : (qs : List Process) (n p : ℕ) → list_any (λ x. holds_up (x.0 + 1) x.1 p) (enumerate_from n qs) ≡ false → (k : ℕ) → k < length qs → (n + k + 1 ≡ p → ⊥) → (traits (get_or qs k fresh).place).owner ≡ p → ⊥
unremembered [] n p h k l d e = omega arith
unremembered (q ∷ qs) n p h zero l d e =
    let a = (or_parts (holds_up (n + 1) q p) _ h).0 in
    let x : eqb (n + 1) p ≡ false = ne_eqb (n + 1) p (λ z. d (omega arith)) in
    let y : eqb (traits q.place).owner p ≡ true = eq-eqb _ p e in
    both_ways true (rw (x, y) at a) refl
unremembered (q ∷ qs) n p h (suc k) l d e = unremembered qs (n + 1) p (or_parts (holds_up (n + 1) q p) _ h).1 k (omega arith) (λ z. d (omega arith)) e

module _ {V : Type 0} (blank : V) (s : State V) (v : Standing blank s) (ts : Ties blank s) where
  -- no commit writes an item that a process is counted in on
  no_commit : (p : ℕ) (m : Move V) (k : Sort blank s p m) → Here s p → (q i : ℕ) → Here s q → 0 < counted (own s q) i → commits blank s p m k i ≡ None
  no_commit p m (plain c k) h q i hq l = refl
  no_commit p m (begun c k w) h q i hq l = refl
  no_commit p m (grabs j a t u w x) h q i hq l = refl
  no_commit p m (puts j x t o c k) h q i hq l = refl
  no_commit p m (frees j a t o c k) h q i hq l = refl
  no_commit p m (decides a e u z k) h q i hq l = go' (find i (writes_in (own s p))) refl
    where
      go' : (o : Option (Entry V)) → find i (writes_in (own s p)) ≡ o → o ≡ None
      go' None f = refl
      go' (Some x) f = absurd (let w = find_index i (writes_in (own s p)) x (blank_entry blank) f in let y = clear blank s p v.counts h z i (times_some i (writes_in (own s p)) w.0 (blank_entry blank) w.1 (ap item_of w.2 ∙ w.3)) q hq in omega arith)

  -- a process that is open does not begin
  pub not_begun : (p : ℕ) (m : Move V) (k : Sort blank s p m) → (traits (process s.memory p).place).is_open ≡ true → is_begun blank s p m k ≡ false
  not_begun p m (plain c k) u = refl
  not_begun p m (begun c k w) u = absurd (both_ways _ (ap (λ x. (traits x).is_open) w) u)
  not_begun p m (grabs i n t l u' w) u = refl
  not_begun p m (decides a e u' z k) u = refl
  not_begun p m (puts i x t u' c k) u = refl
  not_begun p m (frees i n t u' c k) u = refl

  module _ (fs : Freshes blank s) where
    fresh_move : (p : ℕ) (m : Move V) (h : Here s p) (rt : RealTouch s.cells m.touch) (rn : RealNote m.note) (fit' : Fit blank (moved blank s p m)) (k : Sort blank s p m)
        → ((q : ℕ) → Here s q → (q ≡ p → ⊥) → LooksAt (stage (process s.memory q).place).look (λ i o. Quiet blank s p m v.counts.formed h rt rn (fits blank s v.counts) fit' k o)) → OwnFresh blank s p v.counts h (fs p h) m → Freshes blank (moved blank s p m)
    fresh_move p m h rt rn fit' k quiet mine q hq = elim (cases_eq q p) [ inl e ↦ rw e here_after | inr d ↦ other d ]
      where
        hs : Here s q
        hs = record { low = hq.low; high = hq.high }

        here_after : Fresh blank (moved blank s p m) (own (moved blank s p m) p)
        here_after =
            subst (Fresh blank (moved blank s p m)) (sym (mine_after blank s p m v.counts.formed h rn))
            (fresh_after blank s p m v.counts.formed h rt rn (fits blank s v.counts) fit' k (after_own (own s p) m) (λ i l. no_commit p m k h p i h (mine.items i l))
            (looks_map (stage m.process.place).look (λ i o. (0 < counted (own s p) i) × (o ≡ p → ⊥)) (λ i o. (commits blank s p m k i ≡ None) × Quiet blank s p m v.counts.formed h rt rn (fits blank s v.counts) fit' k o) (λ i w x. (no_commit p m k h p i h x.0, inl x.1)) mine.look) mine.fresh)

        other : (q ≡ p → ⊥) → Fresh blank (moved blank s p m) (own (moved blank s p m) q)
        other d =
            subst (Fresh blank (moved blank s p m)) (sym (others_after blank s p q m h hq.low d rn))
            (fresh_after blank s p m v.counts.formed h rt rn (fits blank s v.counts) fit' k (own s q) (λ i l. no_commit p m k h q i hs (let a = entries_counted (reads_in (own s q)) (phase (process s.memory q).place) i in omega arith))
            (looks_map (stage (process s.memory q).place).look (λ i o. (0 < counted (own s q) i) × Quiet blank s p m v.counts.formed h rt rn (fits blank s v.counts) fit' k o) (λ i o. (commits blank s p m k i ≡ None) × Quiet blank s p m v.counts.formed h rt rn (fits blank s v.counts) fit' k o) (λ i w x. (no_commit p m k h q i hs x.0, x.1))
            (looks_both (stage (process s.memory q).place).look (λ i o. 0 < counted (own s q) i) (λ i o. Quiet blank s p m v.counts.formed h rt rn (fits blank s v.counts) fit' k o) (looks_counted (reads_in (own s q)) (process s.memory q).place) (quiet q hs d))) (fs q hs))

    -- a call of a process at rest, which is behind nothing
    fresh_rest : (p : ℕ) (m : Move V) (r : Ready s p) (rt : RealTouch s.cells m.touch) (rn : RealNote m.note) (fit' : Fit blank (moved blank s p m)) (k : Sort blank s p m) → OwnFresh blank s p v.counts r.at (fs p r.at) m → Freshes blank (moved blank s p m)
    fresh_rest p m r rt rn fit' k o = fresh_move p m r.at rt rn fit' k (λ q hq d. looks_all (stage (process s.memory q).place).look _ (λ i w. inr (not_begun p m k (ap (λ x. (traits x).is_open) r.rests), λ e. not_past (phase (process s.memory p).place) (rw r.rests refl) e))) o

    own_write : (p i n : ℕ) (x : V) (r : Ready s p) → OwnFresh blank s p v.counts r.at (fs p r.at) (write_move (process s.memory p) (task_of blank s.memory p) i x n)
    own_write p i n x r =
        record {
          fresh = record { entries = (fs p r.at).entries; mid = (fs p r.at).mid };
          items = λ j l. let a = entries_counted (reads_in (own s p)) (phase (process s.memory p).place) j in omega arith;
          look = rw r.rests tt;
        }

    fresh_step : (p : ℕ) → Here s p → (traits (process s.memory p).place).under_way ≡ true → Fit blank (moved blank s p (row blank s p)) → Freshes blank (moved blank s p (row blank s p))
    fresh_step p h u f =
        let sn = v.counts.sane p h in
        let g : Good blank s p (process s.memory p).place (row blank s p) = row_good blank s p v.counts.formed h sn.reads sn.writes (process s.memory p).place u sn.at in
        let k : Sort blank s p (row blank s p) = step_sort blank s v ts p h u in
        let o : OwnFresh blank s p v.counts h (fs p h) (row blank s p) = row_own blank s p v.counts h (fs p h) v.owner (process s.memory p).place refl u sn.at in
        fresh_move p (row blank s p) h (real_said blank s.cells _) g.note f k (λ q hq d. looks_all (stage (process s.memory q).place).look _ (λ i w. inr (not_begun p (row blank s p) k (open_from_under _ u), λ e. past_row blank s p v.counts h (fs p h) (process s.memory p).place e))) o

    same_entries : (t : State V) → ((i : ℕ) → current blank t i ≡ current blank s i) → (es : List (Entry V)) → AllCurrent blank s es → AllCurrent blank t es
    same_entries t c [] a = tt
    same_entries t c (e ∷ es) a = (a.0 ∙ sym (c e.item), same_entries t c es a.1)

    -- one begin fewer is left
    older_fresh : (o : Own V) → Fresh blank s o → Fresh blank (older blank s) o
    older_fresh o y = record { entries = same_entries (older blank s) (λ i. refl) (counted_entries (reads_in o) (phase o.process.place)) y.entries; mid = mid (stage o.process.place).look y.mid }
      where
        rem : (i w : ℕ) → Remembers blank s i w → Remembers blank (older blank s) i w
        rem i w r = record { known = r.known; behind = r.behind; some = r.some }

        mid : (g : Look) → Mid blank s (o.part Reads) o.process.sizes.reads g → Mid blank (older blank s) (o.part Reads) o.process.sizes.reads g
        mid away y = tt
        mid (fetching i l) y = (rem i l.owner y.0, y.1)
        mid (weighing i l) y = (rem i l.owner y.0, y.1)

    rests_here : (p : ℕ) (r : Ready s p) (pl : Place) → phase pl ≡ phase Idle → (stage pl).look ≡ away → OwnFresh blank s p v.counts r.at (fs p r.at) (start_move (process s.memory p) pl)
    rests_here p r pl e a = own_go blank s p v.counts r.at (fs p r.at) going pl still (rw (e, r.rests) refl) (rw a tt) (rw a tt)

    ends_here : (p : ℕ) (r : Ready s p) (a : Bool) → OwnFresh blank s p v.counts r.at (fs p r.at) (start_move (process s.memory p) (count_from (task_of blank s.memory p) 0 a))
    ends_here p r a = own_from blank s p v.counts r.at (fs p r.at) going 0 a still (rw r.rests at (fs p r.at).entries) (λ i l. rw r.rests l)

module _ {V : Type 0} (blank : V) where
  pub older_standing : (s : State V) → Standing blank s → Standing blank (older blank s)
  older_standing s v =
      record {
        counts = older_counts blank s v.counts;
        commits = v.commits;
        numbers = record { locks = v.numbers.locks; each = λ p h. v.numbers.each p (record { low = h.low; high = h.high }); life = let a = v.numbers.life in omega arith };
        owner = older_owner blank s v.owner;
      }

  -- a begin: nobody else remembers the process
  begin_fresh : (s : State V) (v : Standing blank s) (ts : Ties blank s) (fs : Freshes blank s) (p : ℕ) → Here s p → (process s.memory p).place ≡ Closed → remembered s.memory.processes p ≡ false → Fit blank (moved blank (older blank s) p begin_move) → Freshes blank (moved blank (older blank s) p begin_move)
  begin_fresh s v ts fs p h e m f =
      let o : State V = older blank s in
      let vo : Standing blank o = older_standing s v in
      let to : Ties blank o = older_ties blank s ts in
      let fo : Freshes blank o = λ q hq. older_fresh blank s v ts fs (own s q) (fs q (record { low = hq.low; high = hq.high })) in
      let ho : Here o p = record { low = h.low; high = h.high } in
      fresh_move blank o vo to fo p begin_move ho tt tt f (begin_sort blank o vo to p ho e)
      (λ q hq d. looks_map (stage (process s.memory q).place).look (λ i w. (traits (process s.memory q).place).owner ≡ w) _ (λ i w x. inl (λ y. unremembered s.memory.processes 0 p m (q - 1) (let a = hq.high in let b = v.counts.formed.few in let c = hq.low in let l = v.counts.formed.sixteen in omega arith) (λ z. d (let c = hq.low in omega arith)) (x ∙ y))) (looks_owner (process s.memory q).place))
      (record { fresh = record { entries = tt; mid = tt }; items = λ i l. absurd (omega arith); look = tt })

  fresh_deeds : (s : State V) (v : Standing blank s) (ts : Ties blank s) (fs : Freshes blank s) → Deeds blank s (λ c o. Fit blank o.after → Freshes blank o.after)
  fresh_deeds s v ts fs =
      record {
        refuses = λ c k f. fs;
        begins = λ p h e m l f. begin_fresh s v ts fs p h e m f;
        finds_write = λ p i e r b c w f. fs;
        finds_read = λ p i e r b c w g f. fs;
        reads = λ p i r b c w g k f. fresh_rest blank s v ts fs p (start_move (process s.memory p) (R1 i)) r tt tt f (start_sort blank s v ts p (R1 i)) (read_here p i r);
        rewrites = λ p i x e r b c w f. fresh_rest blank s v ts fs p (write_move (process s.memory p) (task_of blank s.memory p) i x (process s.memory p).sizes.writes) r tt (let a = (slot_found i (task_of blank s.memory p).writes e e w).0 in let l = writes_long blank s v.counts p r.at in let z = (v.counts.sane p r.at).writes in omega arith) f (write_sort blank s v ts p i _ x r) (own_write blank s v ts fs p i _ x r);
        writes = λ p i x r b c w k f. fresh_rest blank s v ts fs p (write_move (process s.memory p) (task_of blank s.memory p) i x ((process s.memory p).sizes.writes + 1)) r tt (let a = slot_none i (task_of blank s.memory p).writes w in let l = writes_long blank s v.counts p r.at in omega arith) f (write_sort blank s v ts p i _ x r) (own_write blank s v ts fs p i _ x r);
        tries = λ p r f. fresh_rest blank s v ts fs p (start_move (process s.memory p) (count_from (task_of blank s.memory p) 0 false)) r tt tt f (start_sort blank s v ts p _) (ends_here blank s v ts fs p r false);
        aborts = λ p r f. fresh_rest blank s v ts fs p (start_move (process s.memory p) (count_from (task_of blank s.memory p) 0 true)) r tt tt f (start_sort blank s v ts p _) (ends_here blank s v ts fs p r true);
        steps = λ p h u f. fresh_step blank s v ts fs p h u f;
      }
    where
      read_here : (p i : ℕ) (r : Ready s p) → OwnFresh blank s p v.counts r.at (fs p r.at) (start_move (process s.memory p) (R1 i))
      read_here p i r = own_go blank s p v.counts r.at (fs p r.at) going (R1 i) still (rw r.rests refl) tt tt

  pub fresh_call : (s : State V) (c : Call V) → Standing blank s → Ties blank s → Freshes blank s → Freshes blank (called blank s c).after
  fresh_call s c v ts fs = by_deed blank s (λ c o. Fit blank o.after → Freshes blank o.after) (fresh_deeds s v ts fs) c (fits blank (called blank s c).after (counts_call blank s c v.counts))

  pub fresh_start : (s : State V) → ((p : ℕ) → process s.memory p ≡ fresh) → Freshes blank s
  fresh_start s n p h = rw (n p) (record { entries = tt; mid = tt })
