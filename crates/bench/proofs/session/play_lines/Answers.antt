use Rattle.std.proofs.Common.{◌≡◌, ◌+◌, rules, [], refl, length, string_bytes, sym, ap, ◌∙◌, arith}
use mathlib.Core.Logic.{inl}
use Rattle.script.specs.Grammar.{lines_of}
use Rattle.script.specs.Lines.{lines_left}
use Rattle.store.specs.Model.{state}
use Rattle.bench.proofs.Outputs.{line_more, lines_short, reaches_more}
use Rattle.bench.proofs.session.play_lines.Goals as goal

pub loop-i-init-derived : goal.loop-i-init-derived
loop-i-init-derived g c =
    let given = c.into_iter-i-iterator.ensures.into_iter_gives in
    let count : c.into_iter-i-iterator.result.count ≡ 0 = ap (λ r. r.count) given ∙ c.enumerate-i-items.ensures.count in
    let lines : lines_left c.into_iter-i-iterator.result.iter ≡ lines_of c.args.input.now = ap (λ r. lines_left r.iter) given ∙ ap lines_left c.enumerate-i-items.ensures.source ∙ c.new.ensures in
    ((tt, tt, inl (omega (arith, count, ap length lines, lines_short c.args.input.now))), tt)

pub loop-i-init : goal.loop-i-init
loop-i-init g c =
    let given = c.into_iter-i-iterator.ensures.into_iter_gives in
    let count : c.into_iter-i-iterator.result.count ≡ 0 = ap (λ r. r.count) given ∙ c.enumerate-i-items.ensures.count in
    let lines : lines_left c.into_iter-i-iterator.result.iter ≡ lines_of c.args.input.now = ap (λ r. lines_left r.iter) given ∙ ap lines_left c.enumerate-i-items.ensures.source ∙ c.new.ensures in (
      search rules,
      omega (arith, count, ap length lines, lines_short c.args.input.now),
      (record { first = []; rest = lines_of c.args.input.now; whole = refl; after = refl }, sym lines),
      refl,
      refl,
    )

pub loop-i-preserved : goal.loop-i-preserved
loop-i-preserved g c =
    let step = c.in-Some.ensures.steps in
    let known = c.play_next.ensures in
    let before = c.loop-i.invariant in (
      line_more g.B.Value.Kind.blank g.B.Value.Kind.packing g.B.Value.Kind.unpacking (state (g.B.Bank.cells c.loop-i.bank) c.loop-i.store c.loop-i.table.entries.now)
          (state (g.B.Bank.cells c.play_next.new.bank) c.play_next.new.store c.play_next.new.table.entries.now) (c.loop-i.i-iterator.count + 1) (c.in-Some.i + 1) (c.next.new.self.count + 1)
          (lines_left c.loop-i.i-iterator.iter) (lines_left c.next.new.self.iter) c.in-Some.line.now (string_bytes c.loop-i.out) (string_bytes c.play_next.new.out) _
          step.0 (ap (λ n. n + 1) step.1) (ap (λ n. n + 1) step.2) known.state c.in_ok-play_next.ensures.text before.0,
      omega (arith, ap length step.0, step.2, before.1),
      reaches_more g.B.Value.Kind.blank g.B.Value.Kind.packing g.B.Value.Kind.unpacking (state (g.B.Bank.cells c.args.bank.now) c.args.store.now c.args.table.now.entries.now) _ _ _ _ _ before.2.0 (before.2.1 ∙ step.0) known.state,
      known.bank ∙ before.3,
      known.table ∙ before.4,
    )

pub returns-in_err-play_next-clause-part : goal.returns-in_err-play_next-clause-part
returns-in_err-play_next-clause-part g c =
    let before = c.loop-i.invariant in
    (reaches_more g.B.Value.Kind.blank g.B.Value.Kind.packing g.B.Value.Kind.unpacking (state (g.B.Bank.cells c.args.bank.now) c.args.store.now c.args.table.now.entries.now) _ _ _ _ _ before.2.0 (before.2.1 ∙ c.in-Some.ensures.steps.0) c.play_next.ensures.state).0
