use Rattle.std.proofs.Common.{◌≡◌, rules}
use Rattle.store.specs.Model.{state}
use Rattle.bench.specs.Plays.{started}
use Rattle.bench.proofs.Outputs.{holds_some}
use Rattle.bench.proofs.session.play.Goals as goal

pub returns-clause-part : goal.returns-clause-part
returns-clause-part g c =
    let after : state c.start-store.new.bank.records.now c.start-store.result c.start-store.new.table.entries.now ≡ started c.args.records.now c.args.entries.now = search rules in
    holds_some g.V.Kind.blank g.V.Kind.packing g.V.Kind.unpacking c.args.records.now c.args.entries.now c.args.input.now c.first_bytes.result.now _ _ after c.first_bytes.ensures c.play_lines.ensures.part _ _
    (search rules) (search rules)
