use Rattle.std.proofs.Common.{List, ◌++◌, sym, subst}
use Rattle.nf_base.specs.declared.packet.Packet.{Packet}
use Rattle.nf_base.specs.Functions.{function_of}
use Rattle.vig_tables.specs.TablesState.{TablesState}
use Rattle.ring_line.specs.Packs.{answers_of}
use Rattle.ring_line.specs.Handled.{CameTo}
use Rattle.ring_line.proofs.inline_worker.work.work_rest.Goals as goal

pub returns-clause-came : goal.returns-clause-came
returns-clause-came g c = λ first packets told served before.
    let queue_handler = c.args.queue_handler in
    let pack = c.answer.new.pack in
    let after = c.answer.new.self in
    let h = c.answer.ensures.came first packets told served before in
    record {
      more = answers_of pack;
      halt = after.halt;
      came = subst (λ (t : TablesState). CameTo (function_of queue_handler.func) queue_handler.tables.share first (packets ++ c.args.pack.packets) (told ++ answers_of pack) after.halt t.state) (sym c.into_tables.ensures.tables)
          (subst (λ (ps : List Packet). CameTo (function_of queue_handler.func) queue_handler.tables.share first (packets ++ ps) (told ++ answers_of pack) after.halt after.tables.state) c.answer.ensures.packets h);
    }
