-- What a worker without a thread stands for, call by call.
use Rattle.std.proofs.Common.{◌≡◌, ◌≤◌, List, ◌++◌, length, drop, Option, Some, None, All, ap, sym, ◌∙◌, subst}
use Rattle.nf_base.specs.declared.func.Func.{Func}
use Rattle.nf_base.specs.declared.packet.Packet.{Packet}
use Rattle.nf_base.specs.declared.share.Share.{Share}
use Rattle.nf_base.specs.declared.state.State.{State}
use Rattle.nf_base.specs.Functions.{function_of}
use Rattle.nf_base.specs.Step.{opening}
use Rattle.vig_tables.specs.TablesState.{TablesState}
use Rattle.shard_machine.specs.declared.event.Answer.{Answer}
use Rattle.shard_machine.proofs.Sent.{append_nil, append_twice}
use Rattle.ring_line.specs.declared.halt.Halt.{Halt}
use Rattle.ring_line.specs.declared.inline_worker.InlineWorker.{InlineWorker}
use Rattle.ring_line.specs.Packs.{answers_of}
use Rattle.ring_line.specs.Handled.{CanServe, CameTo}
use Rattle.ring_line.specs.Handed.{Finishes}
use Rattle.ring_line.specs.InlineWorkers.{InlineWorkerStands, InlineWorkerHalted, CameOn}
use Rattle.ring_line.proofs.Handling.{ends_before}
use Rattle.ring_line.proofs.Packing.{answered_past}
use Rattle.ring_line.proofs.Telling.{all_second}

-- what its queue handler came to, where all answers are collected and the share goes on
pub came_so_far : {G : Type 0} (inline_worker : InlineWorker G) (func : Func) (share : Share) (packets : List Packet) (answers : List Answer) → (st : InlineWorkerStands inline_worker func share packets answers) → length inline_worker.current.answers ≤ inline_worker.at → inline_worker.queue_handler.halt ≡ None →
    CameTo (function_of inline_worker.queue_handler.func) inline_worker.queue_handler.tables.share (opening (function_of func)) st.worked answers None inline_worker.queue_handler.tables.state
came_so_far inline_worker func share packets answers st past running =
    let f = function_of func in
    let told : answers ++ drop inline_worker.at (answers_of inline_worker.current) ≡ answers = ap (λ (as_ : List Answer). answers ++ as_) (answered_past inline_worker.current.packets inline_worker.current.answers inline_worker.at past) ∙ append_nil answers in
    subst (λ (g : Func). CameTo (function_of g) inline_worker.queue_handler.tables.share (opening f) st.worked answers None inline_worker.queue_handler.tables.state) (sym st.func_is)
    (subst (λ (s : Share). CameTo f s (opening f) st.worked answers None inline_worker.queue_handler.tables.state) (sym st.share_is)
    (subst (λ (o : Option Halt). CameTo f share (opening f) st.worked answers o inline_worker.queue_handler.tables.state) running
    (subst (λ (as_ : List Answer). CameTo f share (opening f) st.worked as_ inline_worker.queue_handler.halt inline_worker.queue_handler.tables.state) told st.came)))

-- the packets that wait can be worked
pub waiting_served : {G : Type 0} (inline_worker : InlineWorker G) (func : Func) (share : Share) (packets : List Packet) (answers : List Answer) → InlineWorkerStands inline_worker func share packets answers → All (CanServe inline_worker.queue_handler.func) inline_worker.filling.packets
waiting_served inline_worker func share packets answers st =
    subst (λ (g : Func). All (CanServe g) inline_worker.filling.packets) (sym st.func_is) (all_second (CanServe func) st.worked inline_worker.filling.packets (subst (All (CanServe func)) st.packets_are st.served))

-- the same as of the function that was asked for
pub came_of : {G : Type 0} (inline_worker : InlineWorker G) (func : Func) (share : Share) (packets : List Packet) (answers : List Answer) → (st : InlineWorkerStands inline_worker func share packets answers) → (all : List Packet) (told : List Answer) (halt : Option Halt) (state : State) →
    CameTo (function_of inline_worker.queue_handler.func) inline_worker.queue_handler.tables.share (opening (function_of func)) all told halt state → CameTo (function_of func) share (opening (function_of func)) all told halt state
came_of inline_worker func share packets answers st all told halt state h =
    subst (λ (s : Share). CameTo (function_of func) s (opening (function_of func)) all told halt state) st.share_is
    (subst (λ (g : Func). CameTo (function_of g) inline_worker.queue_handler.tables.share (opening (function_of func)) all told halt state) st.func_is h)

-- it ends where its share had ended
pub ends_halted : {G : Type 0} (inline_worker : InlineWorker G) (func : Func) (share : Share) (packets : List Packet) (answers : List Answer) (halt : Halt) (tables : TablesState) → inline_worker.queue_handler.halt ≡ Some halt → tables ≡ inline_worker.queue_handler.tables → tables.decls ≡ inline_worker.queue_handler.func.chains → InlineWorkerStands inline_worker func share packets answers →
    Finishes (InlineWorkerHalted inline_worker) (function_of func) share packets answers tables
ends_halted inline_worker func share packets answers halt tables ended same decls st =
    let f = function_of func in
    let told = answers ++ drop inline_worker.at (answers_of inline_worker.current) in
    let before : CameTo f share (opening f) st.worked told (Some halt) tables.state =
    subst (λ (o : Option Halt). CameTo f share (opening f) st.worked told o tables.state) ended (subst (λ (t : TablesState). CameTo f share (opening f) st.worked told inline_worker.queue_handler.halt t.state) (sym same) st.came) in
    let all : CameTo f share (opening f) (st.worked ++ inline_worker.filling.packets) told (Some halt) tables.state = ends_before f share (opening f) st.worked inline_worker.filling.packets told halt before in
    record {
      decls = decls ∙ ap (λ (g : Func). g.chains) st.func_is;
      share_is = ap (λ (t : TablesState). t.share) same ∙ st.share_is;
      more = drop inline_worker.at (answers_of inline_worker.current);
      halt = Some halt;
      came = subst (λ (ps : List Packet). CameTo f share (opening f) ps told (Some halt) tables.state) (sym st.packets_are) all;
      halted = λ at has. (sym ended ∙ sym st.last ∙ has.1, answered_past inline_worker.current.packets inline_worker.current.answers inline_worker.at has.0);
    }

-- or once the packets that wait are worked
pub ends_worked : {G : Type 0} (inline_worker : InlineWorker G) (func : Func) (share : Share) (packets : List Packet) (answers : List Answer) (tables : TablesState) → inline_worker.queue_handler.halt ≡ None → tables.decls ≡ inline_worker.queue_handler.func.chains → tables.share ≡ inline_worker.queue_handler.tables.share →
    ((first : State) → (packets : List Packet) → (told : List Answer) → All (CanServe inline_worker.queue_handler.func) inline_worker.filling.packets → CameTo (function_of inline_worker.queue_handler.func) inline_worker.queue_handler.tables.share first packets told None inline_worker.queue_handler.tables.state →
    CameOn (function_of inline_worker.queue_handler.func) inline_worker.queue_handler.tables.share first (packets ++ inline_worker.filling.packets) told tables.state) → InlineWorkerStands inline_worker func share packets answers → Finishes (InlineWorkerHalted inline_worker) (function_of func) share packets answers tables
ends_worked inline_worker func share packets answers tables running decls same on st =
    let f = function_of func in
    let behind = drop inline_worker.at (answers_of inline_worker.current) in
    let told = answers ++ behind in
    let before : CameTo (function_of inline_worker.queue_handler.func) inline_worker.queue_handler.tables.share (opening f) st.worked told None inline_worker.queue_handler.tables.state =
    subst (λ (g : Func). CameTo (function_of g) inline_worker.queue_handler.tables.share (opening f) st.worked told None inline_worker.queue_handler.tables.state) (sym st.func_is)
    (subst (λ (s : Share). CameTo f s (opening f) st.worked told None inline_worker.queue_handler.tables.state) (sym st.share_is)
    (subst (λ (o : Option Halt). CameTo f share (opening f) st.worked told o inline_worker.queue_handler.tables.state) running st.came)) in
    let r = on (opening f) st.worked told (waiting_served inline_worker func share packets answers st) before in
    let all = came_of inline_worker func share packets answers st (st.worked ++ inline_worker.filling.packets) (told ++ r.more) r.halt tables.state r.came in
    record {
      decls = decls ∙ ap (λ (g : Func). g.chains) st.func_is;
      share_is = same ∙ st.share_is;
      more = behind ++ r.more;
      halt = r.halt;
      came = subst (λ (as_ : List Answer). CameTo f share (opening f) packets as_ r.halt tables.state) (append_twice answers behind r.more)
          (subst (λ (ps : List Packet). CameTo f share (opening f) ps (told ++ r.more) r.halt tables.state) (sym st.packets_are) all);
      halted = λ at has. let bad : None ≡ Some at = sym running ∙ sym st.last ∙ has.1 in cc;
    }
