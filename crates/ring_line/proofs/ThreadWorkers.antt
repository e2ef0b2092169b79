-- What a worker stands for, call by call.
use Rattle.std.proofs.Common.{◌≡◌, zero, suc, List, [], ◌∷◌, ◌++◌, drop, Option, All, ap, ap₂, sym, ◌∙◌, subst, arith}
use Rattle.std.proofs.lemmas.List.Elements.{All-append}
use Rattle.nf_base.specs.declared.func.Func.{Func}
use Rattle.nf_base.specs.declared.packet.Packet.{Packet}
use Rattle.nf_base.specs.declared.share.Share.{Share}
use Rattle.nf_base.specs.Functions.{function_of}
use Rattle.nf_base.specs.Step.{opening}
use Rattle.vig_tables.specs.TablesState.{TablesState}
use Rattle.shard_machine.specs.declared.event.Answer.{Answer}
use Rattle.shard_machine.proofs.Sent.{append_twice}
use Rattle.ring_line.specs.declared.halt.Halt.{Halt}
use Rattle.ring_line.specs.declared.thread_worker.ThreadWorker.{ThreadWorker}
use Rattle.ring_line.specs.Packs.{Packed, packets_in, answers_in, answers_of, TellsAtLast}
use Rattle.ring_line.specs.Handled.{CanServe, CameTo}
use Rattle.ring_line.specs.WorkerLoops.{Given, HasAnswered}
use Rattle.ring_line.specs.Handed.{Finishes}
use Rattle.ring_line.specs.ThreadWorkers.{AreOpened, IsLast, HasHalted}
use Rattle.ring_line.proofs.Packing.{answers_append, answered_past, tells_end}

-- the worker came to what it was sent
worker_came : (given : Given) (func : Func) (share : Share) (packets : List Packet) (packs sent_back : List Packed) (tables : TablesState) (halt : Option Halt) → AreOpened given func share → All (CanServe func) packets → packets_in packs ≡ packets →
    HasAnswered given packs sent_back tables halt → CameTo (function_of func) share (opening (function_of func)) packets (answers_in sent_back) halt tables.state
worker_came given func share packets packs sent_back tables halt opened served are h =
    let all : All (CanServe given.func) (packets_in packs) = subst (λ (g : Func). All (CanServe g) (packets_in packs)) (sym opened.func_is) (subst (All (CanServe func)) (sym are) served) in
    subst (λ (ps : List Packet). CameTo (function_of func) share (opening (function_of func)) ps (answers_in sent_back) halt tables.state) are
    (subst (λ (t : TablesState). CameTo (function_of func) t.share t.state (packets_in packs) (answers_in sent_back) halt tables.state) opened.tables_are
    (subst (λ (g : Func). CameTo (function_of g) given.tables.share given.tables.state (packets_in packs) (answers_in sent_back) halt tables.state) opened.func_is (h.came all)))

pub worker_ends : (thread_worker : ThreadWorker) (given : Given) (func : Func) (share : Share) (packets : List Packet) (answers : List Answer) (packs came left sent_back : List Packed) (tables : TablesState) (halt : Option Halt) → AreOpened given func share → All (CanServe func) packets → packets_in packs ≡ packets →
    sent_back ≡ came ++ left → answers_in came ≡ answers ++ drop thread_worker.at (answers_of thread_worker.current) → IsLast came thread_worker.current → tables.decls ≡ given.func.chains → HasAnswered given packs sent_back tables halt → Finishes (HasHalted thread_worker) (function_of func) share packets answers tables
worker_ends thread_worker given func share packets answers packs came left sent_back tables halt opened served are split had last decls h =
    let behind = drop thread_worker.at (answers_of thread_worker.current) in
    let all : answers_in sent_back ≡ answers ++ (behind ++ answers_in left) =
    ap answers_in split ∙ answers_append came left ∙ ap (λ (as_ : List Answer). as_ ++ answers_in left) had ∙ append_twice answers behind (answers_in left) in
    record {
      decls = decls ∙ ap (λ (g : Func). g.chains) opened.func_is;
      share_is = h.share ∙ ap (λ (t : TablesState). t.share) opened.tables_are;
      more = behind ++ answers_in left;
      halt = halt;
      came = subst (λ (as_ : List Answer). CameTo (function_of func) share (opening (function_of func)) packets as_ halt tables.state) all (worker_came given func share packets packs sent_back tables halt opened served are h);
      halted = λ at has.
          let end = tells_end came left thread_worker.current halt at (subst (TellsAtLast halt) split h.last) last has.1 in (
            end.1,
            ap₂ (λ (xs : List Answer) (ps : List Packed). xs ++ answers_in ps) (answered_past thread_worker.current.packets thread_worker.current.answers thread_worker.at has.0) end.0,
          );
    }

one_item : {A : Type 0} (P : A → Type 0) (x : A) → P x → All P (x ∷ [])
one_item P x is zero d l = is
one_item P x is (suc k) d l = absurd (omega (arith, l))

pub all_more : {A : Type 0} (P : A → Type 0) (xs : List A) (x : A) → All P xs → P x → All P (xs ++ x ∷ [])
all_more P xs x all is = All-append P xs (x ∷ []) all (one_item P x is)
