-- What a worker told, with one pack more.
use Rattle.std.proofs.Common.{rules, ◌≡◌, zero, suc, List, [], ◌∷◌, ◌++◌, Option, Some, None, All, refl, ap, sym, ◌∙◌, subst, arith}
use Rattle.nf_base.specs.declared.func.Func.{Func}
use Rattle.nf_base.specs.declared.packet.Packet.{Packet}
use Rattle.nf_base.specs.declared.share.Share.{Share}
use Rattle.nf_base.specs.declared.state.State.{State}
use Rattle.nf_base.specs.Functions.{function_of}
use Rattle.nf_engine.specs.View.{Fixed, fixed_of}
use Rattle.shard_machine.specs.declared.event.Answer.{Answer}
use Rattle.ring_line.specs.declared.halt.Halt.{Halt}
use Rattle.rtrb.specs.Ring.{sent, received}
use Rattle.ring_line.specs.declared.worker_ends.RingEnds.{RingEnds}
use Rattle.ring_line.specs.Packs.{Packed, packets_in, answers_in, answers_of, TellsAtLast}
use Rattle.ring_line.specs.QueueHandlers.{HandlerState}
use Rattle.ring_line.specs.Handled.{CanServe, CameTo, none_yet}
use Rattle.ring_line.specs.WorkerLoops.{Given, Told, AtWork, begun}
use Rattle.ring_line.proofs.Handling.{ends_before}
use Rattle.ring_line.proofs.Packing.{packets_snoc, answers_snoc, tells_more}

pub all_first : {A : Type 0} (P : A → Type 0) (xs ys : List A) → All P (xs ++ ys) → All P xs
all_first P [] ys all k d lt = absurd (omega (arith, lt))
all_first P (x ∷ xs) ys all zero d lt = all 0 d (omega arith)
all_first P (x ∷ xs) ys all (suc k) d lt = all_first P xs ys (λ j e l. all (suc j) e (omega (arith, l))) k d (omega (arith, lt))

pub all_second : {A : Type 0} (P : A → Type 0) (xs ys : List A) → All P (xs ++ ys) → All P ys
all_second P [] ys all = all
all_second P (x ∷ xs) ys all = all_second P xs ys (λ j e l. all (suc j) e (omega (arith, l)))

-- the queue handler answered a pack
pub told_more : (given : Given) (packs sent_back : List Packed) (old new : HandlerState) (pack after : Packed) → Told given packs sent_back old → old.halt ≡ None → new.func ≡ old.func → fixed_of new.tables ≡ fixed_of old.tables → after.packets ≡ pack.packets → after.halt ≡ new.halt →
    ((first : State) → (packets : List Packet) → (told : List Answer) → All (CanServe old.func) pack.packets → CameTo (function_of old.func) old.tables.share first packets told None old.tables.state →
    CameTo (function_of old.func) old.tables.share first (packets ++ after.packets) (told ++ answers_of after) new.halt new.tables.state) → Told given (packs ++ pack ∷ []) (sent_back ++ after ∷ []) new
told_more given packs sent_back old new pack after t running func fixed packets halt came =
    let h = t.1 in
    let f = function_of given.func in
    let share = given.tables.share in
    let first = given.tables.state in (
      func ∙ t.0,
      record {
        share = ap (λ (x : Fixed). x.share) fixed ∙ h.share;
        last = subst (λ (o : Option Halt). TellsAtLast o (sent_back ++ after ∷ [])) halt (tells_more sent_back after (subst (λ (o : Option Halt). TellsAtLast o sent_back) running h.last));
        came = λ all.
            let both : All (CanServe given.func) (packets_in packs ++ pack.packets) = subst (All (CanServe given.func)) (packets_snoc packs pack) all in
            let before : CameTo f share first (packets_in packs) (answers_in sent_back) None old.tables.state =
            subst (λ (o : Option Halt). CameTo f share first (packets_in packs) (answers_in sent_back) o old.tables.state) running (h.came (all_first (CanServe given.func) (packets_in packs) pack.packets both)) in
            let next = came first (packets_in packs) (answers_in sent_back)
            (subst (λ (g : Func). All (CanServe g) pack.packets) (sym t.0) (all_second (CanServe given.func) (packets_in packs) pack.packets both))
            (subst (λ (s : Share). CameTo (function_of old.func) s first (packets_in packs) (answers_in sent_back) None old.tables.state) (sym h.share)
            (subst (λ (g : Func). CameTo (function_of g) share first (packets_in packs) (answers_in sent_back) None old.tables.state) (sym t.0) before)) in
            let here : CameTo f share first (packets_in packs ++ after.packets) (answers_in sent_back ++ answers_of after) new.halt new.tables.state =
            subst (λ (g : Func). CameTo (function_of g) share first (packets_in packs ++ after.packets) (answers_in sent_back ++ answers_of after) new.halt new.tables.state) t.0
            (subst (λ (s : Share). CameTo (function_of old.func) s first (packets_in packs ++ after.packets) (answers_in sent_back ++ answers_of after) new.halt new.tables.state) h.share next) in
            subst (λ (as_ : List Answer). CameTo f share first (packets_in (packs ++ pack ∷ [])) as_ new.halt new.tables.state) (sym (answers_snoc sent_back after))
            (subst (λ (ps : List Packet). CameTo f share first ps (answers_in sent_back ++ answers_of after) new.halt new.tables.state) (ap (λ (ps : List Packet). packets_in packs ++ ps) packets ∙ sym (packets_snoc packs pack)) here);
      },
    )

-- the share had ended
pub told_past : (given : Given) (packs sent_back : List Packed) (queue_handler : HandlerState) (pack : Packed) (halt : Halt) → queue_handler.halt ≡ Some halt → Told given packs sent_back queue_handler → Told given (packs ++ pack ∷ []) sent_back queue_handler
told_past given packs sent_back queue_handler pack halt ended t =
    let h = t.1 in
    let f = function_of given.func in
    let share = given.tables.share in
    let first = given.tables.state in
    let state = queue_handler.tables.state in (
      t.0,
      record {
        share = h.share;
        last = h.last;
        came = λ all.
            let both : All (CanServe given.func) (packets_in packs ++ pack.packets) = subst (All (CanServe given.func)) (packets_snoc packs pack) all in
            let before = subst (λ (o : Option Halt). CameTo f share first (packets_in packs) (answers_in sent_back) o state) ended (h.came (all_first (CanServe given.func) (packets_in packs) pack.packets both)) in
            subst (λ (ps : List Packet). CameTo f share first ps (answers_in sent_back) queue_handler.halt state) (sym (packets_snoc packs pack))
            (subst (λ (o : Option Halt). CameTo f share first (packets_in packs ++ pack.packets) (answers_in sent_back) o state) (sym ended)
            (ends_before f share first (packets_in packs) pack.packets (answers_in sent_back) halt before));
      },
    )

-- a worker before its first pack
pub begins_work : (ends : RingEnds) (queue_handler : HandlerState) → received ends.from ≡ [] → sent ends.to ≡ [] → queue_handler.halt ≡ None → AtWork (begun ends queue_handler) ends queue_handler
begins_work ends queue_handler none_came none_sent running = record {
  same = search rules;
  packs = [];
  received = none_came;
  told = (
    refl,
    record {
      share = refl;
      last = subst (TellsAtLast queue_handler.halt) (sym none_sent) running;
      came = λ all. subst (λ (ps : List Packed). CameTo (function_of queue_handler.func) queue_handler.tables.share queue_handler.tables.state [] (answers_in ps) queue_handler.halt queue_handler.tables.state) (sym none_sent)
          (subst (λ (o : Option Halt). CameTo (function_of queue_handler.func) queue_handler.tables.share queue_handler.tables.state [] [] o queue_handler.tables.state) (sym running) (none_yet, refl));
    },
  );
}
