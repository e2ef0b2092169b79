-- The answers of one pack.
use Rattle.std.proofs.Common.{◌≡◌, ◌≤◌, ℕ, List, [], ◌∷◌, ◌++◌, length, Option, Some, None, All, slice_get, refl, ap, ap₂, sym, ◌∙◌, subst}
use Rattle.std.proofs.lemmas.Option.{slice_get_within, get_or_from_slice_get}
use Rattle.nf_base.specs.declared.func.Func.{Func}
use Rattle.nf_base.specs.declared.packet.Packet.{Packet}
use Rattle.nf_base.specs.declared.share.Share.{Share}
use Rattle.nf_base.specs.declared.state.State.{State}
use Rattle.nf_base.specs.Functions.{function_of}
use Rattle.nf_base.specs.Shares.{share_stops}
use Rattle.nf_base.specs.Step.{step_by}
use Rattle.nf_base.specs.Text.{Function}
use Rattle.nf_engine.specs.Handlings.{StopsAt}
use Rattle.nf_engine.specs.View.{Fixed, fixed_of}
use Rattle.shard_machine.specs.declared.event.Answer.{Answer}
use Rattle.shard_machine.specs.Machine.{packets_of}
use Rattle.shard_machine.proofs.Sent.{append_twice, map_append}
use Rattle.ring_line.specs.declared.halt.Halt.{Halt}
use Rattle.ring_line.specs.Packs.{Packed, answers_of}
use Rattle.ring_line.specs.QueueHandlers.{HandlerState, Answers, Ends}
use Rattle.ring_line.specs.Handled as handled
use Rattle.ring_line.specs.Handled.{CanServe, Handles, EndsAt, CameTo}
use Rattle.ring_line.proofs.Packing.{answered_more, answered_all, answered_front}
use Rattle.ring_line.proofs.Handling.{ends_behind}

pub all_at : {A : Type 0} (P : A → Type 0) (xs : List A) (i : ℕ) (x : A) → All P xs → slice_get xs i ≡ Some x → P x
all_at P xs i x all at = subst P (get_or_from_slice_get xs i x x at) (all i x (slice_get_within xs i x at))

-- an answer more
pub answers_more : (f : Function) (func : Func) (first : State) (told : List Answer) (old new : HandlerState) (before after : Packed) → f ≡ function_of func → old.func ≡ func → All (CanServe func) before.packets → Answers old before new after →
    Handles f old.tables.share first (told ++ answers_of before) old.tables.state → Handles f old.tables.share first (told ++ answers_of after) new.tables.state
answers_more f func first told old new before after is same all a h =
    let at : CanServe old.func a.packet = subst (λ (g : Func). CanServe g a.packet) (sym same) (all_at (CanServe func) before.packets (length before.answers) a.packet all a.next) in
    let step = a.step at in
    let g : f ≡ function_of old.func = is ∙ ap function_of (sym same) in
    let one : Answer = record { packet = a.packet; done = a.done } in
    let more : answers_of after ≡ answers_of before ++ one ∷ [] = ap answers_of a.pack ∙ answered_more before.packets before.answers a.packet a.done a.next in
    subst (λ (as_ : List Answer). Handles f old.tables.share first as_ new.tables.state) (append_twice told (answers_of before) (one ∷ []) ∙ ap (λ (as_ : List Answer). told ++ as_) (sym more))
    (handled.one_more (told ++ answers_of before) old.tables.state new.tables.state a.packet a.done h step.0
    (subst (λ (k : Function). step_by (share_stops old.tables.share) k old.tables.state a.packet a.done.picks ≡ Some (record { state = new.tables.state; done = a.done })) (sym g) step.1))

-- all are answered
pub all_came : (f : Function) (share : Share) (first state : State) (packets : List Packet) (told : List Answer) (pack : Packed) → packets_of told ≡ packets → length pack.packets ≤ length pack.answers → Handles f share first (told ++ answers_of pack) state →
    CameTo f share first (packets ++ pack.packets) (told ++ answers_of pack) None state
all_came f share first state packets told pack before le h = (
  h,
  map_append (λ (a : Answer). a.packet) told (answers_of pack) ∙ ap₂ (λ (ps qs : List Packet). ps ++ qs) before (answered_all pack.packets pack.answers le),
)

-- or the share ends at the next packet
pub end_came : (f : Function) (func : Func) (first : State) (packets : List Packet) (told : List Answer) (old new : HandlerState) (before after : Packed) (e : Ends old before new after) → f ≡ function_of func → old.func ≡ func → All (CanServe func) before.packets → packets_of told ≡ packets →
    Handles f old.tables.share first (told ++ answers_of before) old.tables.state → EndsAt f old.tables.share first (packets ++ after.packets) (told ++ answers_of after) e.halt
end_came f func first packets told old new before after e is same all begin h =
    let at : CanServe old.func e.halt.packet = subst (λ (g : Func). CanServe g e.halt.packet) (sym same) (all_at (CanServe func) before.packets (length before.answers) e.halt.packet all e.next) in
    let g : f ≡ function_of old.func = is ∙ ap function_of (sym same) in
    let stops : StopsAt old.tables.share f old.tables.state e.halt.packet e.halt.chain = subst (λ (k : Function). StopsAt old.tables.share k old.tables.state e.halt.packet e.halt.chain) (sym g) (e.stops at) in
    let front = answered_front before.packets before.answers e.halt.packet e.next in
    let answers : answers_of after ≡ answers_of before = ap answers_of e.pack in
    let same_packets : after.packets ≡ before.packets = ap (λ (p : Packed). p.packets) e.pack in
    subst (λ (as_ : List Answer). EndsAt f old.tables.share first (packets ++ after.packets) (told ++ as_) e.halt) (sym answers)
    (subst (λ (ps : List Packet). EndsAt f old.tables.share first (packets ++ ps) (told ++ answers_of before) e.halt) (sym same_packets)
    (ends_behind f old.tables.share first old.tables.state packets before.packets front.0 told (answers_of before) e.halt begin front.1 h stops))

-- the same from the beginning of the pack on
pub handled_more : (start old new : HandlerState) (begin before after : Packed) (first : State) (told : List Answer) → before.packets ≡ begin.packets → old.func ≡ start.func → fixed_of old.tables ≡ fixed_of start.tables → Answers old before new after → All (CanServe start.func) begin.packets →
    Handles (function_of start.func) start.tables.share first (told ++ answers_of before) old.tables.state → Handles (function_of start.func) start.tables.share first (told ++ answers_of after) new.tables.state
handled_more start old new begin before after first told packets same fixed a all h =
    let share : old.tables.share ≡ start.tables.share = ap (λ (x : Fixed). x.share) fixed in
    let f = function_of start.func in
    subst (λ (s : Share). Handles f s first (told ++ answers_of after) new.tables.state) share
    (answers_more f start.func first told old new before after refl same (subst (All (CanServe start.func)) (sym packets) all) a (subst (λ (s : Share). Handles f s first (told ++ answers_of before) old.tables.state) (sym share) h))

pub ended_here : (start old new : HandlerState) (begin before after : Packed) (first : State) (packets : List Packet) (told : List Answer) → before.packets ≡ begin.packets → old.func ≡ start.func → fixed_of old.tables ≡ fixed_of start.tables → Ends old before new after → All (CanServe start.func) begin.packets → packets_of told ≡ packets →
    Handles (function_of start.func) start.tables.share first (told ++ answers_of before) old.tables.state → CameTo (function_of start.func) start.tables.share first (packets ++ after.packets) (told ++ answers_of after) new.halt new.tables.state
ended_here start old new begin before after first packets told are same fixed e all front h =
    let share : old.tables.share ≡ start.tables.share = ap (λ (x : Fixed). x.share) fixed in
    let f = function_of start.func in
    let end = end_came f start.func first packets told old new before after e refl same (subst (All (CanServe start.func)) (sym are) all) front (subst (λ (s : Share). Handles f s first (told ++ answers_of before) old.tables.state) (sym share) h) in
    subst (λ (o : Option Halt). CameTo f start.tables.share first (packets ++ after.packets) (told ++ answers_of after) o new.tables.state) (sym e.ended)
    (subst (λ (s : Share). EndsAt f s first (packets ++ after.packets) (told ++ answers_of after) e.halt) share end)

pub all_here : (f : Function) (share : Share) (first state : State) (packets : List Packet) (told : List Answer) (pack : Packed) (halt : Option Halt) → halt ≡ None → packets_of told ≡ packets → length pack.packets ≤ length pack.answers → Handles f share first (told ++ answers_of pack) state →
    CameTo f share first (packets ++ pack.packets) (told ++ answers_of pack) halt state
all_here f share first state packets told pack halt none front le h =
    subst (λ (o : Option Halt). CameTo f share first (packets ++ pack.packets) (told ++ answers_of pack) o state) (sym none) (all_came f share first state packets told pack front le h)
