-- What was collected of each queue in order, in the order of all.
use Rattle.std.proofs.Common.{◌≡◌, ◌<◌, ℕ, ◌==◌, Bool, eq-eqb, ne_eqb, List, [], ◌∷◌, ◌++◌, map, All, zero, suc, Option, Some, None, if◌then◌else◌, refl, ap, ap₂, sym, ◌∙◌, arith, inl, inr}
use Rattle.std.proofs.lemmas.Bool.{cases_eq}
use Rattle.nf_base.specs.declared.packet.Packet.{Packet}
use Rattle.nf_base.specs.declared.state.State.{State}
use Rattle.nf_base.specs.declared.share.Share.{Share}
use Rattle.nf_base.specs.Text.{Function}
use Rattle.shard_machine.specs.declared.event.Answer.{Answer}
use Rattle.shard_machine.specs.Machine.{packets_of, packets_at, answers_at}
use Rattle.shard_machine.proofs.Sent.{append_twice, map_append, one_at, none_at}
use Rattle.shard_core.specs.declared.collected.Collected.{Collected}
use Rattle.shard_core.specs.Sharded.{answer_of}
use Rattle.ring_line.specs.declared.halt.Halt.{Halt}
use Rattle.ring_line.specs.Handled.{CameTo}
use Rattle.ring_line.specs.Plays.{collected_at}

pub one_here : (w : ℕ) (c : Collected) (got : List Collected) → c.queue ≡ w → collected_at w (c ∷ got) ≡ answer_of c ∷ collected_at w got
one_here w c got e = ap (λ (b : Bool). if b then answer_of c ∷ collected_at w got else collected_at w got) (eq-eqb _ _ e)

pub none_here : (w : ℕ) (c : Collected) (got : List Collected) → (c.queue ≡ w → ⊥) → collected_at w (c ∷ got) ≡ collected_at w got
none_here w c got ne = ap (λ (b : Bool). if b then answer_of c ∷ collected_at w got else collected_at w got) (ne_eqb _ _ ne)

-- the packets of a queue begin with those of its answers
pub record Begins (queue : Packet → ℕ) (w : ℕ) (packets : List Packet) (got : List Collected) : Type 0 where
  pub rest : List Packet
  pub is : packets_at queue w packets ≡ packets_of (collected_at w got) ++ rest

pub came_begins : (f : Function) (share : Share) (first : State) (queue : Packet → ℕ) (w : ℕ) (packets : List Packet) (got : List Collected) (more : List Answer) (halt : Option Halt) (state : State) → CameTo f share first (packets_at queue w packets) (collected_at w got ++ more) halt state → Begins queue w packets got
came_begins f share first queue w packets got more None state h = record {
  rest = packets_of more;
  is = sym h.1 ∙ map_append (λ (a : Answer). a.packet) (collected_at w got) more;
}
came_begins f share first queue w packets got more (Some halt) state h = record {
  rest = packets_of more ++ halt.packet ∷ h.later;
  is = h.packets_are ∙ ap (λ (ps : List Packet). ps ++ halt.packet ∷ h.later) (map_append (λ (a : Answer). a.packet) (collected_at w got) more)
      ∙ append_twice (packets_of (collected_at w got)) (packets_of more) (halt.packet ∷ h.later);
}

-- the packets of what was collected
abbrev pub handed_out : List Collected → List Packet
handed_out got = map (λ (c : Collected). c.packet) got

abbrev pub queues_in : List Collected → List ℕ
queues_in got = map (λ (c : Collected). c.queue) got

-- each was collected of its packet's queue
abbrev pub EachAt : (Packet → ℕ) → List Collected → Type 0
EachAt queue [] = Unit {0}
EachAt queue (c ∷ got) = (c.queue ≡ queue c.packet) × EachAt queue got

pub each_front : (queue : Packet → ℕ) (got more : List Collected) → EachAt queue (got ++ more) → EachAt queue got
each_front queue [] more each = tt
each_front queue (c ∷ got) more each = (each.0, each_front queue got more each.1)

pub each_next : (queue : Packet → ℕ) (got : List Collected) (c : Collected) (more : List Collected) → EachAt queue (got ++ c ∷ more) → c.queue ≡ queue c.packet
each_next queue [] c more each = each.0
each_next queue (d ∷ got) c more each = each_next queue got c more each.1

pub each_all : (queue : Packet → ℕ) (got : List Collected) → EachAt queue got → All (λ (c : Collected). c.queue ≡ queue c.packet) got
each_all queue [] each k d lt = absurd (omega (arith, lt))
each_all queue (c ∷ got) each zero d lt = each.0
each_all queue (c ∷ got) each (suc k) d lt = each_all queue got each.1 k d (omega (arith, lt))

pub record InOrder (queue : Packet → ℕ) (packets : List Packet) (got : List Collected) (left : List ℕ) : Type 0 where
  pub later : List Packet
  pub packets_are : packets ≡ handed_out got ++ later
  pub left_are : left ≡ map queue later
  pub queues : EachAt queue got

same_head : {A : Type 0} (x y : A) (xs ys : List A) → x ∷ xs ≡ y ∷ ys → x ≡ y
same_head x y xs ys e = cc

same_tail : {A : Type 0} (x y : A) (xs ys : List A) → x ∷ xs ≡ y ∷ ys → xs ≡ ys
same_tail x y xs ys e = cc

-- what begins so without the first packet and its answer
tail_begins : (queue : Packet → ℕ) (p : Packet) (packets : List Packet) (c : Collected) (got : List Collected) → c.queue ≡ queue p → (w : ℕ) → Begins queue w (p ∷ packets) (c ∷ got) → Begins queue w packets got
tail_begins queue p packets c got same w b = elim (cases_eq (queue p) w) [
  | inl here ↦ record {
    rest = b.rest;
    is = same_tail p c.packet (packets_at queue w packets) (packets_of (collected_at w got) ++ b.rest)
        (sym (one_at queue w p packets here) ∙ b.is ∙ ap (λ (as_ : List Answer). packets_of as_ ++ b.rest) (one_here w c got (same ∙ here)));
  }
  | inr there ↦ record {
    rest = b.rest;
    is = sym (none_at queue w p packets there) ∙ b.is ∙ ap (λ (as_ : List Answer). packets_of as_ ++ b.rest) (none_here w c got (λ e. there (sym same ∙ e)));
  }
]

head_is : (queue : Packet → ℕ) (p : Packet) (packets : List Packet) (c : Collected) (got : List Collected) → c.queue ≡ queue p → Begins queue (queue p) (p ∷ packets) (c ∷ got) → p ≡ c.packet
head_is queue p packets c got same b =
    same_head p c.packet (packets_at queue (queue p) packets) (packets_of (collected_at (queue p) got) ++ b.rest)
    (sym (one_at queue (queue p) p packets refl) ∙ b.is ∙ ap (λ (as_ : List Answer). packets_of as_ ++ b.rest) (one_here (queue p) c got same))

pub in_order : (queue : Packet → ℕ) (n : ℕ) (packets : List Packet) (got : List Collected) (left : List ℕ) → ((p : Packet) → queue p < n) → queues_in got ++ left ≡ map queue packets → ((w : ℕ) → w < n → Begins queue w packets got) → InOrder queue packets got left
in_order queue n packets [] left below order begins = record { later = packets; packets_are = refl; left_are = order; queues = tt }
in_order queue n [] (c ∷ got) left below order begins = cc
in_order queue n (p ∷ packets) (c ∷ got) left below order begins =
    let same : c.queue ≡ queue p = same_head c.queue (queue p) (queues_in got ++ left) (map queue packets) order in
    let is : p ≡ c.packet = head_is queue p packets c got same (begins (queue p) (below p)) in
    let r = in_order queue n packets got left below (same_tail c.queue (queue p) (queues_in got ++ left) (map queue packets) order) (λ w lt. tail_begins queue p packets c got same w (begins w lt)) in
    record {
      later = r.later;
      packets_are = ap₂ (λ (z : Packet) (zs : List Packet). z ∷ zs) is r.packets_are;
      left_are = r.left_are;
      queues = (same ∙ ap queue is, r.queues);
    }

-- what was collected of a queue, by the queues that were told and by those of the packets
pub same_at : (queue : Packet → ℕ) (w : ℕ) (got : List Collected) → EachAt queue got → answers_at queue w (map answer_of got) ≡ collected_at w got
same_at queue w [] each = refl
same_at queue w (c ∷ got) each =
    let rest = same_at queue w got each.1 in
    ap₂ (λ (q : ℕ) (as_ : List Answer). if q == w then answer_of c ∷ as_ else as_) (sym each.0) rest

pub packets_of_got : (got : List Collected) → packets_of (map answer_of got) ≡ handed_out got
packets_of_got [] = refl
packets_of_got (c ∷ got) = ap (λ (ps : List Packet). c.packet ∷ ps) (packets_of_got got)

pub collected_append : (w : ℕ) (got more : List Collected) → collected_at w (got ++ more) ≡ collected_at w got ++ collected_at w more
collected_append w [] more = refl
collected_append w (c ∷ got) more = elim (cases_eq c.queue w) [
  | inl here ↦ one_here w c (got ++ more) here ∙ ap (λ (as_ : List Answer). answer_of c ∷ as_) (collected_append w got more)
      ∙ ap (λ (as_ : List Answer). as_ ++ collected_at w more) (sym (one_here w c got here))
  | inr there ↦ none_here w c (got ++ more) there ∙ collected_append w got more ∙ ap (λ (as_ : List Answer). as_ ++ collected_at w more) (sym (none_here w c got there))
]
