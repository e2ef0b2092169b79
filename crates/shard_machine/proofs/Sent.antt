-- Packets and answers of one queue.
use Rattle.std.proofs.Common.{◌≡◌, ℕ, suc, ◌+◌, ◌==◌, Bool, true, false, eq-eqb, ne_eqb, List, [], ◌∷◌, ◌++◌, length, map, if◌then◌else◌, refl, ap, ap₂, sym, ◌∙◌, arith, inl, inr}
use Rattle.std.proofs.lemmas.Bool.{cases_eq}
use Rattle.nf_base.specs.declared.packet.Packet.{Packet}
use Rattle.nf_base.specs.declared.share.Share.{Share}
use Rattle.nf_base.specs.Runs.{Handling}
use Rattle.shard_laws.specs.Rule.{TakeOfShare}
use Rattle.shard_machine.specs.declared.event.Answer.{Answer}
use Rattle.shard_machine.specs.Machine.{packets_of, packets_at, answers_at}

pub append_nil : {A : Type 0} (xs : List A) → xs ++ [] ≡ xs
append_nil [] = refl
append_nil (x ∷ xs) = ap (λ zs. x ∷ zs) (append_nil xs)

pub append_twice : {A : Type 0} (xs ys zs : List A) → (xs ++ ys) ++ zs ≡ xs ++ (ys ++ zs)
append_twice [] ys zs = refl
append_twice (x ∷ xs) ys zs = ap (λ ws. x ∷ ws) (append_twice xs ys zs)

pub map_append : {A B : Type 0} (f : A → B) (xs ys : List A) → map f (xs ++ ys) ≡ map f xs ++ map f ys
map_append f [] ys = refl
map_append f (x ∷ xs) ys = ap (λ zs. f x ∷ zs) (map_append f xs ys)

-- what stands in front of one list stands in front of another
pub same_behind : {A : Type 0} (xs ys zs : List A) → xs ++ ys ≡ xs ++ zs → ys ≡ zs
same_behind [] ys zs e = e
same_behind (x ∷ xs) ys zs e = same_behind xs ys zs cc

pub same_front : {A : Type 0} (xs ys zs ws : List A) → length xs ≡ length ys → xs ++ zs ≡ ys ++ ws → (xs ≡ ys) × (zs ≡ ws)
same_front [] [] zs ws long e = (refl, e)
same_front [] (y ∷ ys) zs ws long e = cc
same_front (x ∷ xs) [] zs ws long e = cc
same_front (x ∷ xs) (y ∷ ys) zs ws long e =
    let head : x ≡ y = cc in
    let tail : xs ++ zs ≡ ys ++ ws = cc in
    let r = same_front xs ys zs ws (omega (arith, long)) tail in
    (ap₂ (λ a more. a ∷ more) head r.0, r.1)

pub length_append : {A : Type 0} (xs ys : List A) → length (xs ++ ys) ≡ length xs + length ys
length_append [] ys = omega arith
length_append (x ∷ xs) ys = let e = length_append xs ys in omega (arith, e)

pub length_map : {A B : Type 0} (f : A → B) (xs : List A) → length (map f xs) ≡ length xs
length_map f [] = refl
length_map f (x ∷ xs) = ap suc (length_map f xs)

if_append : {A : Type 0} (b : Bool) (x : A) (xs ys : List A) → (if b then x ∷ (xs ++ ys) else xs ++ ys) ≡ (if b then x ∷ xs else xs) ++ ys
if_append true x xs ys = refl
if_append false x xs ys = refl

pub packets_append : (queue : Packet → ℕ) (w : ℕ) (ps qs : List Packet) → packets_at queue w (ps ++ qs) ≡ packets_at queue w ps ++ packets_at queue w qs
packets_append queue w [] qs = refl
packets_append queue w (p ∷ ps) qs =
    ap (λ (zs : List Packet). if queue p == w then p ∷ zs else zs) (packets_append queue w ps qs) ∙ if_append (queue p == w) p (packets_at queue w ps) (packets_at queue w qs)

pub answers_append : (queue : Packet → ℕ) (w : ℕ) (more bs : List Answer) → answers_at queue w (more ++ bs) ≡ answers_at queue w more ++ answers_at queue w bs
answers_append queue w [] bs = refl
answers_append queue w (a ∷ more) bs =
    ap (λ (zs : List Answer). if queue a.packet == w then a ∷ zs else zs) (answers_append queue w more bs) ∙ if_append (queue a.packet == w) a (answers_at queue w more) (answers_at queue w bs)

-- one packet, at its queue and at another
pub one_at : (queue : Packet → ℕ) (w : ℕ) (p : Packet) (ps : List Packet) → queue p ≡ w → packets_at queue w (p ∷ ps) ≡ p ∷ packets_at queue w ps
one_at queue w p ps e = ap (λ (b : Bool). if b then p ∷ packets_at queue w ps else packets_at queue w ps) (eq-eqb _ _ e)

pub none_at : (queue : Packet → ℕ) (w : ℕ) (p : Packet) (ps : List Packet) → (queue p ≡ w → ⊥) → packets_at queue w (p ∷ ps) ≡ packets_at queue w ps
none_at queue w p ps ne = ap (λ (b : Bool). if b then p ∷ packets_at queue w ps else packets_at queue w ps) (ne_eqb _ _ ne)

pub one_answer_at : (queue : Packet → ℕ) (w : ℕ) (a : Answer) (more : List Answer) → queue a.packet ≡ w → answers_at queue w (a ∷ more) ≡ a ∷ answers_at queue w more
one_answer_at queue w a more e = ap (λ (b : Bool). if b then a ∷ answers_at queue w more else answers_at queue w more) (eq-eqb _ _ e)

pub no_answer_at : (queue : Packet → ℕ) (w : ℕ) (a : Answer) (more : List Answer) → (queue a.packet ≡ w → ⊥) → answers_at queue w (a ∷ more) ≡ answers_at queue w more
no_answer_at queue w a more ne = ap (λ (b : Bool). if b then a ∷ answers_at queue w more else answers_at queue w more) (ne_eqb _ _ ne)

-- a packet of a queue's has that queue
pub its_queue : (queue : Packet → ℕ) (w : ℕ) (sent xs : List Packet) (p : Packet) (ys : List Packet) → packets_at queue w sent ≡ xs ++ p ∷ ys → queue p ≡ w
its_queue queue w [] [] p ys e = cc
its_queue queue w [] (x ∷ xs) p ys e = cc
its_queue queue w (s ∷ sent) [] p ys e = elim (cases_eq (queue s) w) [
  | inl same ↦
      let head : s ∷ packets_at queue w sent ≡ p ∷ ys = sym (one_at queue w s sent same) ∙ e in
      let is : s ≡ p = cc in
      ap queue (sym is) ∙ same
  | inr other ↦ its_queue queue w sent [] p ys (sym (none_at queue w s sent other) ∙ e)
]
its_queue queue w (s ∷ sent) (x ∷ xs) p ys e = elim (cases_eq (queue s) w) [
  | inl same ↦
      let head : s ∷ packets_at queue w sent ≡ x ∷ (xs ++ p ∷ ys) = sym (one_at queue w s sent same) ∙ e in
      its_queue queue w sent xs p ys cc
  | inr other ↦ its_queue queue w sent (x ∷ xs) p ys (sym (none_at queue w s sent other) ∙ e)
]

-- the packets of a queue's answers
pub packets_of_at : (queue : Packet → ℕ) (w : ℕ) (more : List Answer) → packets_at queue w (packets_of more) ≡ packets_of (answers_at queue w more)
packets_of_at queue w [] = refl
packets_of_at queue w (a ∷ more) = ap (λ (zs : List Packet). if queue a.packet == w then a.packet ∷ zs else zs) (packets_of_at queue w more) ∙ out (queue a.packet == w)
  where
    out : (b : Bool) → (if b then a.packet ∷ packets_of (answers_at queue w more) else packets_of (answers_at queue w more)) ≡ packets_of (if b then a ∷ answers_at queue w more else answers_at queue w more)
    out true = refl
    out false = refl

pub own_append : (share : ℕ → Share) (queue : Packet → ℕ) (xs ys : List Handling) → TakeOfShare share queue xs → TakeOfShare share queue ys → TakeOfShare share queue (xs ++ ys)
own_append share queue [] ys a b = b
own_append share queue (x ∷ xs) ys a b = (a.0, own_append share queue xs ys a.1 b)

pub own_front : (share : ℕ → Share) (queue : Packet → ℕ) (xs ys : List Handling) → TakeOfShare share queue (xs ++ ys) → TakeOfShare share queue xs
own_front share queue [] ys a = tt
own_front share queue (x ∷ xs) ys a = (a.0, own_front share queue xs ys a.1)
