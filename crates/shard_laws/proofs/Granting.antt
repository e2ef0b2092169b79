-- A share of several answers no `new` with full.
use Rattle.std.proofs.Common.{◌≡◌, ◌<◌, ℕ, suc, Bool, true, false, ◌&&◌, nat_lt, List, [], ◌∷◌, map, Option, Some, None, if◌then◌else◌, refl, ◌∙◌, inl, inr}
use Rattle.std.proofs.lemmas.Bool.{cases_Bool, lt-ltb}
use Rattle.nf_base.specs.declared.share.Share.{Share}
use Rattle.nf_base.specs.declared.state.Entry.{Entry}
use Rattle.nf_base.specs.declared.state.Chain.{Chain}
use Rattle.nf_base.specs.Text.{FallsOff, Flood, Discard, Forward, Question, Get, Find, Test, Creation, Block, End, Do, Ask, Make}
use Rattle.nf_base.specs.Chains.{chain_at, maps_of, is_taken, is_full}
use Rattle.nf_base.specs.Context.{Context, Input, given}
use Rattle.nf_base.specs.Operations.{Stops, NewResult, Made, Taken, Full, Illegal, Stopped, chosen, new_result, with_new, answer, after}
use Rattle.nf_base.specs.Events.{Event, AskedNew}
use Rattle.nf_base.specs.Record.{is_full_answer, answers_full}
use Rattle.nf_base.specs.Course.{if_hit, if_new, events}
use Rattle.nf_base.specs.Shares.{owns, none_vacant, share_stops}
use Rattle.nf_laws.proofs.Plain.{IsPlain, plain_reads, plain_all, plain_did, plain_asked, question_event}

pub full_none_vacant : (own : ℕ → Bool) (xs : List (Option Entry)) → is_full xs ≡ true → none_vacant own xs ≡ true
full_none_vacant own [] e = refl
full_none_vacant own (None ∷ xs) e = cc
full_none_vacant own (Some x ∷ xs) e = full_none_vacant (λ i. own (suc i)) xs e

pub and_both : (a b : Bool) → a ≡ true → b ≡ true → (a && b) ≡ true
and_both true b e f = f
and_both false b e f = cc

-- where such a share doesn't stop, its chain is not full
pub room_left : (share : Share) (k : ℕ) (now : Chain) → 1 < share.of → share_stops share k now ≡ false → is_full now.slots ≡ false
room_left share k now many e = elim (cases_Bool (is_full now.slots)) [
  | inl full ↦
      let m : nat_lt 1 share.of ≡ true = lt-ltb _ _ many in
      let stop : share_stops share k now ≡ true = and_both (nat_lt 1 share.of) (none_vacant (owns share) now.slots) m (full_none_vacant (owns share) now.slots full) in
      cc
  | inr room ↦ room
]

chosen_not_full : (slots : List (Option Entry)) (left : List ℕ) → is_full_answer (chosen slots left) ≡ false
chosen_not_full slots [] = refl
chosen_not_full slots (i ∷ left) = of_vacant _ i
  where
    of_vacant : (b : Bool) (i : ℕ) → is_full_answer (if b then Made i else Illegal) ≡ false
    of_vacant true i = refl
    of_vacant false i = refl

tests_not_full : (a b c : Bool) (to : NewResult) → (b ≡ false → c ≡ false) → is_full_answer to ≡ false → is_full_answer (if a then Taken else if b then Stopped else if c then Full else to) ≡ false
tests_not_full true b c to f h = refl
tests_not_full false true c to f h = refl
tests_not_full false false c to f h = rw (f refl) h

-- stops at each `new` that would answer full
abbrev pub KeepRoom : Stops → Type 0
KeepRoom stops = (k : ℕ) (now : Chain) → stops k now ≡ false → is_full now.slots ≡ false

not_full : (stops : Stops) (p : Input) (c : Context) (n : Creation) → KeepRoom stops → is_full_answer (new_result stops p c n) ≡ false
not_full stops p c n roomy =
    let chain = chain_at c.state.chains n.chain in
    tests_not_full (is_taken (maps_of p.decls n.chain) (map (given p c) n.labels) chain.slots) (stops n.chain chain) (is_full chain.slots) (chosen chain.slots c.left)
    (roomy n.chain chain) (chosen_not_full chain.slots c.left)

pub full_plain : IsPlain answers_full
full_plain = record { reads_ = record { use_ = λ chain i es. refl; load_ = λ place array i es. refl }; touch_ = λ chain i es. refl; free_ = λ chain i es. refl; store_ = λ place array i changed es. refl }

pub question_not_full : (p : Input) (c : Context) (q : Question) (rest : List Event) → answers_full (question_event p c q ∷ rest) ≡ answers_full rest
question_not_full p c (Get place chain m key var) rest = refl
question_not_full p c (Find place chain at guards var) rest = refl
question_not_full p c (Test place comparison a b) rest = refl

hit_not_full : (o : Option Context) (es : Context → List Event) (fs : List Event) → ((d : Context) → answers_full (es d) ≡ false) → answers_full fs ≡ false → answers_full (if_hit o es fs) ≡ false
hit_not_full (Some d) es fs h m = h d
hit_not_full None es fs h m = m

new_not_full : (to : NewResult) (place chain : ℕ) (labels : List ℕ) (es : ℕ → List Event) (fs hs : List Event) → is_full_answer to ≡ false → ((i : ℕ) → answers_full (es i) ≡ false) → answers_full fs ≡ false →
    answers_full (AskedNew place chain labels to ∷ if_new to es fs hs [] []) ≡ false
new_not_full (Made i) place chain labels es fs hs n m t = m i
new_not_full Taken place chain labels es fs hs n m t = t
new_not_full Full place chain labels es fs hs n m t = cc
new_not_full Illegal place chain labels es fs hs n m t = refl
new_not_full Stopped place chain labels es fs hs n m t = refl

pub grants : (stops : Stops) (p : Input) (b : Block) (c : Context) (k : Context → List Event) → KeepRoom stops → ((d : Context) → answers_full (k d) ≡ false) → answers_full (events stops p b c k) ≡ false
grants stops p (End FallsOff) c k roomy h = h c
grants stops p (End Flood) c k roomy h = refl
grants stops p (End Discard) c k roomy h = refl
grants stops p (End (Forward port)) c k roomy h = plain_reads answers_full full_plain.reads_ p c port []
grants stops p (Do op next) c k roomy h =
    plain_did answers_full full_plain p c op (events stops p next (after p c op) k) ∙ grants stops p next (after p c op) k roomy h
grants stops p (Ask q hit miss next) c k roomy h =
    let go = λ (d : Context). events stops p next d k in
    let follows : (d : Context) → answers_full (go d) ≡ false = λ d. grants stops p next d k roomy h in
    let es = if_hit (answer p c q) (λ d. events stops p hit d go) (events stops p miss c go) in
    plain_asked answers_full full_plain.reads_ p c q es ∙ question_not_full p c q es
    ∙ hit_not_full (answer p c q) (λ d. events stops p hit d go) (events stops p miss c go) (λ d. grants stops p hit d go roomy follows) (grants stops p miss c go roomy follows)
grants stops p (Make n made taken full next) c k roomy h =
    let go = λ (d : Context). events stops p next d k in
    let follows : (d : Context) → answers_full (go d) ≡ false = λ d. grants stops p next d k roomy h in
    plain_all answers_full full_plain.reads_ p c n.labels _
    ∙ new_not_full (new_result stops p c n) n.place n.chain (map (given p c) n.labels) (λ i. events stops p made (with_new p c n i) go) (events stops p taken c go) (events stops p full c go)
    (not_full stops p c n roomy) (λ i. grants stops p made (with_new p c n i) go roomy follows) (grants stops p taken c go roomy follows)

pub share_grants : (share : Share) (p : Input) (b : Block) (c : Context) (k : Context → List Event) → 1 < share.of → ((d : Context) → answers_full (k d) ≡ false) → answers_full (events (share_stops share) p b c k) ≡ false
share_grants share p b c k many h = grants (share_stops share) p b c k (λ j now. room_left share j now many) h
