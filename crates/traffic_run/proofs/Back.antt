-- What a run over made captures says of the files that they stand beside.
use Rattle.std.proofs.Common.{◌≡◌, ℕ, suc, ◌+◌, ◌-◌, ◌^◌, ◌<◌, ◌≤◌, ◌⊎◌, inl, inr, Bool, true, false, cond, List, length, Option, Some, Result, Ok, Err, refl, sym, ap, subst, ◌∙◌, arith}
use Rattle.std.specs.List.{slice_index_or}
use Rattle.std.proofs.lemmas.Bool.{cases_lt, le-ltb}
use Rattle.capture_format.specs.declared.format.CaptureFormat.{CaptureFormat}
use Rattle.nf_base.specs.declared.card.Card.{Card}
use Rattle.nf_base.specs.Text.{Function}
use Rattle.nf_files.specs.declared.kind.Kind.{Kind}
use Rattle.nf_files.specs.Told.{Told, IsToldAs}
use Rattle.packet_feed.specs.Arrivals.{Arrival}
use Rattle.stream_run.specs.declared.fault.RunFault.{RunFault}
use Rattle.stream_run.specs.Texts.{file_bytes}
use Rattle.stream_run.specs.Writing.{IsSameOrOther, KeepsBut, IsFrontIfTold}
use Rattle.made_captures.specs.Told.{names_of, names_beyond, with_made}
use Rattle.nf_files.specs.Causes.{Counted}
use Rattle.made_captures.specs.Outputs.{Counting, journal_of, bytes_from, is_right, counts_right, is_known, flag, mark_of, told_if, kind_beside, kinds_beside, with_kinds, told_beside}
use Rattle.made_captures.proofs.Placing.{name_low}
use Rattle.traffic_run.specs.declared.worker_plan.WorkerPlan.{WorkerPlan}
use Rattle.traffic_run.specs.declared.worker_plan.WorkerPlan.TheVariants as worker_plans
use Rattle.traffic_run.specs.declared.result.UncountedResult.{UncountedResult}
use Rattle.traffic_run.specs.declared.result.UncountedResult.TheVariants.{Whole, Full}
use Rattle.sharded_run.specs.declared.result.ShareFull.{ShareFull}
use Rattle.traffic_run.specs.Beside.{CountsTo, StaysKnown}
use Rattle.traffic_run.specs.Runs.{IsFull, Leaves}

-- ---- the names

some_is : (x y : List ℕ) → Some x ≡ Some y → x ≡ y
some_is x y e = cc

beyond_is : (mark : List ℕ) (name : ℕ → Option (List ℕ)) (k : ℕ) → names_of mark name (2 ^ 32 + k) ≡ names_beyond mark name k
beyond_is mark name k =
    let high : 2 ^ 32 ≤ 2 ^ 32 + k = omega arith in
    let back : 2 ^ 32 + k - 2 ^ 32 ≡ k = omega arith in
    ap (λ (b : Bool). cond b (name (2 ^ 32 + k)) (names_beyond mark name (2 ^ 32 + k - 2 ^ 32))) (le-ltb (2 ^ 32 + k) (2 ^ 32) high)
    ∙ ap (names_beyond mark name) back

-- they keep the mark
pub same_mark : (a b : List ℕ) (old new : ℕ → Option (List ℕ)) → ((g : ℕ) → names_of b new g ≡ names_of a old g) → b ≡ a
same_mark a b old new same = some_is b a (sym (beyond_is b new 0) ∙ same (2 ^ 32 + 0) ∙ beyond_is a old 0)

name_again : (a b : List ℕ) (old new : ℕ → Option (List ℕ)) (g : ℕ) → ((n : ℕ) → names_of b new n ≡ names_of a old n) → (g < 2 ^ 32) ⊎ (2 ^ 32 ≤ g) → new g ≡ old g
name_again a b old new g same (inl lt) = sym (name_low b new g lt) ∙ same g ∙ name_low a old g lt
name_again a b old new g same (inr le) =
    let k : ℕ = g - 2 ^ 32 in
    let here : 2 ^ 32 + k ≡ g = omega (arith, le) in
    ap new (sym here) ∙ sym (beyond_is b new (suc k)) ∙ same (2 ^ 32 + suc k) ∙ beyond_is a old (suc k) ∙ ap old here

-- what a mark says
pub record SameMark (w v : ℕ) (r s k l : Bool) (f g n m : ℕ) : Type 0 where
  pub which : v ≡ w
  pub right : s ≡ r
  pub known : l ≡ k
  pub first : g ≡ f
  pub count : m ≡ n

same_flag : (a b : Bool) → flag a ≡ flag b → a ≡ b
same_flag true true e = refl
same_flag false false e = refl
same_flag true false e = absurd (omega (arith, e))
same_flag false true e = absurd (omega (arith, e))

pub mark_says : (w v : ℕ) (r s k l : Bool) (f g n m : ℕ) → mark_of v s l g m ≡ mark_of w r k f n → SameMark w v r s k l f g n m
mark_says w v r s k l f g n m e =
    let a : v ≡ w = cc e in
    let b : flag s ≡ flag r = cc e in
    let c : flag l ≡ flag k = cc e in
    let d : g ≡ f = cc e in
    let h : m ≡ n = cc e in
    record { which = a; right = same_flag s r b; known = same_flag l k c; first = d; count = h }

-- ---- nothing else changes

beyond : (captures : List (List ℕ)) (last : ℕ) (kind : ℕ → Option Kind) (g : ℕ) → kinds_beside captures last kind (2 ^ 32 + g) ≡ kind g
beyond captures last kind g =
    let off : 2 ^ 32 + g - 2 ^ 32 ≡ g = omega arith in
    ap (λ (b : Bool). cond b (kind_beside captures last kind (2 ^ 32 + g)) (kind (2 ^ 32 + g - 2 ^ 32))) (le-ltb (2 ^ 32 + g) (2 ^ 32) (omega arith)) ∙ ap kind off

kind_again : (cs ds : List (List ℕ)) (l m : ℕ) (old new : ℕ → Option Kind) (g : ℕ) → kinds_beside ds m new (2 ^ 32 + g) ≡ kinds_beside cs l old (2 ^ 32 + g) → new g ≡ old g
kind_again cs ds l m old new g e = sym (beyond ds m new g) ∙ e ∙ beyond cs l old g

keeps_true : (files : List ℕ) (cs ds : List (List ℕ)) (a b : List ℕ) (l m : ℕ) (old new : Told) → ((k d : ℕ) → k < length files → slice_index_or files k d < 2 ^ 32) → KeepsBut files (with_kinds cs l old.kind (with_made cs a old)) (with_kinds ds m new.kind (with_made ds b new)) → KeepsBut files old new
keeps_true files cs ds a b l m old new small k = record {
  current = λ n file all c. let later = k.current n file (λ i d lt. other (slice_index_or files i d) (small i d lt) n file (all i d lt)) (record { last = c.last; follows = c.follows }) in record { last = later.last; follows = later.follows };
  givens = k.givens;
  names = λ g. name_again a b old.name new.name g k.names (cases_lt g (2 ^ 32));
  kinds = λ g. kind_again cs ds l m old.kind new.kind g (k.kinds (2 ^ 32 + g));
  contents = λ n others. k.contents n (λ i d lt. λ is. others i d lt (sym (name_low a old.name (slice_index_or files i d) (small i d lt)) ∙ is));
  latest_same = k.latest_same;
  next_same = k.next_same;
}
  where
    other : (f : ℕ) → f < 2 ^ 32 → (n : List ℕ) (file : ℕ) → IsSameOrOther old n file f → IsSameOrOther (with_kinds cs l old.kind (with_made cs a old)) n file f
    other f lt n file (inl e) = inl e
    other f lt n file (inr o) = inr (o.0, λ is. o.1 (sym (name_low a old.name f lt) ∙ is))

pub keeps_back : (files : List ℕ) (cs ds : List (List ℕ)) (a b : List ℕ) (l m : ℕ) (r s : Bool) (old new : Told) → r ≡ true → s ≡ true → ((k d : ℕ) → k < length files → slice_index_or files k d < 2 ^ 32) → KeepsBut files (with_kinds cs l old.kind (with_made cs a (told_if r old))) (with_kinds ds m new.kind (with_made ds b (told_if s new))) → KeepsBut files old new
keeps_back files cs ds a b l m r s old new p q small k =
    keeps_true files cs ds a b l m old new small
    (subst (λ (x : Bool). KeepsBut files (with_kinds cs l old.kind (with_made cs a old)) (with_kinds ds m new.kind (with_made ds b (told_if x new)))) q
    (subst (λ (x : Bool). KeepsBut files (with_kinds cs l old.kind (with_made cs a (told_if x old))) (with_kinds ds m new.kind (with_made ds b (told_if s new)))) p k))

-- ---- what was given to files

pub full_back : (worker_plan : WorkerPlan) (card : Card) (format : CaptureFormat) (f : Function) (arrivals : List Arrival) (told now : Told) (files : List ℕ) (full : ShareFull) → ((g : ℕ) → told.given g ≡ now.given g) → IsFull worker_plan card format f arrivals told files full → IsFull worker_plan card format f arrivals now files full
full_back worker_plans.One card format f arrivals told now files full same h = absurd h
full_back (worker_plans.Shards keys workers) card format f arrivals told now files full same h = record {
  run = h.run;
  is_run = h.is_run;
  stops = h.stops;
  packets = h.packets;
  wholes = λ k file e. subst (IsToldAs (file_bytes format h.run k)) (same file) (h.wholes k file e);
}
full_back (worker_plans.Sharing workers) card format f arrivals told now files full same h = absurd h

leaves_same : (worker_plan : WorkerPlan) (card : Card) (format : CaptureFormat) (Refused : Type 0) (f : Function) (arrivals : List Arrival) (told now : Told) (files : List ℕ) (result : Result UncountedResult RunFault) → ((g : ℕ) → told.given g ≡ now.given g) → Leaves worker_plan card format Refused f arrivals told files result → Leaves worker_plan card format Refused f arrivals now files result
leaves_same worker_plan card format Refused f arrivals told now files (Ok (Whole m state)) same h = record {
  run = h.run;
  is_run = h.is_run;
  mode_is = h.mode_is;
  left = h.left;
  wholes = λ k file e. subst (IsToldAs (file_bytes format h.run k)) (same file) (h.wholes k file e);
}
leaves_same worker_plan card format Refused f arrivals told now files (Ok (Full full)) same h = full_back worker_plan card format f arrivals told now files full same h
leaves_same worker_plan card format Refused f arrivals told now files (Err stop) same h = record {
  run = h.run;
  given = h.given;
  first = h.first;
  is_run = h.is_run;
  fronts = λ k file e. subst (IsFrontIfTold (file_bytes format h.run k)) (same file) (h.fronts k file e);
}

given_if : (right : Bool) (told : Told) (g : ℕ) → right ≡ true → (told_if right told).given g ≡ told.given g
given_if right told g e = ap (λ (b : Bool). (told_if b told).given g) e

pub leaves_back : (worker_plan : WorkerPlan) (card : Card) (format : CaptureFormat) (Refused : Type 0) (f : Function) (arrivals : List Arrival) (captures : List (List ℕ)) (mark : List ℕ) (last : ℕ) (right : Bool) (now : Told) (files : List ℕ) (result : Result UncountedResult RunFault) → right ≡ true
    → Leaves worker_plan card format Refused f arrivals (with_kinds captures last now.kind (with_made captures mark (told_if right now))) files result → Leaves worker_plan card format Refused f arrivals now files result
leaves_back worker_plan card format Refused f arrivals captures mark last right now files result e h = leaves_same worker_plan card format Refused f arrivals (with_kinds captures last now.kind (with_made captures mark (told_if right now))) now files result (λ g. given_if right now g e) h

pub empty_beside : (right : Bool) (told : Told) (P : Option (List ℕ) → Type 0) (g : ℕ) → right ≡ true → P (told.given g) → P ((told_if right told).given g)
empty_beside right told P g e p = subst P (sym (given_if right told g e)) p

-- ---- the mark of what is told beside made captures

pub marks_kept : (files : List ℕ) (cs ds : List (List ℕ)) (w v : ℕ) (c d : Counting) (old new : Told) (before after : Counted) → KeepsBut files (told_beside cs w c old before) (told_beside ds v d new after)
    → SameMark w v (counts_right c old) (counts_right d new) (is_known (journal_of c) before.first) (is_known (journal_of d) after.first) c.first d.first c.count d.count
marks_kept files cs ds w v c d old new before after k =
    let r = counts_right c old in
    let s = counts_right d new in
    let p = is_known (journal_of c) before.first in
    let q = is_known (journal_of d) after.first in
    mark_says w v r s p q c.first d.first c.count d.count
    (same_mark (mark_of w r p c.first c.count) (mark_of v s q d.first d.count) (told_if r old).name (told_if s new).name k.names)

pub counts_back : (c d : Counting) (new : Told) → d.first ≡ c.first → d.count ≡ c.count → counts_right d new ≡ true → CountsTo c.first c.count new d.bytes
counts_back c d new e f right =
    subst (λ (n : ℕ). is_right (bytes_from new.given c.first n) d.bytes ≡ true) f
    (subst (λ (n : ℕ). is_right (bytes_from new.given n d.count) d.bytes ≡ true) e right)

pub known_back : (c d : Counting) (before after : Counted) → d.first ≡ c.first → d.count ≡ c.count → is_known (journal_of d) after.first ≡ is_known (journal_of c) before.first → StaysKnown (journal_of c) before after
known_back c d before after e f known =
    let same : journal_of c ≡ journal_of d = omega (arith, e, f) in
    ap (λ (n : ℕ). is_known n after.first) same ∙ known
