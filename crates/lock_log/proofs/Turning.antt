-- Turns of calls, as there are more.
use Rattle.std.proofs.Common.{◌≡◌, ℕ, zero, suc, ◌+◌, ◌≤◌, ◌<◌, List, [], ◌∷◌, ◌++◌, length, take, map, Option, Some, None, slice_get, option_map, option_and_then, refl, ap, sym, ◌∙◌, subst, arith}
use Rattle.std.specs.List.{AllByRecursion}
use Rattle.std.proofs.lemmas.List.{take_more, map_push}
use Rattle.std.proofs.lemmas.Option.{same_Some, slice_get-map, slice_get_within, get_or_from_slice_get}
use Rattle.lock_core.specs.declared.call.Call.{Call}
use Rattle.lock_core.specs.declared.call.Ordered.{Ordered}
use Rattle.lock_log.specs.declared.order.Turn.{Turn}
use Rattle.lock_log.specs.Notes.{LogState}
use Rattle.lock_log.specs.Turns.{calls_of_each, call_of, ordered_by, in_front, in_turn, AreThere}

front_more : (seat : ℕ) (o : Option Call) (xs ys : List Ordered) → in_front seat o (xs ++ ys) ≡ in_front seat o xs ++ ys
front_more seat None xs ys = refl
front_more seat (Some c) xs ys = refl

turn_more : (each : List (List Call)) (ts : List Turn) (t : Turn) → in_turn each (ts ++ t ∷ []) ≡ in_turn each ts ++ in_front t.seat (call_of each t) []
turn_more each [] t = refl
turn_more each (u ∷ us) t = ap (in_front u.seat (call_of each u)) (turn_more each us t) ∙ front_more u.seat (call_of each u) (in_turn each us) (in_front t.seat (call_of each t) [])

-- one turn more, whose call is there
pub turn_pushed : (each : List (List Call)) (ts : List Turn) (t : Turn) (c : Call) → call_of each t ≡ Some c → in_turn each (ts ++ t ∷ []) ≡ in_turn each ts ++ ordered_by t.seat c ∷ []
turn_pushed each ts t c e = turn_more each ts t ∙ ap (λ (o : Option Call). in_turn each ts ++ in_front t.seat o []) e

pub there_pushed : (each : List (List Call)) (ts : List Turn) (t : Turn) (c : Call) → AreThere each ts → call_of each t ≡ Some c → AreThere each (ts ++ t ∷ [])
there_pushed each [] t c h e = ((c, e), tt)
there_pushed each (u ∷ us) t c h e = (h.0, there_pushed each us t c h.1 e)

-- each turn has one packet
pub turns_long : (each : List (List Call)) (ts : List Turn) → AreThere each ts → length (in_turn each ts) ≡ length ts
turns_long each [] h = refl
turns_long each (t ∷ ts) h = ap (λ (o : Option Call). length (in_front t.seat o (in_turn each ts))) h.0.1 ∙ ap suc (turns_long each ts h.1)

-- the call of a turn that is there
pub record Its (each : List (List Call)) (t : Turn) (x : Ordered) : Type 0 where
  pub call : Call
  pub has : call_of each t ≡ Some call
  pub is : x ≡ ordered_by t.seat call

pub turn_at : (each : List (List Call)) (ts : List Turn) (i : ℕ) (t : Turn) (x : Ordered) → AreThere each ts → slice_get ts i ≡ Some t → slice_get (in_turn each ts) i ≡ Some x → Its each t x
turn_at each [] i t x h e f = absurd (cc e)
turn_at each (u ∷ us) zero t x h e f =
    let same : u ≡ t = same_Some _ _ e in
    let first : ordered_by u.seat h.0.0 ≡ x = same_Some _ _ (ap (λ (o : Option Call). slice_get (in_front u.seat o (in_turn each us)) 0) (sym h.0.1) ∙ f) in
    record {
      call = h.0.0;
      has = ap (call_of each) (sym same) ∙ h.0.1;
      is = sym first ∙ ap (λ (v : Turn). ordered_by v.seat h.0.0) same;
    }
turn_at each (u ∷ us) (suc i) t x h e f = turn_at each us i t x h.1 e (ap (λ (o : Option Call). slice_get (in_front u.seat o (in_turn each us)) (suc i)) (sym h.0.1) ∙ f)

-- ---- the log of a turn

parts : (o : Option (List Call)) (n : ℕ) (c : Call) → option_and_then (λ (calls : List Call). slice_get calls n) o ≡ Some c → (calls : List Call) × (o ≡ Some calls) × (slice_get calls n ≡ Some c)
parts None n c e = absurd (cc e)
parts (Some calls) n c e = (calls, refl, e)

log_of : (o : Option LogState) (calls : List Call) → option_map (λ (l : LogState). l.calls) o ≡ Some calls → (l : LogState) × (o ≡ Some l) × (l.calls ≡ calls)
log_of None calls e = absurd (cc e)
log_of (Some l) calls e = (l, refl, same_Some _ _ e)

-- a turn's call stands in its seat's log, and is the packet of the order at its place
pub record Stands (logs : List LogState) (turns : List Turn) (i : ℕ) (t : Turn) : Type 0 where
  pub log : LogState
  pub call : Call
  pub at : slice_get logs t.seat ≡ Some log
  pub has : slice_get log.calls t.number ≡ Some call
  pub is : (x : Ordered) → slice_get (in_turn (calls_of_each logs) turns) i ≡ Some x → x ≡ ordered_by t.seat call

there_at : (each : List (List Call)) (ts : List Turn) (i : ℕ) (t : Turn) → AreThere each ts → slice_get ts i ≡ Some t → (c : Call) × (call_of each t ≡ Some c)
there_at each [] i t h e = absurd (cc e)
there_at each (u ∷ us) zero t h e = (h.0.0, ap (call_of each) (sym (same_Some _ _ e)) ∙ h.0.1)
there_at each (u ∷ us) (suc i) t h e = there_at each us i t h.1 e

pub stands_at : (logs : List LogState) (turns : List Turn) (i : ℕ) (t : Turn) → AreThere (calls_of_each logs) turns → slice_get turns i ≡ Some t → Stands logs turns i t
stands_at logs turns i t there e =
    let each = calls_of_each logs in
    let h = there_at each turns i t there e in
    let p = parts (slice_get each t.seat) t.number h.0 h.1 in
    let l = log_of (slice_get logs t.seat) p.0 (sym (slice_get-map (λ (z : LogState). z.calls) logs t.seat) ∙ p.1) in
    record {
      log = l.0;
      call = h.0;
      at = l.1;
      has = ap (λ (cs : List Call). slice_get cs t.number) l.2 ∙ p.2;
      is = λ x f.
          let its = turn_at each turns i t x there e f in
          its.is ∙ ap (ordered_by t.seat) (same_Some _ _ (sym its.has ∙ h.1));
    }

-- ---- the calls of one seat

item_at : (calls : List Call) (n : ℕ) → n < length calls → (c : Call) × (slice_get calls n ≡ Some c)
item_at [] n lt = absurd (omega (arith, lt))
item_at (c ∷ cs) zero lt = (c, refl)
item_at (c ∷ cs) (suc n) lt = item_at cs n (omega (arith, lt))

abbrev turn_of : ℕ → Turn
turn_of n = record { seat = 0; number = n }

pub one_there : (calls : List Call) (n : ℕ) (turns : List Turn) → n < length calls → AreThere (calls ∷ []) turns → AreThere (calls ∷ []) (turns ++ record { seat = 0; number = n } ∷ [])
one_there calls n turns lt there = let c = item_at calls n lt in there_pushed (calls ∷ []) turns (turn_of n) c.0 there c.1

pub one_more : (calls : List Call) (n : ℕ) (turns : List Turn) → n < length calls → in_turn (calls ∷ []) turns ≡ map (ordered_by 0) (take n calls) → in_turn (calls ∷ []) (turns ++ record { seat = 0; number = n } ∷ []) ≡ map (ordered_by 0) (take (n + 1) calls)
one_more calls n turns lt had =
    let c = item_at calls n lt in
    turn_pushed (calls ∷ []) turns (turn_of n) c.0 c.1
    ∙ ap (λ (xs : List Ordered). xs ++ ordered_by 0 c.0 ∷ []) had
    ∙ sym (map_push (ordered_by 0) (take n calls) c.0)
    ∙ ap (map (ordered_by 0)) (ap (λ (x : Call). take n calls ++ x ∷ []) (sym (get_or_from_slice_get calls n c.0 c.0 c.1)) ∙ sym (take_more calls n c.0 lt))
