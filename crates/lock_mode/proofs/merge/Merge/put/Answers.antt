use Rattle.std.proofs.Common.{◌≡◌, ◌+◌, ◌<◌, ◌++◌, ◌∷◌, [], ℕ, List, Some, slice_get, slice_set, get_or, length, option_map, ap, sym, ◌∙◌, subst, refl, arith}
use Rattle.std.proofs.lemmas.Option.{slice_get_read, get_or_from_slice_get}
use Rattle.lock_core.specs.declared.call.Way.{Way}
use Rattle.lock_core.specs.declared.call.Call.{Call}
use Rattle.lock_log.specs.declared.log.Head.{Head}
use Rattle.lock_log.specs.declared.order.Turn.{Turn}
use Rattle.lock_log.specs.Heads.{head_of}
use Rattle.lock_log.proofs.Keeping.{call_of_head}
use Rattle.lock_mode.specs.Merging.{AreTurns, IsBehind}
use Rattle.lock_mode.proofs.Merging.{turns_more}
use Rattle.lock_mode.proofs.merge.Merge.put.Goals as goal

pub returns : goal.returns
returns g c =
    let f = g.J.Naming.function in
    let all = c.args.all.now in
    let seats = c.args.seats.now in
    let at = c.args.at in
    let turns = c.args.self.now.turns.items in
    let taken = c.args.self.now.taken.items in
    let entries = c.args.self.now.entries in
    let new = c.behind-self.result in
    let n = c.index-next.result.now in
    let s = c.index-seats-at.result in
    let m = c.requires.merged in
    let many = m.merged.many in
    let within : at < length taken = omega (arith, many, c.requires.within) in
    let here : slice_get seats at ≡ Some s = slice_get_read seats (length seats) at s refl c.requires.within c.index-seats-at.is in
    let is : n ≡ get_or taken at 0 = sym (get_or_from_slice_get taken at n 0 (slice_get_read taken (length taken) at n refl within c.index-next.ensures)) in
    let head : Head = c.in-Some.head in
    let told : Some head ≡ option_map head_of (slice_get s.calls n) = sym c.in-Some.is ∙ (c.head.ensures.value ∙ ap (λ (cs : List Call). option_map head_of (slice_get cs n)) c.calls.ensures.calls) in
    let h = call_of_head (slice_get s.calls n) head told in
    let way : head.way ≡ h.call.way = sym (ap (λ (x : Head). x.way) h.head) in
    let behind : IsBehind h.call.way entries (length all) new =
    subst (λ (w : Way). IsBehind w entries (length all) new) way (subst (λ (l : ℕ). IsBehind head.way entries l new) c.len.ensures.length c.behind-self.ensures.behind) in
    let put : c.push_reserved.new.self.items ≡ turns ++ record { seat = s.number; number = n } ∷ [] =
    c.push_reserved.ensures.items ∙ (ap (λ (ts : List Turn). ts ++ record { seat = c.number.result; number = n } ∷ []) c.reserve.ensures.items ∙ ap (λ (k : ℕ). turns ++ record { seat = k; number = n } ∷ []) c.number.ensures.number) in
    record {
      merged = subst (λ (ts : List Turn). AreTurns f all seats ts (slice_set taken at (n + 1)) new) (sym put)
          (turns_more f all seats turns taken entries new at n g.J.Naming.seats s h.call m c.requires.numbered c.requires.seen here c.calls.ensures.made is h.is (ap (λ (x : Head). x.place) h.head ∙ c.if-head-self.false) behind);
    }
